use Rattle.std.proofs.Common.{◌∙◌, sym}
use Rattle.eon_model.specs.Room.{first_stuck}
use Rattle.make_room.specs.Shifts.{all_shifts}
use Rattle.make_room.proofs.StuckLaws.{leeways, told_stuck, told_found}
use Rattle.make_room.proofs.room.room_beside.Goals as goal

pub returns-in-Some : goal.returns-in-Some
returns-in-Some c rest clear setup of_band ok legal =
    let state = c.args.services.now.list in
    told_stuck c.args.band.now state c.args.block.now c.in_ok-targets.targets c.in_ok-targets.ensures.targets rest clear setup of_band
    ok legal c.in-Some.name
    ((λ i. first_stuck c.args.block.now (leeways state (sym c.deref.ensures.value i) (sym c.deref-2.ensures.value i)))
    ∙ sym c.first_stuck.ensures ∙ c.in-Some.is)

pub returns : goal.returns
returns c rest clear setup of_band ok legal =
    let state = c.args.services.now.list in
    told_found c.args.band.now state c.args.block.now c.in_ok-targets.targets c.in_ok-targets.ensures.targets rest clear setup of_band
    ok legal c.in_ok-list.list.items
    ((λ i. first_stuck c.args.block.now (leeways state (sym c.deref.ensures.value i) (sym c.deref-2.ensures.value i)))
    ∙ sym c.first_stuck.ensures ∙ c.in_default.is)
    (c.in_ok-list.ensures ∙ (λ i. all_shifts state (c.deref-3.ensures.value i) (c.deref-4.ensures.value i)))
