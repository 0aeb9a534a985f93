use Rattle.std.proofs.Common.{◌≡◌, ◌≤◌, ◌∙◌, sym, ap, length, true, Some, arith}
use Rattle.eon_model.specs.Grid.{is_slot}
use Rattle.eon_model.specs.Services.{Path}
use Rattle.make_room.proofs.StuckLaws.{stuck_here, stuck_past, stuck_none}
use Rattle.make_room.proofs.standing.first_stuck.Goals as goal

pub returns-then-channel_is_stuck : goal.returns-then-channel_is_stuck
returns-then-channel_is_stuck c =
    let block = c.args.block.now in
    let slot : is_slot block.slot ≡ true = ap (λ (p : Path). is_slot p.slot) (sym c.block.view_is) ∙ c.m.ensures.valid in
    (λ i. Some (c.service.view_is i).name)
    ∙ stuck_here block slot c.args.services.now.list c.args.lows.now c.args.highs.now c.requires.lows.long c.requires.highs.long
    c.loop-i.i c.at-service.result.now c.loop-i.invariant c.at-service.ensures.service
    (sym c.channel_is_stuck.ensures ∙ c.if-channel_is_stuck.true)

pub loop-i-preserved : goal.loop-i-preserved
loop-i-preserved c =
    let block = c.args.block.now in
    let slot : is_slot block.slot ≡ true = ap (λ (p : Path). is_slot p.slot) (sym c.block.view_is) ∙ c.m.ensures.valid in
    stuck_past block slot c.args.services.now.list c.args.lows.now c.args.highs.now c.requires.lows.long c.requires.highs.long
    c.loop-i.i c.at-service.result.now c.loop-i.invariant c.at-service.ensures.service
    (sym c.channel_is_stuck.ensures ∙ c.if-channel_is_stuck.false)

pub returns : goal.returns
returns c =
    let block = c.args.block.now in
    let slot : is_slot block.slot ≡ true = ap (λ (p : Path). is_slot p.slot) (sym c.block.view_is) ∙ c.m.ensures.valid in
    let count = c.len-i-end.ensures.count in
    let test = c.loop-i-test.false in
    let past : length c.args.services.now.list ≤ c.loop-i.i = omega arith in
    stuck_none block slot c.args.services.now.list c.args.lows.now c.args.highs.now c.requires.lows.long c.requires.highs.long
    c.loop-i.i c.loop-i.invariant past
