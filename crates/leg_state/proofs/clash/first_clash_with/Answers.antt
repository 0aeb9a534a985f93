use Rattle.std.proofs.Common.{◌≤◌, ◌∙◌, sym, length, add-one, arith, Some}
use Rattle.std.specs.Option.{option_copied}
use Rattle.leg_state.specs.Clashes.{clashes_of}
use Rattle.leg_state.proofs.ClashLemmas.{find_past, first_found, first_none}
use Rattle.leg_state.proofs.clash.first_clash_with.Goals as goal

pub returns-then-clashes : goal.returns-then-clashes
returns-then-clashes c =
    (λ i. Some (c.service.view_is i).name)
    ∙ sym (first_found c.args.services.now.list c.args.class c.args.leg.now (option_copied c.args.owner) c.loop-i.i
    c.loop-i.invariant c.at-service.result.now c.at-service.ensures.service
    (sym c.clashes.ensures ∙ c.if-clashes.true))

pub loop-i-preserved : goal.loop-i-preserved
loop-i-preserved c =
    rw (add-one c.loop-i.i)
    (sym (find_past (clashes_of c.args.class c.args.leg.now (option_copied c.args.owner)) c.args.services.now.list c.loop-i.i
    c.at-service.result.now c.at-service.ensures.service (sym c.clashes.ensures ∙ c.if-clashes.false))
    ∙ c.loop-i.invariant)

pub returns : goal.returns
returns c =
    let past : length c.args.services.now.list ≤ c.loop-i.i = omega arith in
    sym (first_none c.args.services.now.list c.args.class c.args.leg.now (option_copied c.args.owner) c.loop-i.i
    c.loop-i.invariant past)
