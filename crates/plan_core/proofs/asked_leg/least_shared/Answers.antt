use Rattle.std.proofs.Common.{◌≡◌, ◌∙◌, sym, ap, ◌+◌, length, arith, ℕ}
use Rattle.eon_model.specs.Names.{least_name}
use Rattle.plan_core.specs.Placing.{least_with, shared_below}
use Rattle.plan_core.proofs.SharedSteps.{least_below-more, least_below-all}
use Rattle.plan_core.proofs.asked_leg.least_shared.Goals as goal

pub loop-risk-preserved : goal.loop-risk-preserved
loop-risk-preserved c =
    c.least_with-least.ensures
    ∙ ap (λ o. least_with c.args.net.now c.args.a.now c.args.b.now c.loop-risk.risk o) c.loop-risk.invariant
    ∙ sym (least_below-more c.args.net.now c.args.a.now c.args.b.now c.loop-risk.risk)

pub returns : goal.returns
returns c =
    let all : c.loop-risk.risk ≡ length c.args.net.now.fibres + length c.args.net.now.groups =
    omega (arith, c.loop-risk-test.false, c.loop-risk.auto.risk-end, c.from.ensures, c.from-2.ensures, c.fibres.ensures.count, c.groups.ensures.count) in
    c.loop-risk.invariant
    ∙ ap (λ (n : ℕ). least_name (shared_below c.args.net.now c.args.a.now c.args.b.now n)) all
    ∙ least_below-all c.args.net.now c.args.a.now c.args.b.now (length c.args.net.now.fibres + length c.args.net.now.groups) c.requires.known
