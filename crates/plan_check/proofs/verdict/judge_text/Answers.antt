use Rattle.std.proofs.Common.{arith}
use Rattle.std.proofs.lemmas.List.{length-map}
use Rattle.eon_model.proofs.PlanReads.{plan-read}
use Rattle.plan_texts.specs.Told.{move_told, plan_told}
use Rattle.plan_check.proofs.PlanParts.{plan-in-range}
use Rattle.plan_check.proofs.verdict.judge_text.Goals as goal

pub judge_plan-requires-clause-order : goal.judge_plan-requires-clause-order
judge_plan-requires-clause-order c =
    (plan-read c.args.core.now.setup c.args.core.now.state c.args.text.now (plan_told c.in-Ok.plan) c.in-Ok.ensures.ok).1

pub judge_plan-requires-clause-in_range : goal.judge_plan-requires-clause-in_range
judge_plan-requires-clause-in_range c =
    (plan-in-range c.args.text.now (plan_told c.in-Ok.plan) c.in-Ok.ensures.ok).lines

pub judge_plan-requires-clause-few : goal.judge_plan-requires-clause-few
judge_plan-requires-clause-few c =
    let few = (plan-in-range c.args.text.now (plan_told c.in-Ok.plan) c.in-Ok.ensures.ok).few in
    let long = length-map c.in-Ok.plan.moves.items move_told in
    omega arith
