use Rattle.std.proofs.Common.{◌∙◌, ap, List, map}
use Rattle.eon_model.specs.Plan.{greatest}
use Rattle.compact_plan.specs.declared.answers.Move.{Move}
use Rattle.plan_batches.proofs.PlanSteps.{makes-plan}
use Rattle.plan_batches.proofs.batching.batches.Goals as goal

pub returns : goal.returns
returns c =
    makes-plan c.args.services.now.list c.args.targets.moves.list.items c.give_turns.new.moves.items
    c.in_ok-in_batches.field-0.list.items c.latest_batch-batches.result c.in_ok-give_turns.ensures c.in_ok-in_batches.ensures
    (c.latest_batch-batches.ensures ∙ ap (λ (ms : List Move). greatest (map (λ (m : Move). m.batch) ms)) c.deref-3.ensures.value)
