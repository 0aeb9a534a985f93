-- The latest so far, and then of those that are left, is the latest of all.
use Rattle.std.proofs.Common.{◌≡◌, drop, map, max}
use Rattle.std.specs.Prelude.{fold}
use Rattle.compact_plan.specs.declared.answers.Move.{Move}
use Rattle.eon_model.specs.Plan.{greatest}
use Rattle.plan_batches.proofs.batching.latest_batch.Given as goal

abbrev pub invariant-loop-target : goal.invariant-loop-target
invariant-loop-target l =
    fold max l.latest (map (λ (m : Move). m.batch) (drop l.target-index l.moves)) ≡ greatest (map (λ (m : Move). m.batch) l.moves)
