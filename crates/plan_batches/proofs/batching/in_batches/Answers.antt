use Rattle.std.proofs.Common.{rules}
use Rattle.std.proofs.lemmas.List.Sorted.{IsNonDecreasingBy-from_sort_by_key, answers_always}
use Rattle.compact_plan.specs.declared.answers.Move.{Move}
use Rattle.plan_batches.proofs.SortSteps.{sorted-stably}
use Rattle.plan_batches.proofs.batching.in_batches.Goals as goal

pub returns : goal.returns
returns c =
    sorted-stably (λ (m : Move). m.batch) c.args.moves.items _
    (IsNonDecreasingBy-from_sort_by_key (λ (m : Move). m.batch) _ c.in_ok-sort_by_key.ensures.sorted (λ a r q k. search rules))
    (c.in_ok-sort_by_key.ensures.stable (λ (m : Move). m.batch) (answers_always _ _ _ (λ f a r g k. search rules)))
