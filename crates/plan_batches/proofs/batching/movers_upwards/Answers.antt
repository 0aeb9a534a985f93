use Rattle.std.proofs.Common.{rules}
use Rattle.std.proofs.lemmas.List.Sorted.{IsNonDecreasingBy-from_sort_by_key}
use Rattle.plan_batches.specs.declared.mover.Mover.{Mover}
use Rattle.plan_batches.proofs.MoverSteps.{movers_moved}
use Rattle.plan_batches.proofs.batching.movers_upwards.Goals as goal

pub returns-clause-movers : goal.returns-clause-movers
returns-clause-movers c =
    movers_moved c.args.services.now.list c.args.moves.now c.in_ok-movers.movers.items _ c.in_ok-movers.ensures
    c.in_ok-sort_by_key.ensures.permutation

pub returns-clause-order : goal.returns-clause-order
returns-clause-order c =
    IsNonDecreasingBy-from_sort_by_key (λ (m : Mover). m.low) _ c.in_ok-sort_by_key.ensures.sorted (λ a r q k. search rules)
