-- The movers of the moves so far.
use Rattle.plan_batches.proofs.MoverSteps.{AreMoversTo}
use Rattle.plan_batches.proofs.batching.movers_in_list.Given as goal

abbrev pub invariant-loop-i : goal.invariant-loop-i
invariant-loop-i l = AreMoversTo l.services.list l.moves l.movers.items l.i
