-- The movers so far have their batches.
use Rattle.std.proofs.Common.{◌≡◌, length}
use Rattle.plan_batches.proofs.GivenLaws.{HasGiven}
use Rattle.plan_batches.proofs.batching.give_turns.Given as goal

abbrev pub invariant-loop-mover : goal.invariant-loop-mover
invariant-loop-mover l =
    (length l.rows.items ≡ 256)
    × HasGiven l.services.list l.initial.moves.items l.movers l.mover-index l.rows.items l.moves.items
