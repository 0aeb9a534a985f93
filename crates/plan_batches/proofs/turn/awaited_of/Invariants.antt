-- What is found so far, and then among those that are left, is what is found among all.
use Rattle.std.proofs.Common.{◌≡◌, drop}
use Rattle.std.specs.Prelude.{fold}
use Rattle.plan_batches.specs.Awaited.{awaited}
use Rattle.plan_batches.proofs.turn.awaited_of.Given as goal

abbrev pub invariant-loop-turn : goal.invariant-loop-turn
invariant-loop-turn l =
    fold (awaited l.mover) l.found (drop l.turn-index l.turns) ≡ fold (awaited l.mover) l.initial.found l.turns
