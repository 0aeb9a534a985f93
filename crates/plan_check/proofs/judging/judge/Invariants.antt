-- The moves that have landed and those under way, and how many steps are left at most.
use Rattle.std.proofs.Common.{◌≡◌, ◌+◌, ◌-◌, length}
use Rattle.plan_texts.specs.Told.{moves_told}
use Rattle.plan_check.proofs.Flights.{Flight}
use Rattle.plan_check.proofs.judging.judge.Given as goal

abbrev pub invariant-loop-at : goal.invariant-loop-at
invariant-loop-at l = record {
  setup : l.core.setup ≡ l.initial.core.setup;
  flight : Flight l.initial.core.setup l.initial.core.state (moves_told l.moves) l.core.state l.landed l.at;
}

abbrev pub decreases-loop-at : goal.decreases-loop-at
decreases-loop-at l = length l.moves + length l.moves - (l.landed + l.at)
