-- No channel of a service before this one is stuck.
use Rattle.make_room.proofs.StuckLaws.{NoneBefore}
use Rattle.make_room.proofs.standing.first_stuck.Given as goal

abbrev pub invariant-loop-i : goal.invariant-loop-i
invariant-loop-i l = NoneBefore l.block l.services.list l.lows l.highs l.i
