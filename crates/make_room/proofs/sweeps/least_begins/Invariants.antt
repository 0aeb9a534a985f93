use Rattle.make_room.specs.Sweeps.{IsEach, BeginsLeast}
use Rattle.make_room.proofs.sweeps.least_begins.Given as goal

-- those so far
abbrev pub invariant-loop-i : goal.invariant-loop-i
invariant-loop-i l = IsEach (λ j. BeginsLeast l.from l.band l.services.list) l.services.list l.i l.begins.items
