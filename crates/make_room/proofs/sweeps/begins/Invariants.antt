use Rattle.make_room.specs.Sweeps.{IsEach, Begins}
use Rattle.make_room.proofs.sweeps.begins.Given as goal

-- those so far
abbrev pub invariant-loop-i : goal.invariant-loop-i
invariant-loop-i l = IsEach (λ j. Begins l.from) l.services.list l.i l.begins.items
