use Rattle.make_room.specs.Sweeps.{IsEach, BeginsWithin}
use Rattle.make_room.proofs.targets.bounds.Given as goal

-- those so far
abbrev pub invariant-loop-i : goal.invariant-loop-i
invariant-loop-i l = IsEach (BeginsWithin l.heights) l.services.list l.i l.begins.items
