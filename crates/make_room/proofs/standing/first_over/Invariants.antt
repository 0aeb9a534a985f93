-- No backup of a service before this one lies over the block.
use Rattle.std.proofs.Common.{◌≡◌, drop, find}
use Rattle.eon_model.specs.Room.{is_over}
use Rattle.make_room.proofs.standing.first_over.Given as goal

abbrev pub invariant-loop-i : goal.invariant-loop-i
invariant-loop-i l = find (is_over l.block) (drop l.i l.services.list) ≡ find (is_over l.block) l.services.list
