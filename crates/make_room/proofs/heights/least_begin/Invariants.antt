use Rattle.make_room.specs.Heights.{base_of, backup_end_of, IsMaxTo}
use Rattle.make_room.proofs.heights.least_begin.Given as goal

-- the greatest of those so far
abbrev pub invariant-loop-i : goal.invariant-loop-i
invariant-loop-i l =
    IsMaxTo (backup_end_of l.from l.path) l.services.list (base_of l.from l.band l.path) l.i l.least
