-- The places before this one are filled.
use Rattle.std.proofs.Common.{map}
use Rattle.eon_disk.proofs.RangeLaws.{FilledTo}
use Rattle.eon_disk.proofs.medium.fill_places.Given as goal

abbrev pub invariant-loop-i : goal.invariant-loop-i
invariant-loop-i l = FilledTo l.byte (map (λ r. (r.at, r.count)) l.ranges) l.fn.bytes l.bytes l.i
