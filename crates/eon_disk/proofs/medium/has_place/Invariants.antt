-- No range before this one has the place.
use Rattle.std.proofs.Common.{◌≡◌, map, drop}
use Rattle.eon_disk.specs.HeldBytes.{is_in}
use Rattle.eon_disk.proofs.medium.has_place.Given as goal

abbrev pub invariant-loop-range : goal.invariant-loop-range
invariant-loop-range l =
    is_in (map (λ r. (r.at, r.count)) (drop l.range-index l.ranges)) l.place
    ≡ is_in (map (λ r. (r.at, r.count)) l.ranges) l.place
