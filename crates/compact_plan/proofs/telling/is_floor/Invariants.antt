-- The parts before this one begin elsewhere.
use Rattle.std.proofs.Common.{◌≡◌, pos, ◌-ℤ◌, drop}
use Rattle.std.specs.List.{list_any}
use Rattle.std.specs.Ordering.{int_eq}
use Rattle.compact_plan.proofs.telling.is_floor.Given as goal

abbrev pub invariant-loop-i : goal.invariant-loop-i
invariant-loop-i l =
    list_any (λ part. int_eq (pos l.low -ℤ pos 4096) part.lo) (drop l.i l.band)
    ≡ list_any (λ part. int_eq (pos l.low -ℤ pos 4096) part.lo) l.band
