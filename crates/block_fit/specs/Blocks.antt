-- Slots in a band whose units all pass a test.
use Rattle.std.specs.Prelude.{ℕ, ℤ, int_le, Bool, ◌&&◌, not, find, Option}
use Rattle.std.specs.List.{list_all, list_any}
use Rattle.eon_model.specs.Grid.{Band, Slot, units_of, has_unit}
use Rattle.eon_model.specs.FirstFit.{centres_in}
use Rattle.eon_model.specs.Rows.{units_in}
use Rattle.eon_model.specs.FirstInRows.{stands_in}

-- whether the unit lies in one of the parts
abbrev pub is_in_parts : Band → ℤ → Bool
is_in_parts band u = list_any (λ part. has_unit part u) band

-- whether the slot lies in one part of the band, and none of its units passes the test
abbrev pub stands_clear : (ℤ → Bool) → Band → ℕ → ℤ → Bool
stands_clear test band m n =
    let slot : Slot = record { n = n; m = m } in
    stands_in band slot && list_all (λ u. not (test u)) (units_in (units_of slot))

-- the least centre of such a slot, at least `from`
abbrev pub least_clear : (ℤ → Bool) → ℕ → Band → ℤ → Option ℤ
least_clear test m band from = find (λ n. int_le from n && stands_clear test band m n) (centres_in band)
