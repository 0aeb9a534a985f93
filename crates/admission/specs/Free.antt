-- Which units of a band are free for a path, and the runs of free units.
use Rattle.std.specs.Prelude.{◌≡◌, ℕ, ◌+◌, ◌<◌, ◌≤◌, nat_abs, ℤ, pos, ◌+ℤ◌, ◌-ℤ◌, int_le, Bool, false, ◌&&◌, not, IsTrue, List, [], ◌∷◌, length, slice_index_or, Option, Some, None}
use Rattle.std.specs.List.{list_all}
use Rattle.eon_model.specs.Grid.{Units, Band, Slot, units_of, lies_in, span_of, is_slot}
use Rattle.eon_model.specs.Occupied.{units_in}
use Rattle.admission.specs.declared.row.Row.{Row}

-- whether the unit of the band's span is taken
abbrev pub is_taken : Row → ℤ → Bool
is_taken row u = slice_index_or row.taken (nat_abs (u -ℤ (span_of row.band).lo)) false

-- whether none of these units is
abbrev pub are_free : Row → Units → Bool
are_free row s = list_all (λ u. not (is_taken row u)) (units_in s)

-- one or more units of the band's span
abbrev pub are_within : Band → Units → Bool
are_within band s = int_le s.lo s.hi && lies_in (span_of band) s

-- whether the slot is one of the grid, and lies in the band's span with no unit taken
abbrev pub fits_free : Row → Slot → Bool
fits_free row slot =
    is_slot slot && lies_in (span_of row.band) (units_of slot) && are_free row (units_of slot)

-- Units of the span of this band are free exactly where they pass the test.
pub record IsFreeWhere (row : Row) (band : Band) (test : Units → Bool) : Type 0 where
  pub of_band : row.band ≡ band
  pub free : (s : Units) → IsTrue (are_within band s) → are_free row s ≡ test s

-- Units are free afterwards exactly where they were free before and pass the test.
pub record Takes (before after : Row) (test : Units → Bool) : Type 0 where
  pub same_band : after.band ≡ before.band
  pub free : (s : Units) → IsTrue (are_within before.band s) → are_free after s ≡ (are_free before s && test s)

-- the units between each part of a band and the next
abbrev pub gaps_of : Band → List Units
gaps_of [] = []
gaps_of (part ∷ []) = []
gaps_of (part ∷ next ∷ parts) =
    record { lo = part.hi +ℤ pos 1; hi = next.lo -ℤ pos 1 } ∷ gaps_of (next ∷ parts)

-- ---- runs

-- The places up to this one, so many of them, are free.
pub record EndsRun (taken : List Bool) (width i : ℕ) : Type 0 where
  pub long : width ≤ i + 1
  pub free : (k : ℕ) → k ≤ i → i < k + width → slice_index_or taken k false ≡ false

-- It is the first place where such a run ends.
pub record IsFirstRun (taken : List Bool) (width i : ℕ) : Type 0 where
  pub within : i < length taken
  pub here : EndsRun taken width i
  pub first : (k : ℕ) → k < i → ¬ EndsRun taken width k

-- the first place, or none where there is no such run
abbrev pub IsRunFound : List Bool → ℕ → Option ℕ → Type 0
IsRunFound taken width None = (i : ℕ) → i < length taken → ¬ EndsRun taken width i
IsRunFound taken width (Some i) = IsFirstRun taken width i
