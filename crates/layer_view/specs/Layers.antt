-- What a layer shows: its base, with the rows that it has taken over in place of the base's.
use Rattle.std.specs.Prelude.{◌≡◌, ℕ, ◌<◌, ◌≤◌, min, ℤ, ◌<ℤ◌, Bool, true, false, ◌&&◌, ◌==◌, IsTrue, List, [], ◌∷◌, length, slice_index_or, if◌then◌else◌}
use Rattle.std.specs.List.{AllByRecursion}
use Rattle.std.specs.Ordering.{int_eq}
use Rattle.eon_model.specs.Grid.{Band, Units, has_unit, lies_in, span_of, unit_count, is_band}
use Rattle.eon_model.specs.Rows.{Rows, Taken}
use Rattle.spectrum_map.specs.Bits.{bit_of}
use Rattle.spectrum_map.specs.Kept.{place_of, is_unit_that}
use Rattle.layer_view.specs.Kept.{KeptRows, words_at}

-- ---- marks

-- the places that are 1 are those of the units of the band's span which pass the test
abbrev pub Marks : Band → List ℕ → (ℤ → Bool) → Type 0
Marks band words test = (i : ℕ) → bit_of words i ≡ is_unit_that band test i

-- The units of the band's span below this one have the places up to and without the end.
pub record EndsBelow (band : Band) (unit : ℤ) (end : ℕ) : Type 0 where
  pub band_is : IsTrue (is_band band)
  pub few : end ≤ 1024
  pub within : end ≤ unit_count (span_of band)
  pub below : (v : ℤ) → IsTrue (has_unit (span_of band) v) → v <ℤ unit → place_of band v < end
  pub above : (v : ℤ) → IsTrue (has_unit (span_of band) v) → place_of band v < end → v <ℤ unit

-- ---- rows

-- whether the fibre's row was taken over
abbrev pub is_own : List Bool → ℕ → Bool
is_own own fibre = slice_index_or own fibre false

-- whether the unit is lit: as its mark in the row that was taken over says, else as in the base
abbrev pub lit_over : (ℕ → ℤ → Bool) → KeptRows → List Bool → ℕ → ℤ → Bool
lit_over lit kept own fibre u =
    if is_own own fibre && has_unit (span_of kept.band) u then bit_of (words_at kept.rows fibre) (place_of kept.band u)
    else lit fibre u

-- the rows of a layer over these: what shared backups hold is as in the base
abbrev pub rows_over : Rows → KeptRows → List Bool → Rows
rows_over base kept own = record { lit = lit_over base.lit kept own; held = base.held }

-- whether both are the same units
abbrev pub same_units : Units → Units → Bool
same_units a b = int_eq a.lo b.lo && int_eq a.hi b.hi

-- whether both are the same band
abbrev pub same_band : Band → Band → Bool
same_band [] [] = true
same_band [] (b ∷ bs) = false
same_band (a ∷ rest) [] = false
same_band (a ∷ rest) (b ∷ bs) = same_units a b && same_band rest bs

-- the fibres of a layer: those of the base, where the rows are of its band and as many
abbrev pub fibres_over : Band → ℕ → KeptRows → ℕ
fibres_over band fibres kept = if same_band band kept.band then min fibres (length kept.rows) else 0

-- The fibres are some of so many, and the units lie between the band's lowest and highest.
pub record IsThere (fibres : ℕ) (band : Band) (t : Taken) : Type 0 where
  pub fibres_are : AllByRecursion (λ fibre. fibre < fibres) t.fibres
  pub units_are : IsTrue (lies_in (span_of band) t.units)

-- Rows of the same band, and as many.
pub record KeepsShape (before after : KeptRows) : Type 0 where
  pub band : after.band ≡ before.band
  pub count : length after.rows ≡ length before.rows

-- whether each unit is lit, where in the span of the band on this fibre the test tells it
abbrev pub with_row : (ℕ → ℤ → Bool) → Band → ℕ → (ℤ → Bool) → ℕ → ℤ → Bool
with_row lit band fibre test g u = if fibre == g && has_unit (span_of band) u then test u else lit g u
