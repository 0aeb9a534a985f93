-- The rows that a layer may take over from its base, in words.
use Rattle.std.specs.Prelude.{◌≡◌, ℕ, ◌≤◌, false, IsTrue, List, [], slice_index_or}
use Rattle.eon_model.specs.Grid.{Band, span_of, unit_count, is_band}
use Rattle.spectrum_map.specs.Bits.{bit_of}
use Rattle.spectrum_map.specs.declared.row.Row.{Row}

-- A band, and a row of 1,024 places for each fibre.
pub record KeptRows : Type 0 where
  pub band : Band
  pub rows : List Row

-- the words of the fibre's row, none where it has none
abbrev pub words_at : List Row → ℕ → List ℕ
words_at rows fibre = (slice_index_or rows fibre (record { words = [] })).words

-- No place past the band's highest unit is marked.
pub record IsWithin (band : Band) (words : List ℕ) : Type 0 where
  pub past : (i : ℕ) → unit_count (span_of band) ≤ i → bit_of words i ≡ false

-- The band is one, and each row is marked within it.
pub record AreWithin (band : Band) (rows : List Row) : Type 0 where
  pub band_is : IsTrue (is_band band)
  pub within : (fibre : ℕ) → IsWithin band (words_at rows fibre)
