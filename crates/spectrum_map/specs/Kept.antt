-- What is kept of the spectrum of a network: for each unit of the band on each fibre, whether it is lit, and how many
-- backups hold it.
use Rattle.std.specs.Prelude.{◌≡◌, ℕ, ◌+◌, ◌*◌, ◌/◌, ◌%◌, ◌<◌, ◌≤◌, nat_abs, nat_lt, ℤ, pos, ◌+ℤ◌, ◌-ℤ◌, ◌≤ℤ◌, Bool, false, ◌&&◌, IsTrue, List, length, slice_index_or, if◌then◌else◌}
use Rattle.std.specs.List.{AllByRecursion}
use Rattle.eon_model.specs.Grid.{Band, Units, has_unit, lies_in, span_of, unit_count, is_band}
use Rattle.eon_model.specs.Lists.{numbers_differ}
use Rattle.eon_model.specs.Rows.{Taken, Rows, Holders, rows_with}
use Rattle.spectrum_map.specs.Bits.{bit_of, AreHeld}

-- ---- words and counts

-- the place of a unit in the row of a fibre
abbrev pub place_of : Band → ℤ → ℕ
place_of band u = nat_abs (u -ℤ (span_of band).lo)

-- the place of a fibre's unit, in rows of 1,024 places
abbrev pub index_of : Band → ℕ → ℤ → ℕ
index_of band fibre u = 1024 * fibre + place_of band u

-- There are units of a band, and their places in a row are those from first up to and without end.
pub record ArePlaces (band : Band) (units : Units) (first end : ℕ) : Type 0 where
  pub band_is : IsTrue (is_band band)
  pub some : units.lo ≤ℤ units.hi
  pub first_is : first ≡ place_of band units.lo
  pub end_is : end ≡ place_of band units.lo + unit_count units
  pub order : first ≤ end
  pub few : end ≤ 1024

-- whether the place is that of a unit of the band's span which passes the test
abbrev pub is_unit_that : Band → (ℤ → Bool) → ℕ → Bool
is_unit_that band test i = nat_lt i (unit_count (span_of band)) && test ((span_of band).lo +ℤ pos i)

-- whether it is a unit of the band's span, on a fibre that is kept
abbrev pub is_kept : Band → ℕ → ℕ → ℤ → Bool
is_kept band fibres fibre u = nat_lt fibre fibres && has_unit (span_of band) u

-- whether the bit of this unit is 1
abbrev pub bit_at_unit : Band → ℕ → List ℕ → ℕ → ℤ → Bool
bit_at_unit band fibres words fibre u = is_kept band fibres fibre u && bit_of words (index_of band fibre u)

-- the count of this unit
abbrev pub count_at_unit : Band → ℕ → List ℕ → ℕ → ℤ → ℕ
count_at_unit band fibres counts fibre u =
    if is_kept band fibres fibre u then slice_index_or counts (index_of band fibre u) 0 else 0

-- The bits of the lit units of a band on so many fibres, and the counts of the backups that hold each.
pub record Kept : Type 0 where
  pub band : Band
  pub fibres : ℕ
  pub words : List ℕ
  pub counts : List ℕ

-- whether the unit is lit on the fibre
abbrev pub lit_in : Kept → ℕ → ℤ → Bool
lit_in kept = bit_at_unit kept.band kept.fibres kept.words

-- how many backups hold it there
abbrev pub holders_in : Kept → Holders
holders_in kept = count_at_unit kept.band kept.fibres kept.counts

-- the rows: a unit is held where a backup or more hold it
abbrev pub rows_in : Kept → Rows
rows_in kept = rows_with (lit_in kept) (holders_in kept)

-- The second has the band and the fibres of the first, and these units are lit and held.
pub record Becomes (before after : Kept) (lit : ℕ → ℤ → Bool) (holders : Holders) : Type 0 where
  pub band : after.band ≡ before.band
  pub fibres : after.fibres ≡ before.fibres
  pub lit_is : lit_in after ≡ lit
  pub holders_are : holders_in after ≡ holders

-- It is of this band and of so many fibres, with nothing lit or held.
pub record IsEmpty (band : Band) (fibres : ℕ) (kept : Kept) : Type 0 where
  pub band_is : kept.band ≡ band
  pub fibres_are : kept.fibres ≡ fibres
  pub dark : lit_in kept ≡ (λ fibre u. false)
  pub free : holders_in kept ≡ (λ fibre u. 0)

-- units on these fibres
abbrev pub taken : List ℕ → Units → Taken
taken fibres units = record { fibres = fibres; units = units }

-- The fibres are some of those that are kept, none twice, and the units lie between the band's lowest and highest.
pub record IsKeptThere (kept : Kept) (t : Taken) : Type 0 where
  pub fibres : AllByRecursion (λ fibre. fibre < kept.fibres) t.fibres
  pub once : IsTrue (numbers_differ t.fibres)
  pub units : IsTrue (lies_in (span_of kept.band) t.units)

-- Rows of 16 words and of 1,024 counts for each fibre; the bit of a unit that is held is 1 where its count is not 0, and
-- the bits and counts past the band's highest unit are 0.
pub record AreRows (band : Band) (fibres : ℕ) (lit held counts : List ℕ) : Type 0 where
  pub few : fibres < 256
  pub band_is : IsTrue (is_band band)
  pub lit_count : length lit ≡ 16 * fibres
  pub held_count : length held ≡ 16 * fibres
  pub counts_count : length counts ≡ 1024 * fibres
  pub held_is : AreHeld held counts
  pub dark_past : (i : ℕ) → unit_count (span_of band) ≤ i % 1024 → bit_of lit i ≡ false
  pub free_past : (i : ℕ) → unit_count (span_of band) ≤ i % 1024 → slice_index_or counts i 0 ≡ 0
  pub few_held : (i : ℕ) → slice_index_or counts i 0 ≤ 8192

-- how many words the units from the band's lowest to its highest fill
abbrev pub words_for : Band → ℕ
words_for band = (unit_count (span_of band) + 63) / 64
