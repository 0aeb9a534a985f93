-- What a sheet keeps beside its maps.
use Rattle.std.specs.Prelude.{◌≡◌, ℕ, ◌≤◌, ℤ, pos, ◌+ℤ◌, ◌≤ℤ◌, ◌<◌, Bool, true, length}
use Rattle.eon_model.specs.Grid.{Band, Units}
use Rattle.spectrum_map.specs.Kept.{Kept, holders_in}
use Rattle.layer_view.specs.Kept.{KeptRows}

-- The maps are of this band and of so many fibres, and no unit is held by more backups than were held in all.
pub record IsSheet (maps : Kept) (band : Band) (fibres holds : ℕ) : Type 0 where
  pub band_is : maps.band ≡ band
  pub fibres_are : maps.fibres ≡ fibres
  pub few : (fibre : ℕ) (u : ℤ) → holders_in maps fibre u ≤ holds

-- It is the unit of this number alone, counted from 0 at the lowest.
pub record IsUnitOf (units : Units) (i : ℕ) (unit : Units) : Type 0 where
  pub lo_is : unit.lo ≡ (units.lo +ℤ pos i)
  pub hi_is : unit.hi ≡ (units.lo +ℤ pos i)
  pub within : unit.hi ≤ℤ units.hi

-- The first of these units, so many, all pass the test.
abbrev pub PassTo : (ℤ → Bool) → Units → ℕ → Type 0
PassTo test units count = (i : ℕ) → i < count → test (units.lo +ℤ pos i) ≡ true

-- The rows are of this band, and as many as its fibres.
pub record AreRowsOf (rows : KeptRows) (band : Band) (fibres : ℕ) : Type 0 where
  pub band_is : rows.band ≡ band
  pub count : length rows.rows ≡ fibres
