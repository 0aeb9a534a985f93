-- What is kept beside the shared backups of a network.
use Rattle.std.specs.Prelude.{◌≡◌, ℕ, ◌<◌, IsTrue, length}
use Rattle.eon_model.specs.Grid.{Band}
use Rattle.eon_model.specs.Sets.{NumberSet, has_member}
use Rattle.spectrum_map.specs.Kept.{Kept}
use Rattle.backup_sharing.specs.Shared.{Sharers}

-- The backups and the maps are of this band, on so many fibres, with so many groups, and so many backups were added.
pub record AreOf (sharing : Sharers) (maps : Kept) (band : Band) (fibres groups added : ℕ) : Type 0 where
  pub band_is : sharing.band ≡ band
  pub fibres_are : sharing.fibres ≡ fibres
  pub groups_are : sharing.groups ≡ groups
  pub many : length sharing.reserves ≡ added
  pub map_band : maps.band ≡ band
  pub map_fibres : maps.fibres ≡ fibres

-- each group of the risk is one of the first so many
abbrev pub IsBelow : ℕ → NumberSet → Type 0
IsBelow groups risk = (g : ℕ) → IsTrue (has_member risk g) → g < groups
