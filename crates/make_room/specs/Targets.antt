-- Where the channels of a legal state at rest can go to make room for a block.
use Rattle.std.specs.Prelude.{◌≡◌, ℕ, ℤ, List, IsTrue}
use Rattle.eon_model.specs.Grid.{Band, is_band}
use Rattle.eon_model.specs.Services.{Path, State}
use Rattle.eon_model.specs.Legal.{Setup, Legal}
use Rattle.eon_model.specs.Drift.{AreLowest}
use Rattle.eon_model.specs.Places.{AtRest}
use Rattle.eon_model.specs.Room.{AreHighest, leeways_of, AreDownTargets, AreUpTargets}
use Rattle.make_room.specs.declared.heights.Side.{Side}
use Rattle.make_room.specs.declared.heights.Side.TheVariants.{Floor, Ceiling}
use Rattle.make_room.specs.declared.targets.Targets.{Targets}
use Rattle.make_room.specs.Sweeps.{centres_from}

-- the bounds of a sweep: the places at the end to which it goes
abbrev pub bounds_from : Side → List ℕ → List ℕ → List ℕ
bounds_from Ceiling lows highs = lows
bounds_from Floor lows highs = highs

-- the centres at these heights
abbrev pub low_centres : State → Targets → List ℤ
low_centres state t = centres_from Floor state t.lows.items

abbrev pub high_centres : State → Targets → List ℤ
high_centres state t = centres_from Ceiling state t.highs.items

abbrev pub down_centres : State → Targets → List ℤ
down_centres state t = centres_from Ceiling state t.downs.items

abbrev pub up_centres : State → Targets → List ℤ
up_centres state t = centres_from Floor state t.ups.items

-- The lowest and the highest places, and the targets downwards and upwards.
pub record AreRoomTargets (setup : Setup) (state : State) (block : Path) (t : Targets) : Type 0 where
  pub lowest : AreLowest setup state (low_centres state t)
  pub highest : AreHighest setup state (high_centres state t)
  pub down : AreDownTargets setup state block (leeways_of state (low_centres state t) (high_centres state t))
      (down_centres state t)
  pub up : AreUpTargets setup state block (leeways_of state (low_centres state t) (high_centres state t))
      (up_centres state t)

-- whatever the network of this band
abbrev pub TellsTargets : Band → State → Path → Targets → Type 0
TellsTargets band state block t =
    (setup : Setup) → setup.band ≡ band → IsTrue (is_band band) → Legal setup state → AtRest state →
    AreRoomTargets setup state block t
