-- What a sweep does with one block, and what it leaves.
use Rattle.std.specs.Prelude.{◌≡◌, ℕ, ◌+◌, ◌<◌, All, ℤ, pos, ◌-ℤ◌, true, false, List, [], ◌∷◌, Some, IsTrue, is_some, length, set, slice_get}
use Rattle.std.specs.List.{list_all}
use Rattle.eon_model.specs.Grid.{Band, is_band}
use Rattle.eon_model.specs.Services.{Path, Service, State}
use Rattle.eon_model.specs.Legal.{Setup, Legal}
use Rattle.eon_model.specs.Drift.{AreLowest}
use Rattle.eon_model.specs.Places.{AtRest}
use Rattle.eon_model.specs.Plan.{channels_of, rest_of}
use Rattle.compact_plan.specs.declared.block.Block.{Block}
use Rattle.compact_plan.specs.Blocks.{path_height}
use Rattle.compact_plan.specs.Tops.{floor_height, settled_height, end_height, IsTopOver, Raises}

-- a channel that settles on this top
pub record Settles (band : Band) (path : Path) (number : ℕ) (tops raised lows settled : List ℕ) : Type 0 where
  pub top : ℕ
  pub over : IsTopOver tops path.route.fibres (floor_height band path) top
  pub raises : Raises tops raised path.route.fibres (end_height (settled_height top path) path)
  pub told : settled ≡ set lows number (settled_height top path)

-- a backup stands, and a channel settles
pub record TakesBlock (state : State) (band : Band) (b : Block) (tops raised lows settled : List ℕ) : Type 0 where
  pub long : length raised ≡ length tops
  pub wide : length settled ≡ length lows
  pub small : All (λ h. h < 8192) lows → All (λ h. h < 8192) settled
  pub backup : (s : Service) (p : Path) → slice_get state b.number ≡ Some s → b.is_backup ≡ true →
      s.leg.back ≡ Some p →
      Raises tops raised p.route.fibres (end_height (path_height p) p) × (settled ≡ lows)
  pub channel : (s : Service) → slice_get state b.number ≡ Some s → b.is_backup ≡ false →
      Settles band s.leg.work b.number tops raised lows settled

-- the centre of the path where it begins at this height
abbrev pub centre_at : ℕ → Path → ℤ
centre_at low p = pos (low + p.slot.m) -ℤ pos 4096

-- those of the channels
abbrev pub centres : State → List ℕ → List ℤ
centres [] lows = []
centres (s ∷ state) [] = []
centres (s ∷ state) (low ∷ lows) = centre_at low s.leg.work ∷ centres state lows

-- in a legal state at rest, whatever the network, the channels are at their lowest places, and rest there
abbrev pub LeavesLowest : Band → State → List ℕ → Type 0
LeavesLowest band state lows =
    (setup : Setup) → setup.band ≡ band → IsTrue (is_band band) → Legal setup state → AtRest state →
    AreLowest setup state (centres state lows)
    × IsTrue (list_all (λ c. is_some (rest_of band (channels_of state (centres state lows)) c))
    (channels_of state (centres state lows)))
