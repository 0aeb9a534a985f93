-- What is told of the channels that move.
use Rattle.std.specs.Prelude.{◌≡◌, ℕ, ℤ, List, [], ◌∷◌, ◌++◌, slice_get, map, filter, find, Option, Some, None, IsTrue, if◌then◌else◌}
use Rattle.std.specs.List.{list_any, flat_map, AllZip}
use Rattle.std.specs.Option.{option_map, unwrap_or}
use Rattle.eon_model.specs.Grid.{Band, is_on_floor}
use Rattle.eon_model.specs.Names.{Name}
use Rattle.eon_model.specs.Services.{Path, Service, State, Holding, holding_of, backup_holdings, is_moving}
use Rattle.eon_model.specs.Legal.{Setup, Legal}
use Rattle.eon_model.specs.NetworkText.{is_setup}
use Rattle.eon_model.specs.Changes.{path_moved}
use Rattle.eon_model.specs.Drift.{AreLowest}
use Rattle.eon_model.specs.Plan as plan
use Rattle.eon_model.specs.Plan.{Channel, channels_of, old_path, target_place, is_move, touches_from_below, rest_of}
use Rattle.compact_plan.specs.declared.answers.Rest.{Rest}
use Rattle.compact_plan.specs.declared.answers.Rest.TheVariants as rest
use Rattle.compact_plan.specs.declared.answers.Move.{Move}
use Rattle.compact_plan.specs.declared.answers.Moves.{Moves}
use Rattle.compact_plan.specs.declared.answers.Plan.{Plan}
use Rattle.compact_plan.specs.declared.answers.Compact.{Compact}
use Rattle.compact_plan.specs.declared.answers.Compact.TheVariants as compact
use Rattle.compact_plan.specs.Sweeps.{centre_at, centres, LeavesLowest}

-- ---- in the planner's words

abbrev pub rest_told : Rest → plan.Rest
rest_told rest.Floor = plan.Floor
rest_told (rest.On name) = plan.On name
rest_told (rest.Over name) = plan.Over name

abbrev pub move_told : Move → plan.Move
move_told m = record {
  batch = m.batch;
  name = m.name;
  from = m.from;
  to = m.to;
  rest = rest_told m.rest;
  after = m.after;
}

abbrev pub moves_told : Moves → List plan.Move
moves_told m = map move_told m.list.items

abbrev pub plan_told : Plan → plan.Plan
plan_told p = record { batches = p.batches; moves = moves_told p.moves }

-- ---- what is promised

-- the move of a channel, before the batches are made: in batch 1, after none
pub record TellsTarget (band : Band) (cs : List Channel) (c : Channel) (m : plan.Move) : Type 0 where
  pub batch : m.batch ≡ 1
  pub name : m.name ≡ c.service.name
  pub from : m.from ≡ (old_path c).slot.n
  pub to : m.to ≡ c.target
  pub rest : rest_of band cs c ≡ Some m.rest
  pub after : m.after ≡ None

-- the moves are the channels whose lowest place is not their own, in list order
pub record AreTargets (setup : Setup) (state : State) (moves : List plan.Move) : Type 0 where
  pub targets : List ℤ
  pub lowest : AreLowest setup state targets
  pub told : AllZip (TellsTarget setup.band (channels_of state targets))
      (filter is_move (channels_of state targets)) moves

-- the name of the first service that moves
abbrev pub first_moving : State → Option Name
first_moving state = option_map (λ s. s.name) (find is_moving state)

-- busy with the first service that moves, or else the targets on whatever network of this band
abbrev pub IsCompact : Band → State → Compact → Type 0
IsCompact band state (compact.Busy name) = first_moving state ≡ Some name
IsCompact band state (compact.Lowest t) = (first_moving state ≡ None)
    × ((setup : Setup) → IsTrue (is_setup setup) → setup.band ≡ band → Legal setup state →
    AreTargets setup state (moves_told t.moves))

-- ---- on the way

-- what the path holds where it begins at this height
abbrev pub place_at : ℕ → Path → Holding
place_at low p = holding_of (path_moved p (centre_at low p))

-- the channels with the targets at these heights
abbrev pub channels : State → List ℕ → List Channel
channels state lows = channels_of state (centres state lows)

-- the first whose channel, at its target, touches it from below
abbrev pub first_on : List Channel → Holding → Option Name
first_on cs h = option_map (λ d. d.service.name) (find (λ d. touches_from_below (target_place d) h) cs)

-- the first whose backup does
abbrev pub first_over : List Channel → Holding → Option Name
first_over cs h =
    option_map (λ d. d.service.name)
    (find (λ d. list_any (λ b. touches_from_below b h) (backup_holdings d.service.leg)) cs)

-- on a backup, and on the floor for nothing
abbrev pub backup_or_floor : List Channel → Holding → plan.Rest
backup_or_floor cs h = unwrap_or (option_map plan.Over (first_over cs h)) plan.Floor

-- what it rests on, and the floor for nothing
abbrev pub rest_at : Band → List Channel → Holding → plan.Rest
rest_at band cs h =
    if is_on_floor band h.units then plan.Floor
    else unwrap_or (option_map plan.On (first_on cs h)) (backup_or_floor cs h)

-- the move of the service's channel to a height, where it rests so
abbrev pub move_for : Service → ℕ → plan.Rest → plan.Move
move_for s low r = record {
  batch = 1;
  name = s.name;
  from = s.leg.work.slot.n;
  to = centre_at low s.leg.work;
  rest = r;
  after = None;
}

abbrev pub move_of : Band → List Channel → Channel → plan.Move
move_of band cs c = record {
  batch = 1;
  name = c.service.name;
  from = (old_path c).slot.n;
  to = c.target;
  rest = rest_at band cs (target_place c);
  after = None;
}

-- the move of the channel, if it moves
abbrev pub moves_of : Band → List Channel → Channel → List plan.Move
moves_of band cs c = if is_move c then move_of band cs c ∷ [] else []

-- the moves of these channels, in order
abbrev pub all_moves : Band → List Channel → List plan.Move
all_moves band cs = flat_map (moves_of band cs) cs

-- the move of the channel at this place was put at the end
abbrev pub IsTold : List Move → List Move → Band → List Channel → ℕ → Type 0
IsTold old new band cs i =
    (c : Channel) → slice_get cs i ≡ Some c → map move_told new ≡ map move_told old ++ moves_of band cs c

-- the moves to the lowest places
abbrev pub AreMoves : Band → State → List plan.Move → Type 0
AreMoves band state moves =
    (lows : List ℕ) × LeavesLowest band state lows × (moves ≡ all_moves band (channels state lows))
