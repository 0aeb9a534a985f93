-- When rows may follow a change of the list for which they stand, and what they stand for then.
use Rattle.std.specs.Prelude.{◌≡◌, IsTrue, Some}
use Rattle.eon_model.specs.declared.Class.{Class}
use Rattle.eon_model.specs.Names.{Name}
use Rattle.eon_model.specs.Services.{Leg, Service, State, service_of}
use Rattle.eon_model.specs.Legal.{Setup, Legal}
use Rattle.eon_model.specs.Events.{Event, EnterText, LegText, leg_told, service_told, apply}
use Rattle.eon_model.specs.NetworkText.{is_setup}
use Rattle.eon_model.specs.Replay.{can_follow}
use Rattle.kept_rows.specs.declared.rows.KeptRows.{KeptRows}
use Rattle.kept_rows.specs.Standing.{StandsFor}

-- On an accepted network the event can follow a legal state, for which the rows stand.
pub record CanFollowRows (setup : Setup) (state : State) (e : Event) (rows : KeptRows) : Type 0 where
  pub in_range : IsTrue (is_setup setup)
  pub legal : Legal setup state
  pub follows : IsTrue (can_follow setup state e)
  pub stands : StandsFor setup state rows

-- the rows stand for the state after the event
abbrev pub StandsAfter : Setup → State → Event → KeptRows → Type 0
StandsAfter setup state e rows = StandsFor setup (apply setup.network state e) rows

-- ---- a change of one service

-- there is a state with this service which the event of this kind can follow
abbrev pub MayChange : (Name → Event) → Service → KeptRows → Type 0
MayChange event s rows =
    (setup : Setup) × (state : State) × (name : Name) × (service_of state name ≡ Some s)
    × CanFollowRows setup state (event name) rows

-- for each such state, the rows stand for the one after the event
abbrev pub HasChanged : (Name → Event) → Service → KeptRows → KeptRows → Type 0
HasChanged event s before after =
    (setup : Setup) (state : State) (name : Name) → service_of state name ≡ Some s
    → CanFollowRows setup state (event name) before → StandsAfter setup state (event name) after

-- ---- a service enters

-- there is a state that this service can enter
abbrev pub MayEnter : Service → KeptRows → Type 0
MayEnter s rows =
    (setup : Setup) × (state : State) × (t : EnterText) × (s ≡ service_told setup.network t)
    × CanFollowRows setup state (Event.Enter t) rows

-- for each such state, the rows stand for the one in which it is
abbrev pub HasEntered : Service → KeptRows → KeptRows → Type 0
HasEntered s before after =
    (setup : Setup) (state : State) (t : EnterText) → s ≡ service_told setup.network t
    → CanFollowRows setup state (Event.Enter t) before → StandsAfter setup state (Event.Enter t) after

-- ---- a second leg comes

-- there is a state in which this service can have the leg beside its own
abbrev pub MayMake : Leg → Service → KeptRows → Type 0
MayMake new s rows =
    (setup : Setup) × (state : State) × (name : Name) × (class : Class) × (l : LegText)
    × (service_of state name ≡ Some s) × (new ≡ leg_told setup.network l)
    × CanFollowRows setup state (Event.Make name class l) rows

-- for each such state, the rows stand for the one in which it has it
abbrev pub IsMaking : Leg → Service → KeptRows → KeptRows → Type 0
IsMaking new s before after =
    (setup : Setup) (state : State) (name : Name) (class : Class) (l : LegText) → service_of state name ≡ Some s
    → new ≡ leg_told setup.network l → CanFollowRows setup state (Event.Make name class l) before
    → StandsAfter setup state (Event.Make name class l) after
