-- What is proved of rows that stand for a list of services.
use Rattle.std.specs.Prelude.{◌≡◌, ℤ, IsTrue, Some, None}
use Rattle.std.specs.Option.{unwrap_or}
use Rattle.eon_model.specs.declared.Class.{Class}
use Rattle.eon_model.specs.Grid.{units_of, moved_to}
use Rattle.eon_model.specs.Names.{Name}
use Rattle.eon_model.specs.Services.{Path, Leg, Service, State, service_of, drift_units}
use Rattle.eon_model.specs.Legal.{Setup, is_shared, Legal}
use Rattle.eon_model.specs.Events.{Event, EnterText, LegText, leg_told, apply}
use Rattle.eon_model.specs.NetworkText.{is_setup}
use Rattle.eon_model.specs.Occupied.{RowsOf}
use Rattle.eon_model.specs.Replay.{can_follow}
use Rattle.eon_model.specs.Rows.{counts_among}
use Rattle.eon_model.specs.Turnover.{turnover, leg_comes, leg_goes}
use Rattle.spectrum_map.specs.Kept.{rows_in}
use Rattle.kept_rows.specs.declared.rows.KeptRows.{KeptRows}
use Rattle.kept_rows.specs.Standing.{StandsFor, MayTurn, HasTurned, of_class, channel_takes, backup_takes}

-- They are the rows and counts of the state.
abbrev pub StandingTellsRows : Type 0
StandingTellsRows =
    (setup : Setup) (state : State) (r : KeptRows) → StandsFor setup state r
    → RowsOf state (rows_in r.maps) (counts_among r.sharing.reserves)

-- What an event turns over can be changed where it can follow the state.
abbrev pub EventsMayTurn : Type 0
EventsMayTurn =
    (setup : Setup) (state : State) (e : Event) (r : KeptRows) → IsTrue (is_setup setup) → Legal setup state
    → IsTrue (can_follow setup state e) → StandsFor setup state r → MayTurn r (turnover setup.network state e)

-- And once it was, they stand for the state after the event.
abbrev pub StandingFollowsEvents : Type 0
StandingFollowsEvents =
    (setup : Setup) (state : State) (e : Event) (before after : KeptRows) → Legal setup state
    → IsTrue (can_follow setup state e) → StandsFor setup state before
    → HasTurned before after (turnover setup.network state e)
    → StandsFor setup (apply setup.network state e) after

-- ---- the changes of the list, by what they do to legs

-- The leg of a new service comes.
abbrev pub EnteringBringsALeg : Type 0
EnteringBringsALeg =
    (setup : Setup) (state : State) (t : EnterText) →
    turnover setup.network state (Event.Enter t) ≡ leg_comes (of_class t.class (leg_told setup.network t.leg))

-- The leg of a service that goes, goes, where it is its only one.
abbrev pub LeavingTakesALeg : Type 0
LeavingTakesALeg =
    (setup : Setup) (state : State) (name : Name) (s : Service) → service_of state name ≡ Some s → s.next ≡ None
    → turnover setup.network state (Event.Leave name) ≡ leg_goes (of_class s.class s.leg)

-- A channel that is pushed takes all units that it drifts over.
abbrev pub PushesTakeTheHull : Type 0
PushesTakeTheHull =
    (setup : Setup) (state : State) (name : Name) (s : Service) (n : ℤ) → service_of state name ≡ Some s
    → turnover setup.network state (Event.Push name n)
    ≡ channel_takes s.leg (drift_units s.leg.work.slot (Some n))

-- A drift that ends leaves the slot at its target, and one that is given up the slot where it was.
abbrev pub DriftsEndInASlot : Type 0
DriftsEndInASlot =
    (setup : Setup) (state : State) (name : Name) (s : Service) → service_of state name ≡ Some s → s.next ≡ None
    → let slot = s.leg.work.slot in
    (turnover setup.network state (Event.Finish name)
    ≡ channel_takes s.leg (units_of (moved_to slot (unwrap_or s.leg.to slot.n))))
    × (turnover setup.network state (Event.Back name) ≡ channel_takes s.leg (units_of slot))

-- A making that ends takes the old leg, and one that is given up the new one.
abbrev pub MakingsEndWithOneLeg : Type 0
MakingsEndWithOneLeg =
    (setup : Setup) (state : State) (name : Name) (s : Service) (new : Leg) → service_of state name ≡ Some s
    → s.next ≡ Some new
    → (turnover setup.network state (Event.Finish name) ≡ leg_goes (of_class s.class s.leg))
    × (turnover setup.network state (Event.Back name) ≡ leg_goes (of_class s.class new))

-- A second leg comes.
abbrev pub MakingBringsALeg : Type 0
MakingBringsALeg =
    (setup : Setup) (state : State) (name : Name) (s : Service) (class : Class) (l : LegText)
    → service_of state name ≡ Some s
    → turnover setup.network state (Event.Make name class l)
    ≡ leg_comes (of_class s.class (leg_told setup.network l))

-- A shared backup that is refitted takes its slot at the other centre.
abbrev pub RefitsMoveTheBackup : Type 0
RefitsMoveTheBackup =
    (setup : Setup) (state : State) (name : Name) (s : Service) (b : Path) (n : ℤ) → service_of state name ≡ Some s
    → IsTrue (is_shared s.class) → s.leg.back ≡ Some b
    → turnover setup.network state (Event.Refit name n) ≡ backup_takes s.leg (units_of (moved_to b.slot n))

-- A service that is making leaves in two steps: its new leg goes, as where the making is given up, and then its old one.
abbrev pub LeavingWhileMaking : Type 0
LeavingWhileMaking =
    (setup : Setup) (state : State) (name : Name) (s : Service) (new : Leg) → Legal setup state
    → service_of state name ≡ Some s → s.next ≡ Some new
    → let net = setup.network in
    let back = apply net state (Event.Back name) in
    IsTrue (can_follow setup state (Event.Back name))
    × (service_of back name ≡ Some (record s { next = None }))
    × IsTrue (can_follow setup back (Event.Leave name))
    × (apply net back (Event.Leave name) ≡ apply net state (Event.Leave name))
