-- What is proved of rows and counts as such: what counts of 0 tell, how rows and counts follow a change, and the ranges
-- in which a state takes them.
use Rattle.std.specs.Prelude.{◌≡◌, ℕ, ◌+◌, ◌<◌, ℤ, ◌≤ℤ◌, false, IsTrue, List, ◌∷◌, ◌++◌, length, map, Some}
use Rattle.std.specs.List.{AllByRecursion, list_all}
use Rattle.eon_model.specs.Grid.{Band, span_of, lies_in_band}
use Rattle.eon_model.specs.Names.{Name}
use Rattle.eon_model.specs.Lists.{numbers_differ}
use Rattle.eon_model.specs.Network.{AreFibres}
use Rattle.eon_model.specs.Sets.{NumberSet, has_member}
use Rattle.eon_model.specs.Services.{Path, Service, State, service_of, is_moving, holding_of}
use Rattle.eon_model.specs.Legal.{Setup, is_shared, Legal}
use Rattle.eon_model.specs.Changes.{without_service}
use Rattle.eon_model.specs.Listings.{lit_holdings, shared_backups}
use Rattle.eon_model.specs.Events.{Event, apply}
use Rattle.eon_model.specs.Replay.{can_follow}
use Rattle.eon_model.specs.NetworkText.{is_setup}
use Rattle.eon_model.specs.Candidates.{SizedRoute}
use Rattle.eon_model.specs.Rows.{Taken, Reserved, Rows, counts_among, may_stand_beside, with_lit, without_lit, with_held, without_held, with_reserved, without_reserved, rows_with, changed_by, is_unshared}
use Rattle.eon_model.specs.FirstInRows.{least_free, least_channel}
use Rattle.eon_model.specs.Occupied.{reserves, taken_of, reserved_of, rows_of, counts_of, holders_of}
use Rattle.eon_model.specs.Turnover.{turnover}

-- a unit or more
abbrev pub HasUnit : Taken → Type 0
HasUnit t = t.units.lo ≤ℤ t.units.hi

-- All counts of the groups of a risk are 0 on these units exactly where the backups that were counted let one of that
-- risk stand beside them: none takes a common unit, or no failure needs both.
abbrev pub NoSharers : Type 0
NoSharers =
    (rs : List Reserved) (risk : NumberSet) (t : Taken) → HasUnit t → AllByRecursion (λ r. HasUnit r.taken) rs
    → is_unshared (counts_among rs) risk t ≡ list_all (may_stand_beside risk t) rs

-- And with one of them left out, exactly where the others do.
abbrev pub NoOtherSharers : Type 0
NoOtherSharers =
    (before after : List Reserved) (own : Reserved) (risk : NumberSet) (t : Taken) → HasUnit t
    → AllByRecursion (λ r. HasUnit r.taken) (before ++ after)
    → is_unshared (without_reserved own (counts_among (before ++ own ∷ after))) risk t
    ≡ list_all (may_stand_beside risk t) (before ++ after)

-- The counts of a state are those of its shared backups; its rows are those of what is lit and of the number of
-- backups that hold a unit.
abbrev pub StatesAreCounted : Type 0
StatesAreCounted =
    (state : State) → (counts_of state ≡ counts_among (map reserved_of (reserves state)))
    × (rows_of state ≡ rows_with (rows_of state).lit (holders_of state))

-- The counts of a state without a service at rest are those of the state without the shared backup of its leg.
abbrev pub OwnReserveTakenOut : Type 0
OwnReserveTakenOut =
    (setup : Setup) (state : State) (name : Name) (s : Service) (b : Path) → Legal setup state
    → service_of state name ≡ Some s → is_moving s ≡ false → s.leg.back ≡ Some b → IsTrue (is_shared s.class)
    → counts_of (without_service name state)
    ≡ without_reserved (record { risk = s.leg.work.route.risk; taken = taken_of (holding_of b) }) (counts_of state)

-- What an event turns over: units go dark and are lit, backups leave the counts and enter them. That gives the rows and
-- counts of the state after it.
abbrev pub RowsTurnOver : Type 0
RowsTurnOver =
    (setup : Setup) (state : State) (e : Event) → Legal setup state → IsTrue (can_follow setup state e)
    → let after = apply setup.network state e in
    let t = turnover setup.network state e in
    ((rows_of after).lit
    ≡ (changed_by with_lit (map taken_of t.lit_in) (changed_by without_lit (map taken_of t.lit_out) (rows_of state))).lit)
    × (holders_of after
    ≡ changed_by with_held (map (λ r. taken_of r.backup) t.held_in)
    (changed_by without_held (map (λ r. taken_of r.backup) t.held_out) (holders_of state)))
    × (counts_of after
    ≡ changed_by with_reserved (map reserved_of t.held_in)
    (changed_by without_reserved (map reserved_of t.held_out) (counts_of state)))

-- ---- ranges

-- A unit or more of one part of the band, on fibres of the network, none of them twice.
pub record TakenInRange (setup : Setup) (t : Taken) : Type 0 where
  pub fibres : AreFibres setup.network.fibres t.fibres
  pub once : IsTrue (numbers_differ t.fibres)
  pub some : HasUnit t
  pub within : IsTrue (lies_in_band setup.band t.units)

-- Such units, reserved for failures of groups of the network.
pub record ReservedInRange (setup : Setup) (r : Reserved) : Type 0 where
  pub groups : (g : ℕ) → IsTrue (has_member r.risk g) →
      g < length setup.network.fibres + length setup.network.groups
  pub taken : TakenInRange setup r.taken

-- Whatever a legal state of a setup in range takes is in range.
abbrev pub HoldingsInRange : Type 0
HoldingsInRange =
    (setup : Setup) (state : State) → IsTrue (is_setup setup) → Legal setup state
    → AllByRecursion (λ h. TakenInRange setup (taken_of h)) (lit_holdings state)
    × AllByRecursion (λ h. TakenInRange setup (taken_of h)) (shared_backups state)
    × AllByRecursion (λ r. ReservedInRange setup (reserved_of r)) (reserves state)

-- ---- the least free centre

-- From the band's lowest unit or from below it, the least free centre is the least one of a channel.
abbrev pub LeastFromBelow : Type 0
LeastFromBelow =
    (band : Band) (rows : Rows) (r : SizedRoute) (from : ℤ) → from ≤ℤ (span_of band).lo
    → least_free rows r.route.fibres r.m band from ≡ least_channel band rows r
