-- What first fit over rows asks of the backups that are kept, and what its answer is.
use Rattle.std.specs.Prelude.{◌≡◌, ℕ, ◌<◌, false, IsTrue, IfSome, List, [], ◌∷◌, ◌++◌, length, Option, Some, None}
use Rattle.std.specs.Option.{option_map}
use Rattle.std.specs.List.{AllByRecursion}
use Rattle.eon_model.specs.declared.Class.{Class}
use Rattle.eon_model.specs.Grid.{Band, units_of}
use Rattle.eon_model.specs.Names.{Name}
use Rattle.eon_model.specs.Sets.{has_member}
use Rattle.eon_model.specs.Route.{Route}
use Rattle.eon_model.specs.Services.{Leg, Service, State, is_moving, service_of}
use Rattle.eon_model.specs.Legal.{Setup, Legal}
use Rattle.eon_model.specs.Candidates.{Candidate, candidates}
use Rattle.eon_model.specs.Changes.{change_service, with_next}
use Rattle.eon_model.specs.Commands.{Demand}
use Rattle.eon_model.specs.FirstFit.{first_placement}
use Rattle.eon_model.specs.FirstInRows.{first_in_rows}
use Rattle.eon_model.specs.Occupied.{RowsOf}
use Rattle.eon_model.specs.Rows.{Reserved, Rows, Counts}
use Rattle.eon_model.specs.Step.{node_numbered, new_service}
use Rattle.admission.specs.Told.{answer_for}
use Rattle.admission.specs.declared.placing.Admit.{Admit}
use Rattle.backup_sharing.specs.Shared.{Sharers, counts_beside, reserved}

-- ---- what is asked

-- what the backup of a leg holds, if it has one
abbrev pub backup_of : Option Leg → Option Reserved
backup_of None = None
backup_of (Some l) = option_map (λ b. reserved l.work.route.risk b.route.fibres (units_of b.slot)) l.back

-- The groups and the fibres of the route are some of those that are there.
pub record IsRouteThere (s : Sharers) (r : Route) : Type 0 where
  pub groups : (g : ℕ) → IsTrue (has_member r.risk g) → g < s.groups
  pub fibres : AllByRecursion (λ fibre. fibre < s.fibres) r.fibres

-- So are those of both routes.
pub record IsPairThere (s : Sharers) (c : Candidate) : Type 0 where
  pub work : IsRouteThere s c.work.route
  pub back : IfSome c.back (λ b. IsRouteThere s b.route)

-- ---- what is found

-- the answer for these rows and counts, the backup of the own leg left out of the counts
abbrev pub answer_in_rows : Rows → Counts → Band → Class → Option Leg → List Candidate → Admit
answer_in_rows rows counts band class own pairs =
    answer_for (length pairs) (first_in_rows band rows (counts_beside (backup_of own) counts) class 0 pairs)

-- For each legal state with these rows and counts, and each demand whose candidates these are, it is the first placement
-- of the new service with which the state is legal.
abbrev pub IsFirstForNewService : Rows → Counts → Band → Class → Option Leg → List Candidate → Admit → Type 0
IsFirstForNewService rows counts band class own pairs answer =
    (setup : Setup) (state : State) (d : Demand) (avoid : Option ℕ) → RowsOf state rows counts
    → setup.band ≡ band → d.class ≡ class → own ≡ None → Legal setup state → length state < setup.services
    → service_of state d.name ≡ None
    → let net = setup.network in
    pairs ≡ candidates setup (node_numbered net d.src) (node_numbered net d.dst) d.rate d.class avoid
    → answer
    ≡ answer_for (length pairs) (first_placement setup pairs (λ l. state ++ new_service net d l ∷ []))

-- For each legal state with these rows and counts, and each of its services at rest whose candidates these are and whose
-- leg is the own one, it is the first placement of the second leg with which the state is legal.
abbrev pub IsFirstForSecondLeg : Rows → Counts → Band → Class → Option Leg → List Candidate → Admit → Type 0
IsFirstForSecondLeg rows counts band class own pairs answer =
    (setup : Setup) (state : State) (name : Name) (s : Service) (avoid : Option ℕ) → RowsOf state rows counts
    → setup.band ≡ band → s.class ≡ class → own ≡ Some s.leg → Legal setup state → service_of state name ≡ Some s
    → is_moving s ≡ false → pairs ≡ candidates setup s.src s.dst s.rate s.class avoid
    → answer
    ≡ answer_for (length pairs) (first_placement setup pairs (λ l. change_service name (with_next l) state))
