-- First fit over rows that are kept of a network: what is asked, and what is found.
use Rattle.std.specs.Prelude.{◌≡◌, ℕ, ℤ, ◌<◌, false, List, [], ◌∷◌, ◌++◌, length, Option, Some, None}
use Rattle.eon_model.specs.declared.Class.{Class}
use Rattle.eon_model.specs.Names.{Name}
use Rattle.eon_model.specs.Services.{Path, Service, State, is_moving, service_of}
use Rattle.eon_model.specs.Legal.{Setup, Legal}
use Rattle.eon_model.specs.Candidates.{Candidate, candidates}
use Rattle.eon_model.specs.Changes.{change_service, with_next}
use Rattle.eon_model.specs.Commands.{Demand}
use Rattle.eon_model.specs.FirstFit.{Placement, first_placement}
use Rattle.eon_model.specs.Step.{node_numbered, new_service, least_backup}
use Rattle.admission.specs.Told.{answer_for, IfPlaced, IsPlaceOn}
use Rattle.admission.specs.declared.placing.Admit.{Admit}
use Rattle.kept_rows.specs.declared.rows.KeptRows.{KeptRows}
use Rattle.kept_rows.specs.Standing.{StandsFor}

-- ---- what is asked

-- the rows stand for some list of services on this network
abbrev pub AreRows : Setup → KeptRows → Type 0
AreRows setup rows = (state : State) × StandsFor setup state rows

-- these are the candidates of some demand
abbrev pub AreCandidates : Setup → List Candidate → Type 0
AreCandidates setup pairs =
    (s : ℕ) × (t : ℕ) × (rate : ℕ) × (class : Class) × (avoid : Option ℕ)
    × (pairs ≡ candidates setup s t rate class avoid)

-- The service of this name is at rest in a legal list for which the rows stand.
pub record IsAtRest (setup : Setup) (state : State) (name : Name) (s : Service) (rows : KeptRows) : Type 0 where
  pub legal : Legal setup state
  pub found : service_of state name ≡ Some s
  pub rest : is_moving s ≡ false
  pub stands : StandsFor setup state rows

-- the service is at rest in some such list
abbrev pub IsServed : Setup → Service → KeptRows → Type 0
IsServed setup s rows = (state : State) × (name : Name) × IsAtRest setup state name s rows

-- ---- what is found

-- The answer is that for this first placement; its place, if there is one, is on one of the pairs.
pub record IsAnswer (first : Option Placement) (pairs : List Candidate) (answer : Admit) : Type 0 where
  pub is : answer ≡ answer_for (length pairs) first
  pub place : IfPlaced answer (IsPlaceOn first pairs)

-- for each legal list for which the rows stand, and each demand of this class with these candidates, whose service may
-- join the list: that for the first placement with which the list and the service are legal
abbrev pub IsFirstForNew : Setup → Class → KeptRows → List Candidate → Admit → Type 0
IsFirstForNew setup class rows pairs answer =
    (state : State) (d : Demand) (avoid : Option ℕ) → StandsFor setup state rows → Legal setup state
    → d.class ≡ class → length state < setup.services → service_of state d.name ≡ None
    → let net = setup.network in
    pairs ≡ candidates setup (node_numbered net d.src) (node_numbered net d.dst) d.rate d.class avoid
    → IsAnswer (first_placement setup pairs (λ l. state ++ new_service net d l ∷ [])) pairs answer

-- for each such list in which the service is at rest, with these candidates: that for the first placement with which the
-- list is legal once the service has the new leg beside its own
abbrev pub IsFirstForSecond : Setup → Service → KeptRows → List Candidate → Admit → Type 0
IsFirstForSecond setup s rows pairs answer =
    (state : State) (name : Name) (avoid : Option ℕ) → IsAtRest setup state name s rows
    → pairs ≡ candidates setup s.src s.dst s.rate s.class avoid
    → IsAnswer (first_placement setup pairs (λ l. change_service name (with_next l) state)) pairs answer

-- for each such list, the least centre of the service's backup with which the list is legal
abbrev pub IsLeastBackup : Setup → Service → KeptRows → Path → ℤ → Type 0
IsLeastBackup setup s rows back to =
    (state : State) (name : Name) → IsAtRest setup state name s rows → to ≡ least_backup setup state name back.slot.n
