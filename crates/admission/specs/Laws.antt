-- What is proved of the first clear placement: it is the first with which the state is legal.
use Rattle.std.specs.Prelude.{◌≡◌, ℕ, ◌<◌, IsTrue, false, [], ◌∷◌, ◌++◌, length, Option, Some, None}
use Rattle.eon_model.specs.Grid.{is_band}
use Rattle.eon_model.specs.Names.{Name}
use Rattle.eon_model.specs.Services.{Service, State, is_moving, service_of}
use Rattle.eon_model.specs.Legal.{Setup, Legal}
use Rattle.eon_model.specs.Candidates.{candidates}
use Rattle.eon_model.specs.FirstFit.{first_placement}
use Rattle.eon_model.specs.Changes.{change_service, with_next}
use Rattle.eon_model.specs.Commands.{Demand}
use Rattle.eon_model.specs.Step.{node_numbered, new_service}
use Rattle.admission.specs.FirstClear.{first_clear}

-- Beside a legal state with room for a service and none of the demand's name, what is found for the demand
-- among its candidates is the first placement with which the state and the new service are legal.
abbrev pub FirstForNewService : Type 0
FirstForNewService =
    (setup : Setup) (state : State) (d : Demand) (avoid : Option ℕ) → IsTrue (is_band setup.band)
    → Legal setup state → length state < setup.services → service_of state d.name ≡ None
    → let net = setup.network in
    let pairs = candidates setup (node_numbered net d.src) (node_numbered net d.dst) d.rate d.class avoid in
    first_clear state setup.band d.class pairs None
    ≡ first_placement setup pairs (λ l. state ++ new_service net d l ∷ [])

-- For a service at rest of a legal state, what is found among its candidates beside its leg is the first
-- placement with which the state is legal once the service has the new leg beside its own.
abbrev pub FirstForSecondLeg : Type 0
FirstForSecondLeg =
    (setup : Setup) (state : State) (name : Name) (s : Service) (avoid : Option ℕ) → IsTrue (is_band setup.band)
    → Legal setup state → service_of state name ≡ Some s → is_moving s ≡ false
    → let pairs = candidates setup s.src s.dst s.rate s.class avoid in
    first_clear state setup.band s.class pairs (Some s.leg)
    ≡ first_placement setup pairs (λ l. change_service name (with_next l) state)
