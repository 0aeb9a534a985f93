-- What the services that are asked about are seen as.
use Rattle.std.specs.Prelude.{IsTrue, refl}
use Rattle.std.specs.Coded.{Coded, code_by, coded×}
use Rattle.eon_model.specs.Codes.{state_code}
use Rattle.eon_model.specs.Legal.{Setup, Legal}
use Rattle.eon_model.specs.NetworkText.{is_setup}
use Rattle.eon_model.specs.Services.{State}
use Rattle.eon_model.specs.SetupCodes.{setup_code}

-- A network, and the services on it.
pub record RoomsSeen : Type 0 where
  pub setup : Setup
  pub state : State

-- by its two parts
abbrev pub seen_code : Coded RoomsSeen
seen_code = code_by (Setup × State) (coded× setup_code state_code)
    (λ s. (s.setup, s.state)) (λ p. record { setup = p.0; state = p.1 }) (λ _. refl)

-- the setup is in range, and the services are legal on it
pub record IsKept (setup : Setup) (state : State) : Type 0 where
  pub in_range : IsTrue (is_setup setup)
  pub legal : Legal setup state
