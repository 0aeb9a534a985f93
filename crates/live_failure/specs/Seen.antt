-- What a live state is seen as.
use Rattle.std.specs.Prelude.{◌≡◌, ℕ, IsTrue, List, Option, refl}
use Rattle.std.specs.Coded.{Coded, code_by, coded×, coded_ℕ, coded_option}
use Rattle.eon_model.specs.Codes.{state_code}
use Rattle.eon_model.specs.Legal.{Setup, Legal}
use Rattle.eon_model.specs.LiveFailure.{groups_in_order}
use Rattle.eon_model.specs.NetworkText.{is_setup}
use Rattle.eon_model.specs.Services.{State}
use Rattle.eon_model.specs.SetupCodes.{setup_code}

-- A network, the services on it, and the group that has failed.
pub record LiveSeen : Type 0 where
  pub setup : Setup
  pub state : State
  pub failed : Option ℕ

-- by its three parts
abbrev pub seen_code : Coded LiveSeen
seen_code = code_by (Setup × (State × Option ℕ)) (coded× setup_code (coded× state_code (coded_option coded_ℕ)))
    (λ s. (s.setup, (s.state, s.failed))) (λ p. record { setup = p.0; state = p.1.0; failed = p.1.1 }) (λ _. refl)

-- the setup is in range, the services are legal on it, and these are its groups in the order of their names
pub record IsKept (setup : Setup) (state : State) (order : List ℕ) : Type 0 where
  pub in_range : IsTrue (is_setup setup)
  pub legal : Legal setup state
  pub in_order : order ≡ groups_in_order setup.network
