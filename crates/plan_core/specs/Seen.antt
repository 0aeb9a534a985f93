-- What a machine is seen as.
use Rattle.std.specs.Prelude.{ℕ, IsTrue, IfSome, Option, refl}
use Rattle.std.specs.Coded.{Coded, code_by, coded×, coded_option}
use Rattle.eon_model.specs.Services.{State}
use Rattle.eon_model.specs.Legal.{Setup, Legal}
use Rattle.eon_model.specs.EventText.{is_state}
use Rattle.eon_model.specs.NetworkText.{is_setup}
use Rattle.eon_model.specs.Codes.{state_code}
use Rattle.eon_model.specs.SetupCodes.{setup_code}
use Rattle.journal_record.specs.contracts.event.Event as event
use Rattle.journal_record.specs.declared.event.Event.{Event}
use Rattle.plan_core.specs.declared.proposal.Prepared.{Prepared}
use Rattle.plan_core.specs.Waiting.{CanBeMade}

-- A network, the services on it, and the change that waits.
pub record CoreSeen : Type 0 where
  pub setup : Setup
  pub state : State
  pub waiting : Option Event

-- by its three parts
abbrev pub seen_code : Coded CoreSeen
seen_code = code_by (Setup × (State × Option Event))
    (coded× setup_code (coded× state_code (coded_option event.the_row.coded)))
    (λ s. (s.setup, (s.state, s.waiting))) (λ p. record { setup = p.0; state = p.1.0; waiting = p.1.1 }) (λ _. refl)

-- the setup is in range, so are the names and rates of its services, they are legal, and the change that waits can be made
pub record IsKept (setup : Setup) (state : State) (spare : ℕ) (q : Prepared) (waiting : Option Event) : Type 0 where
  pub in_range : IsTrue (is_setup setup)
  pub named : IsTrue (is_state state)
  pub legal : Legal setup state
  pub waits : IfSome waiting (CanBeMade setup state spare q)
