-- What `place` puts in is in range, and is what its event tells.
use Rattle.std.proofs.Common.{◌≡◌, refl, sym, subst, true, Option, Some, None}
use Rattle.eon_model.specs.Services.{Service, State}
use Rattle.eon_model.specs.Legal.{Setup, Legal}
use Rattle.eon_model.specs.NetworkText.{is_setup}
use Rattle.eon_model.specs.Commands.{Demand, PathWords, Command}
use Rattle.eon_model.specs.CommandText.{is_command}
use Rattle.eon_model.specs.Replies.{Reply}
use Rattle.eon_model.specs.Events.{Event, enter_text_of, service_told}
use Rattle.eon_model.specs.EventText.{is_event}
use Rattle.eon_model.specs.Step.{Change, place}
use Rattle.eon_model.proofs.EventRangeLaws.{outcome-is_event}
use Rattle.plan_core.specs.Placing.{service_asked, paths_asked}

-- its event tells it whole
pub asked-told : (setup : Setup) (d : Demand) (w : PathWords) (b : Option PathWords) (s : Service) →
    s ≡ service_asked setup d (paths_asked setup.network w b) → service_told setup.network (enter_text_of s) ≡ s
asked-told setup d w b s is =
    subst (λ (x : Service). service_told setup.network (enter_text_of x) ≡ x) (sym is) (by b)
  where
    by : (b : Option PathWords) → service_told setup.network
        (enter_text_of (service_asked setup d (paths_asked setup.network w b)))
        ≡ service_asked setup d (paths_asked setup.network w b)
    by None = refl
    by (Some x) = refl

-- its event is in range
pub place-is_event : (setup : Setup) (state : State) (d : Demand) (w : PathWords) (b : Option PathWords) (e : Event)
    (r : Reply) → is_setup setup ≡ true → Legal setup state → is_command (Command.Place d w b) ≡ true →
    Change e r ≡ place setup state d w b → is_event e ≡ true
place-is_event setup state d w b e r ok legal right h =
    outcome-is_event setup state (Command.Place d w b) e r ok legal right (sym h)
