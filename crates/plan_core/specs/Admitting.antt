-- The parts of the answer to `admit`.
use Rattle.std.specs.Prelude.{◌≡◌, ◌==◌, List, length, Option, Some}
use Rattle.std.specs.Option.{option_map}
use Rattle.eon_model.specs.Services.{Leg, Service}
use Rattle.eon_model.specs.Legal.{Setup}
use Rattle.eon_model.specs.Candidates.{Candidate}
use Rattle.eon_model.specs.FirstFit.{Placement, leg_placed}
use Rattle.eon_model.specs.Commands.{Demand}
use Rattle.eon_model.specs.Replies.{Reply}
use Rattle.eon_model.specs.Step as step
use Rattle.eon_model.specs.Step.{Change, ◌when◌, or_else, or_blocked, new_service, enters}

-- what the candidates come to, where this is the first placement that fits
abbrev pub tried : Setup → Demand → List Candidate → Option Placement → step.Outcome
tried setup d pairs first =
    or_else (Reply.NoRoute when (length pairs == 0))
    (or_blocked (length pairs) (option_map leg_placed first)
    (λ l. Change (enters setup.network d l) (Reply.Admitted d.name)))

-- the service is that of the demand on the leg of this placement
pub record IsOnFirst (setup : Setup) (d : Demand) (first : Option Placement) (s : Service) : Type 0 where
  pub leg : Leg
  pub first_leg : option_map leg_placed first ≡ Some leg
  pub is : s ≡ new_service setup.network d leg
