-- What is proposed for a command.
use Rattle.eon_model.specs.Services.{State}
use Rattle.eon_model.specs.Legal.{Setup}
use Rattle.eon_model.specs.Commands.{Command}
use Rattle.eon_model.specs.Answers.{Gives}
use Rattle.eon_model.specs.Step as step
use Rattle.plan_core.specs.declared.proposal.Proposal.{Proposal}
use Rattle.plan_core.specs.Told.{answer_of, CanBeTold}
use Rattle.plan_core.specs.Waiting.{CanBeHeld}

-- what is proposed answers the command, and can be held and told
pub record IsProposed (setup : Setup) (state : State) (c : Command) (p : Proposal) : Type 0 where
  pub gives : Gives setup state (step.outcome_of setup state c) (answer_of p.decision)
  pub held : CanBeHeld setup state p
  pub tells : CanBeTold setup state p.decision
