-- The decisions of the code as those of the planner's definitions.
use Rattle.std.specs.Prelude.{IsTrue, Option, Some, None}
use Rattle.eon_model.specs.Services.{State}
use Rattle.eon_model.specs.Legal.{Setup}
use Rattle.eon_model.specs.Step as step
use Rattle.eon_model.specs.Answers.{Answer, said, state_after}
use Rattle.journal_record.specs.declared.event.Event.{Event}
use Rattle.journal_record.specs.Told.{event_told}
use Rattle.plan_core.specs.declared.decision.Decision.{Decision}
use Rattle.plan_core.specs.declared.decision.Decision.TheVariants.{Say, Change}
use Rattle.reply_text.specs.Replied.{reply_told}
use Rattle.reply_text.specs.Tellable.{can_tell}

-- what a command comes to, in the planner's definitions
abbrev pub outcome_told : Decision → step.Outcome
outcome_told (Say reply) = step.Say (reply_told reply)
outcome_told (Change e reply) = step.Change (event_told e) (reply_told reply)

-- the change that waits behind a decision
abbrev pub event_of : Decision → Option Event
event_of (Say reply) = None
event_of (Change e reply) = Some e

-- the answer that a decision is
abbrev pub answer_of : Decision → Answer
answer_of (Say reply) = said (reply_told reply)
answer_of (Change e reply) = record { reply = reply_told reply; event = Some (event_told e) }

-- what the text of its reply reads is there once the change stands
abbrev pub CanBeTold : Setup → State → Decision → Type 0
CanBeTold setup state d =
    IsTrue (can_tell setup (state_after setup.network state (answer_of d).event) (answer_of d).reply)
