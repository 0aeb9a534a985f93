use Rattle.std.proofs.Common.{◌≡◌, subst, true}
use Rattle.std.specs.Prelude.{IfSome}
use Rattle.eon_model.specs.EventText.{is_event}
use Rattle.eon_model.specs.Answers.{Gives}
use Rattle.eon_model.specs.Step.{outcome_of}
use Rattle.command_text.specs.Told.{told}
use Rattle.plan_core.specs.declared.decision.Decision.{Decision}
use Rattle.journal_record.specs.Told.{event_told}
use Rattle.plan_core.specs.Told.{answer_of, event_of, CanBeTold}
use Rattle.plan_core.specs.Seen.{CoreSeen}
use Rattle.plan_core.proofs.WaitingLaws.{of-held}
use Rattle.plan_core.proofs.machine.Core.step.Goals as goal

pub hold-requires : goal.hold-requires
hold-requires c = c.in_ok-proposal.ensures.proposed.held

pub returns-clause-answer : goal.returns-clause-answer
returns-clause-answer c =
    of-held (λ (d : Decision). Gives c.args.self.now.setup c.args.self.now.state
    (outcome_of c.args.self.now.setup c.args.self.now.state (told c.args.c.now)) (answer_of d)) c.hold.result
    c.in_ok-proposal.proposal.decision c.hold.ensures.decision
    (subst (λ (v : CoreSeen). Gives v.setup v.state (outcome_of v.setup v.state (told c.args.c.now))
    (answer_of c.in_ok-proposal.proposal.decision)) c.self.view_is c.in_ok-proposal.ensures.proposed.gives)

pub returns-clause-event : goal.returns-clause-event
returns-clause-event c =
    of-held (λ (d : Decision). IfSome (event_of d) (λ e. is_event (event_told e) ≡ true)) c.hold.result
    c.in_ok-proposal.proposal.decision c.hold.ensures.decision c.in_ok-proposal.ensures.proposed.held.in_range

pub returns-clause-can_tell : goal.returns-clause-can_tell
returns-clause-can_tell c =
    of-held (λ (d : Decision). CanBeTold c.args.self.now.setup c.args.self.now.state d) c.hold.result
    c.in_ok-proposal.proposal.decision c.hold.ensures.decision
    (subst (λ (v : CoreSeen). CanBeTold v.setup v.state c.in_ok-proposal.proposal.decision) c.self.view_is
    c.in_ok-proposal.ensures.proposed.tells)
