use Rattle.std.proofs.Common.{◌∙◌, ap}
use Rattle.eon_model.specs.Events.{Event, apply}
use Rattle.eon_model.specs.EventText.{is_event}
use Rattle.eon_model.specs.Replay.{can_follow}
use Rattle.plan_core.specs.Following.{brings_leg}
use Rattle.plan_check.proofs.BadSteps.{never-refused}
use Rattle.plan_check.proofs.judging.begin.Goals as goal

pub follow-requires : goal.follow-requires
follow-requires c = ap is_event c.push_event-event.ensures ∙ c.requires.in_range

pub unreachable-requires : goal.unreachable-requires
unreachable-requires c =
    never-refused c.follow.result c.in-Err.field-0 _ c.in-Err.is c.follow.ensures.refused
    (ap (λ (e : Event). can_follow c.args.core.now.setup c.args.core.now.state e) c.push_event-event.ensures ∙ c.requires.follows)
    (c.follow.ensures.no_memory (ap brings_leg c.push_event-event.ensures))

pub returns-clause-state : goal.returns-clause-state
returns-clause-state c =
    c.in-Ok.ensures.state
    ∙ ap (λ (e : Event). apply c.args.core.now.setup.network c.args.core.now.state e) c.push_event-event.ensures
