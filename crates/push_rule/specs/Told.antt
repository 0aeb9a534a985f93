-- What is decided, as what a command comes to in the planner's definitions.
use Rattle.eon_model.specs.declared.Part.TheVariants.{Work}
use Rattle.eon_model.specs.Names.{Name}
use Rattle.eon_model.specs.Replies.{Reply}
use Rattle.eon_model.specs.Events.{Event}
use Rattle.eon_model.specs.Step.{Outcome, Say, Change}
use Rattle.push_rule.specs.declared.answers.Push.{Push}
use Rattle.push_rule.specs.declared.answers.Push.TheVariants as push
use Rattle.push_rule.specs.declared.answers.End.{End}
use Rattle.push_rule.specs.declared.answers.End.TheVariants as end

-- of `push` for the service of this name
abbrev pub push_told : Name → Push → Outcome
push_told name push.Unknown = Say (Reply.Unknown name)
push_told name push.Busy = Say (Reply.Busy name)
push_told name push.Same = Say (Reply.Same name)
push_told name push.Band = Say (Reply.Band Work)
push_told name (push.Clash other) = Say (Reply.Clash other)
push_told name (push.Done from to) = Change (Event.Push name to) (Reply.Pushed name from to)

-- of `finish`
abbrev pub finish_told : Name → End → Outcome
finish_told name end.Unknown = Say (Reply.Unknown name)
finish_told name end.Idle = Say (Reply.Idle name)
finish_told name end.Done = Change (Event.Finish name) (Reply.Finished name)

-- of `back`
abbrev pub back_told : Name → End → Outcome
back_told name end.Unknown = Say (Reply.Unknown name)
back_told name end.Idle = Say (Reply.Idle name)
back_told name end.Done = Change (Event.Back name) (Reply.Backed name)
