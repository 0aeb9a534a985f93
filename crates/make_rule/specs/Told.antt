-- What is decided, as what a command comes to in the planner's definitions.
use Rattle.std.specs.Prelude.{◌≡◌, ⊤, ◌==◌, List, length, Option, Some}
use Rattle.std.specs.Option.{option_map}
use Rattle.eon_model.specs.declared.Class.{Class}
use Rattle.eon_model.specs.Names.{Name}
use Rattle.eon_model.specs.Services.{Leg}
use Rattle.eon_model.specs.Candidates.{Candidate}
use Rattle.eon_model.specs.FirstFit.{Placement, leg_placed}
use Rattle.eon_model.specs.Replies.{Reply}
use Rattle.eon_model.specs.Events.{Event, leg_text_of}
use Rattle.eon_model.specs.Step.{Outcome, Say, Change, ◌otherwise◌, ◌when◌, or_blocked, refit_from}
use Rattle.make_rule.specs.declared.answers.Make.{Make}
use Rattle.make_rule.specs.declared.answers.Make.TheVariants as make
use Rattle.make_rule.specs.declared.answers.Refit.{Refit}
use Rattle.make_rule.specs.declared.answers.Refit.TheVariants as refit

-- a change by this second leg
abbrev pub started : Name → Class → Leg → Outcome
started name class l = Change (Event.Make name class (leg_text_of l)) (Reply.Made name)

-- of `make` for the service of this name
abbrev pub make_told : Name → Make → Outcome
make_told name (make.Unknown other) = Say (Reply.Unknown other)
make_told name make.Busy = Say (Reply.Busy name)
make_told name make.NoRoute = Say Reply.NoRoute
make_told name (make.Blocked pairs) = Say (Reply.Blocked pairs)
make_told name (make.Started class leg) = started name class leg

-- what the candidates come to, where this is the first placement that fits
abbrev pub made_on : Name → Class → List Candidate → Option Placement → Outcome
made_on name class pairs first =
    Reply.NoRoute when (length pairs == 0)
    otherwise or_blocked (length pairs) (option_map leg_placed first) (started name class)

-- what holds of the second leg, if there is one
abbrev pub IfStarted : Make → (Leg → Type 0) → Type 0
IfStarted (make.Unknown other) P = ⊤
IfStarted make.Busy P = ⊤
IfStarted make.NoRoute P = ⊤
IfStarted (make.Blocked pairs) P = ⊤
IfStarted (make.Started class leg) P = P leg

-- the leg is that of this placement
abbrev pub IsOnFirst : Option Placement → Leg → Type 0
IsOnFirst first l = option_map leg_placed first ≡ Some l

-- of `refit`: to the same centre there is no change
abbrev pub refit_told : Name → Refit → Outcome
refit_told name refit.Unknown = Say (Reply.Unknown name)
refit_told name refit.Busy = Say (Reply.Busy name)
refit_told name refit.Bare = Say (Reply.Bare name)
refit_told name refit.Dual = Say (Reply.Dual name)
refit_told name (refit.Done from to) = refit_from name from to
