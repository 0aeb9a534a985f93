-- What a make asks of the services, and its change, if it makes one.
use Rattle.std.proofs.Common.{◌≡◌, refl, sym, ◌∙◌, ap, subst, ℤ, true, false, length, Option, Some, None}
use Rattle.std.specs.Prelude.{IfSome}
use Rattle.std.specs.Ordering.{int_eq}
use Rattle.std.proofs.lemmas.Bool.{and_from, lt-ltb}
use Rattle.eon_model.specs.Names.{Name, same_name}
use Rattle.eon_model.specs.Services.{Leg, Service, State, service_of}
use Rattle.eon_model.specs.Legal.{Setup, Legal}
use Rattle.eon_model.specs.NetworkText.{is_setup}
use Rattle.eon_model.specs.CommandText.{is_command}
use Rattle.eon_model.specs.Commands.{Command}
use Rattle.eon_model.specs.EventText.{is_service, is_state, is_event}
use Rattle.eon_model.specs.PlanTextLaws.{is_listed}
use Rattle.eon_model.specs.Replay.{can_follow}
use Rattle.eon_model.specs.declared.Class.{Class}
use Rattle.eon_model.specs.Replies.{Reply}
use Rattle.eon_model.specs.Events as events
use Rattle.eon_model.specs.Step as step
use Rattle.eon_model.specs.Step.{or_else, ◌when◌}
use Rattle.make_rule.specs.declared.answers.Make.{Make}
use Rattle.make_rule.specs.declared.answers.Make.TheVariants as made
use Rattle.make_rule.specs.Told.{make_told}
use Rattle.eon_model.proofs.FindLaws.{find_has}
use Rattle.eon_model.proofs.EventRangeLaws.{outcome-is_event}
use Rattle.plan_report.proofs.InRangeLaws.{found-on}
use Rattle.plan_core.specs.declared.proposal.Prepared.{Prepared}
use Rattle.plan_core.specs.declared.proposal.Prepared.TheVariants as prepared
use Rattle.plan_core.specs.Waiting.{IfChange}
use Rattle.plan_core.proofs.MoveLaws.{enter-fresh}

-- a service that is found has a name and a rate in range, and its ends are nodes
pub found-listed : (setup : Setup) (state : State) (name : Name) → is_setup setup ≡ true → is_state state ≡ true →
    Legal setup state → IfSome (service_of state name) (λ s. is_listed setup s ≡ true)
found-listed setup state name ok named legal = by (service_of state name) refl
  where
    by : (o : Option Service) → service_of state name ≡ o → IfSome o (λ s. is_listed setup s ≡ true)
    by None e = tt
    by (Some s) e =
        let on = found-on setup state name s ok legal e in
        let both = find_has is_service (λ (v : Service). same_name v.name name) state s e named in
        and_from _ _ (and_from _ _ both (lt-ltb s.src (length setup.network.nodes) on.from))
        (lt-ltb s.dst (length setup.network.nodes) on.till)

-- the change that a command comes to is in range
pub outcome-in_range : (setup : Setup) (state : State) (c : Command) (o : step.Outcome) → is_setup setup ≡ true →
    Legal setup state → is_command c ≡ true → o ≡ step.outcome_of setup state c → IfChange o
outcome-in_range setup state c (step.Say r) ok legal right h = tt
outcome-in_range setup state c (step.Change e r) ok legal right h =
    outcome-is_event setup state c e r ok legal right (sym h)
outcome-in_range setup state c step.SayPlan ok legal right h = tt

-- of a make, it is that of its second leg
pub started-in_range : (name : Name) (m : Make) (class : Class) (leg : Leg) → m ≡ made.Started class leg →
    IfChange (make_told name m) → is_event (events.Event.Make name class (events.leg_text_of leg)) ≡ true
started-in_range name m class leg is h = subst (λ (v : Make). IfChange (make_told name v)) is h

-- a refit to the same centre is no change
pub refit-stays : (name : Name) (from to : ℤ) → int_eq from to ≡ true →
    step.Say (Reply.Refitted name from to) ≡ step.refit_from name from to
unfolding or_else
refit-stays name from to h = sym (ap (λ b. or_else (Reply.Refitted name from to when b)
    (step.Change (events.Event.Refit name to) (Reply.Refitted name from to))) h)

pub refit-moves : (name : Name) (from to : ℤ) → int_eq from to ≡ false →
    step.Change (events.Event.Refit name to) (Reply.Refitted name from to) ≡ step.refit_from name from to
unfolding or_else
refit-moves name from to h = sym (ap (λ b. or_else (Reply.Refitted name from to when b)
    (step.Change (events.Event.Refit name to) (Reply.Refitted name from to))) h)

-- the service that enters has a new name
pub entering-fresh : (setup : Setup) (state : State) (text : events.EnterText) (s : Service) (q : Prepared) →
    q ≡ prepared.Service s → q ≡ prepared.Service (events.service_told setup.network text) →
    can_follow setup state (events.Event.Enter text) ≡ true → service_of state s.name ≡ None
entering-fresh setup state text s q is needs follows =
    subst (λ (v : Service). service_of state v.name ≡ None)
    (sym (same s (events.service_told setup.network text) (sym is ∙ needs))) (enter-fresh setup state text follows)
  where
    same : (a b : Service) → prepared.Service a ≡ prepared.Service b → a ≡ b
    same a b e = cc
