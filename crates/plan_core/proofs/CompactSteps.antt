-- What is proposed, for `compact` and for every other command.
use Rattle.std.proofs.Common.{◌≡◌, refl, sym, ap, subst, true, false, Option, Some, None, find}
use Rattle.std.specs.Prelude.{Result, Ok, Err, IfOk}
use Rattle.std.specs.Option.{option_map}
use Rattle.std.specs.declared.alloc.AllocError.{AllocError}
use Rattle.eon_model.specs.Names.{Name}
use Rattle.eon_model.specs.Services.{Service, State, is_moving}
use Rattle.eon_model.specs.Plan.{Plan, IsPlan}
use Rattle.compact_plan.specs.Told.{first_moving}
use Rattle.eon_model.specs.Legal.{Setup, Legal}
use Rattle.eon_model.specs.NetworkText.{is_setup}
use Rattle.eon_model.specs.Commands.{Command}
use Rattle.eon_model.specs.CommandText.{is_command}
use Rattle.eon_model.specs.Replies as model
use Rattle.eon_model.specs.Step as step
use Rattle.eon_model.specs.Answers.{Answer, Gives, said}
use Rattle.reply_text.specs.declared.reply.Reply.{Reply}
use Rattle.reply_text.specs.Replied.{reply_told}
use Rattle.reply_text.specs.Tellable.{can_tell}
use Rattle.plan_core.specs.declared.decision.Decision.TheVariants.{Say}
use Rattle.plan_core.specs.declared.proposal.Prepared.TheVariants as prepared
use Rattle.plan_core.specs.declared.proposal.Proposal.{Proposal}
use Rattle.plan_core.specs.Compact.{is_compact}
use Rattle.plan_core.specs.Told.{outcome_told}
use Rattle.plan_core.specs.Waiting.{IsPrepared}
use Rattle.plan_core.specs.Proposed.{IsProposed}
use Rattle.plan_core.proofs.WaitingLaws.{told-Gives, proposed-CanBeHeld}
use Rattle.plan_core.proofs.ReplyLaws.{outcome-tells}

-- ---- the plan

compact-is : (c : Command) → is_compact c ≡ true → c ≡ Command.Compact
compact-is (Command.Place d w b) h = cc
compact-is (Command.Admit d) h = cc
compact-is (Command.Release name) h = cc
compact-is (Command.Push name n) h = cc
compact-is (Command.Make name avoid) h = cc
compact-is (Command.Finish name) h = cc
compact-is (Command.Back name) h = cc
compact-is (Command.Refit name) h = cc
compact-is Command.Compact h = refl
compact-is (Command.Drill g) h = cc
compact-is (Command.Routes s t) h = cc
compact-is (Command.Show name) h = cc
compact-is Command.List h = cc
compact-is (Command.Map name) h = cc
compact-is Command.Stats h = cc
compact-is Command.Report h = cc
compact-is Command.Quit h = cc

-- what `compact` comes to, by the first service that moves
abbrev shown : Option Service → step.Outcome
shown o = step.or_else (option_map (λ (s : Service). model.Reply.Busy s.name) o) step.SayPlan

same_reply : (r q : model.Reply) → said r ≡ said q → r ≡ q
same_reply r q e = ap (λ (a : Answer). a.reply) e

shown_tells : (setup : Setup) (state : State) (o : Option Service) (r : model.Reply) → Gives setup state (shown o) (said r) →
    can_tell setup state r ≡ true
unfolding step.or_else
shown_tells setup state (Some s) r g = ap (can_tell setup state) (same_reply r (model.Reply.Busy s.name) g)
shown_tells setup state None r g = ap (can_tell setup state) (same_reply r (model.Reply.Plan g.0) g.2)

-- the first service that moves
pub busy-Gives : (setup : Setup) (state : State) (name : Name) → first_moving state ≡ Some name →
    Gives setup state (step.compact state) (said (model.Reply.Busy name))
unfolding step.or_else
busy-Gives setup state name e = by (find is_moving state) e
  where
    by : (o : Option Service) → option_map (λ (s : Service). s.name) o ≡ Some name →
        Gives setup state (shown o) (said (model.Reply.Busy name))
    by None h = cc
    by (Some s) h = let same : s.name ≡ name = cc in ap (λ (n : Name). said (model.Reply.Busy n)) (sym same)

-- the plan
pub plan-Gives : (setup : Setup) (state : State) (plan : Plan) → first_moving state ≡ None → IsPlan setup state plan →
    Gives setup state (step.compact state) (said (model.Reply.Plan plan))
unfolding step.or_else
plan-Gives setup state plan e is = by (find is_moving state) e
  where
    by : (o : Option Service) → option_map (λ (s : Service). s.name) o ≡ None →
        Gives setup state (shown o) (said (model.Reply.Plan plan))
    by None h = (plan, is, refl)
    by (Some s) h = cc

-- ---- what is proposed

said_proposed : (setup : Setup) (state : State) (r : Reply) →
    Gives setup state (step.compact state) (said (reply_told r)) →
    IsProposed setup state Command.Compact (record { decision = Say r; prepared = prepared.Nothing })
said_proposed setup state r g = record {
  gives = g;
  held = record { in_range = tt; follows = tt; is_prepared = refl };
  tells = shown_tells setup state (find is_moving state) (reply_told r) g;
}

pub compact-proposed : (setup : Setup) (state : State) (c : Command) (r : Reply) (p : Proposal) → is_compact c ≡ true →
    Gives setup state (step.compact state) (said (reply_told r)) → p.decision ≡ Say r → p.prepared ≡ prepared.Nothing →
    IsProposed setup state c p
compact-proposed setup state c r p is g decision nothing =
    subst (λ (d : Command). IsProposed setup state d p) (sym (compact-is c is))
    (subst (IsProposed setup state Command.Compact)
    (λ i. record { decision = sym decision i; prepared = sym nothing i }) (said_proposed setup state r g))

pub other-proposed : (setup : Setup) (state : State) (c : Command) (r : Result Proposal AllocError) → is_setup setup ≡ true →
    is_command c ≡ true → Legal setup state → is_compact c ≡ false →
    IfOk r (λ p. outcome_told p.decision ≡ step.outcome_of setup state c) →
    IfOk r (λ p. IsPrepared setup.network p.decision p.prepared) → IfOk r (IsProposed setup state c)
other-proposed setup state c (Ok p) ok w legal other is prepared = record {
  gives = told-Gives setup state p.decision (step.outcome_of setup state c) is;
  held = proposed-CanBeHeld setup state c p ok w legal is prepared;
  tells = outcome-tells setup state c p.decision ok legal other is;
}
other-proposed setup state c (Err e) ok w legal other is prepared = tt
