use Rattle.std.proofs.Common.{◌≡◌, ◌∙◌, sym, ap, subst}
use Rattle.std.specs.Prelude.{IfOk}
use Rattle.eon_model.specs.Commands as asked
use Rattle.eon_model.specs.Step as step
use Rattle.command_text.specs.Told.{told}
use Rattle.plan_core.specs.Told.{outcome_told}
use Rattle.plan_core.proofs.dispatch.proposal_for.Goals as goal

pub returns-in-Admit-clause-is : goal.returns-in-Admit-clause-is
returns-in-Admit-clause-is c =
    subst (λ (x : asked.Command). IfOk c.admit.result (λ p. outcome_told p.decision ≡ step.outcome_of c.args.setup.now c.args.services.now.list x))
    (ap asked.Command.Admit c.demand_of-demand-in-Admit.ensures ∙ sym (ap told c.in-Admit.is)) c.admit.ensures.is

pub returns-in_ok-routes_between-in-Routes-clause-is : goal.returns-in_ok-routes_between-in-Routes-clause-is
returns-in_ok-routes_between-in-Routes-clause-is c =
    ap outcome_told c.say-in-Routes.ensures.decision ∙ c.in_ok-routes_between-in-Routes.ensures.is
    ∙ ap (step.outcome_of c.args.setup.now c.args.services.now.list) (sym (ap told c.in-Routes.is))
