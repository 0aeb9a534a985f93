use Rattle.std.proofs.Common.{◌≡◌, ◌∙◌, sym, ap, subst, ◌+◌, ◌<◌, length, IsTrue, true, Some}
use Rattle.std.specs.Option.{option_map}
use Rattle.std.specs.Result.{result_err}
use Rattle.std.specs.Prelude.{Result}
use Rattle.std.proofs.lemmas.Result.{err_from_is_err_and, IfOk-weaker}
use Rattle.eon_model.specs.Grid.{is_band}
use Rattle.eon_model.specs.Legal.{Setup}
use Rattle.eon_model.specs.Services.{Leg}
use Rattle.eon_model.specs.Step.{asked_leg}
use Rattle.eon_model.specs.Sets.{has_member}
use Rattle.eon_model.proofs.SetupFacts.{setup-facts}
use Rattle.reply_text.specs.declared.reply.Reply.{Reply}
use Rattle.reply_text.specs.Replied.{reply_told}
use Rattle.plan_core.specs.Placing.{leg_of}
use Rattle.plan_core.specs.declared.demand.SizedPaths.{SizedPaths}
use Rattle.plan_core.proofs.FaultSteps.{reach-fault, risk-fault, band-fault, leg-is}
use Rattle.plan_core.proofs.asked_leg.asked_leg.Goals as goal

pub returns-in_err-sized-clause-fault : goal.returns-in_err-sized-clause-fault
returns-in_err-sized-clause-fault c =
    let p = err_from_is_err_and c.from_residual.result c.from_residual.ensures.1 in
    ap (λ (r : Result Leg Reply). option_map reply_told (result_err r)) p.1
    ∙ ap (λ (e : Reply). Some (reply_told e)) p.2
    ∙ reach-fault c.args.setup.now c.args.demand.now c.args.paths (reply_told c.in_err-sized.field-0.0) c.in_err-sized.ensures.fault

pub risk_between-requires : goal.risk_between-requires
risk_between-requires c = record {
  known = λ i h. subst (λ (s : Setup). i < length s.network.fibres + length s.network.groups) (sym c.setup.view_is)
      (c.requires.known i (subst (λ (s : SizedPaths). IsTrue (has_member s.work.path.route.risk i)) c.in_ok-sized.ensures.sized h));
}

pub returns-in-Some-clause-fault : goal.returns-in-Some-clause-fault
returns-in-Some-clause-fault c =
    risk-fault c.args.setup.now c.args.demand.now c.args.paths c.in_ok-sized.ensures.fault c.setup.inside.net
    (ap (λ (s : Setup). s.network) c.setup.view_is) c.in_ok-sized.sized c.in_ok-sized.ensures.sized _ c.in-Some.ensures

pub placed_leg-requires-clause-grid : goal.placed_leg-requires-clause-grid
placed_leg-requires-clause-grid c =
    subst (λ (s : Setup). is_band s.band ≡ true) (sym c.setup.view_is) (setup-facts c.args.setup.now c.requires.in_range).band

pub returns-clause-fault : goal.returns-clause-fault
returns-clause-fault c =
    band-fault c.args.setup.now c.args.demand.now c.args.paths c.in_ok-sized.ensures.fault c.setup.inside.net
    (ap (λ (s : Setup). s.network) c.setup.view_is) c.in_ok-sized.sized c.in_ok-sized.ensures.sized _ c.setup.inside.band
    c.in_default.ensures (ap (λ (s : Setup). s.band) c.setup.view_is) c.placed_leg.ensures.fault

pub returns-clause-leg : goal.returns-clause-leg
returns-clause-leg c =
    IfOk-weaker c.placed_leg.result (λ l. l ≡ leg_of c.in_ok-sized.sized)
    (λ l. l ≡ asked_leg c.args.setup.now c.args.demand.now c.args.paths.work c.args.paths.back)
    (λ l e. leg-is c.args.setup.now c.args.demand.now c.args.paths c.in_ok-sized.ensures.fault c.setup.inside.net
    (ap (λ (s : Setup). s.network) c.setup.view_is) c.in_ok-sized.sized c.in_ok-sized.ensures.sized l e)
    c.placed_leg.ensures.leg
