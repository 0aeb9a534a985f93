use Rattle.std.proofs.Common.{◌∙◌, sym, ap}
use Rattle.eon_model.specs.Commands.{Demand}
use Rattle.eon_model.specs.Legal.{Setup}
use Rattle.eon_model.specs.Step.{new_service}
use Rattle.eon_model.specs.Replies.{Placed}
use Rattle.eon_model.specs.Step.{Say}
use Rattle.std.proofs.lemmas.Result.{err_from_is_err_and}
use Rattle.reply_text.specs.declared.reply.Reply.{Reply}
use Rattle.reply_text.specs.Replied.{reply_told}
use Rattle.plan_core.specs.Placing.{entering}
use Rattle.plan_core.proofs.PlaceSteps.{placed-fault, placed-clash, placed-enters}
use Rattle.plan_core.proofs.place.placed_service.Goals as goal

pub returns-in_err-leg-clause-is : goal.returns-in_err-leg-clause-is
returns-in_err-leg-clause-is c =
    let p = err_from_is_err_and c.from_residual.result c.from_residual.ensures.1 in
    ap (entering (Placed c.args.demand.now.name)) p.1 ∙ ap (λ (e : Reply). Say (reply_told e)) p.2
    ∙ placed-fault c.args.setup.now c.args.services.now.list c.args.demand.now c.args.paths
    (reply_told c.in_err-leg.field-0.0) (sym c.in_err-leg.ensures.fault)

pub returns-in-Some-clause-is : goal.returns-in-Some-clause-is
returns-in-Some-clause-is c =
    placed-clash c.args.setup.now c.args.services.now.list c.args.demand.now c.args.paths c.in_ok-leg.leg
    c.demand.inside.name c.in-Some.name c.demand.inside.class (sym c.in_ok-leg.ensures.fault) c.in_ok-leg.ensures.leg
    (ap (λ (d : Demand). d.name) c.demand.view_is)
    (ap (λ (d : Demand). d.class) c.demand.view_is) c.in-Some.ensures

pub returns-in-None-clause-is : goal.returns-in-None-clause-is
returns-in-None-clause-is c =
    placed-enters c.args.setup.now c.args.services.now.list c.args.demand.now c.args.paths c.in_ok-leg.leg
    c.demand.inside.name c.demand.inside.class c.new_service.result (sym c.in_ok-leg.ensures.fault) c.in_ok-leg.ensures.leg
    (ap (λ (d : Demand). d.name) c.demand.view_is)
    (ap (λ (d : Demand). d.class) c.demand.view_is) c.in-None.ensures
    (c.new_service.ensures
    ∙ ap (λ (s : Setup). new_service s.network c.args.demand.now c.in_ok-leg.leg) c.setup.view_is)

pub returns-in-None-clause-service : goal.returns-in-None-clause-service
returns-in-None-clause-service c =
    c.new_service.ensures
    ∙ (λ i. new_service (c.setup.view_is i).network c.args.demand.now (c.in_ok-leg.ensures.leg i))
