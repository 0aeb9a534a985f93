use Rattle.std.proofs.Common.{◌∙◌, sym, ap, length, None}
use Rattle.eon_model.specs.Commands.{Demand}
use Rattle.eon_model.specs.Legal.{Setup}
use Rattle.eon_model.specs.Step.{new_service}
use Rattle.admission.specs.FirstClear.{first_clear}
use Rattle.admission.specs.Told.{answer_for}
use Rattle.plan_core.proofs.AdmitSteps.{tried-none, tried-blocked, tried-leg, tried-enters}
use Rattle.plan_core.proofs.admit.admitted_service.Goals as goal

pub returns-in-NoRoute-clause-is : goal.returns-in-NoRoute-clause-is
returns-in-NoRoute-clause-is c = tried-none c.args.setup.now c.args.demand.now c.args.pairs
    (first_clear c.args.services.now.list c.args.setup.now.band c.args.demand.now.class c.args.pairs None)
    (sym (c.in-NoRoute.ensures.answer
    ∙ (λ i. answer_for (length (c.as_slice.ensures i)) (first_clear c.args.services.now.list (c.setup.view_is i).band
    (c.demand.view_is i).class (c.as_slice.ensures i) None))))

pub returns-in-Blocked-clause-is : goal.returns-in-Blocked-clause-is
returns-in-Blocked-clause-is c = tried-blocked c.args.setup.now c.args.demand.now c.args.pairs
    (first_clear c.args.services.now.list c.args.setup.now.band c.args.demand.now.class c.args.pairs None) c.in-Blocked.pairs
    (sym (c.in-Blocked.ensures.answer
    ∙ (λ i. answer_for (length (c.as_slice.ensures i)) (first_clear c.args.services.now.list (c.setup.view_is i).band
    (c.demand.view_is i).class (c.as_slice.ensures i) None))))

pub returns-in-Placed-clause-is : goal.returns-in-Placed-clause-is
returns-in-Placed-clause-is c = tried-enters c.args.setup.now c.args.demand.now c.args.pairs
    (first_clear c.args.services.now.list c.args.setup.now.band c.args.demand.now.class c.args.pairs None)
    c.in-Placed.found c.leg_at-leg.result c.new_service.result
    (sym (c.in-Placed.ensures.answer
    ∙ (λ i. answer_for (length (c.as_slice.ensures i)) (first_clear c.args.services.now.list (c.setup.view_is i).band
    (c.demand.view_is i).class (c.as_slice.ensures i) None))))
    (tried-leg c.args.setup.now c.args.demand.now c.args.pairs (first_clear c.args.services.now.list c.args.setup.now.band c.args.demand.now.class c.args.pairs None)
    c.args.services.now.list c.args.setup.now.band c.setup.inside.band c.demand.inside.class c.as_slice.result.now
    c.in-Placed.found c.take.result c.leg_at-leg.result (ap (λ (s : Setup). s.band) c.setup.view_is)
    (ap (λ (d : Demand). d.class) c.demand.view_is) c.as_slice.ensures c.in-Placed.ensures.place c.take.ensures
    c.leg_at-leg.ensures)
    (c.new_service.ensures
    ∙ ap (λ (s : Setup). new_service s.network c.args.demand.now c.leg_at-leg.result) c.setup.view_is)

pub returns-in-Placed-clause-service : goal.returns-in-Placed-clause-service
returns-in-Placed-clause-service c = record {
  leg = c.leg_at-leg.result;
  first_leg = tried-leg c.args.setup.now c.args.demand.now c.args.pairs (first_clear c.args.services.now.list c.args.setup.now.band c.args.demand.now.class c.args.pairs None)
      c.args.services.now.list c.args.setup.now.band c.setup.inside.band c.demand.inside.class c.as_slice.result.now
      c.in-Placed.found c.take.result c.leg_at-leg.result (ap (λ (s : Setup). s.band) c.setup.view_is)
      (ap (λ (d : Demand). d.class) c.demand.view_is) c.as_slice.ensures c.in-Placed.ensures.place c.take.ensures
      c.leg_at-leg.ensures;
  is = c.new_service.ensures
      ∙ ap (λ (s : Setup). new_service s.network c.args.demand.now c.leg_at-leg.result) c.setup.view_is;
}
