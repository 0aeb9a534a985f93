use Rattle.std.proofs.Common.{◌∙◌, sym, ap, length, Some}
use Rattle.eon_model.specs.Services.{Service}
use Rattle.admission.specs.FirstClear.{first_clear}
use Rattle.admission.specs.Told.{answer_for}
use Rattle.make_rule.proofs.MakeSteps.{made-none, made-blocked, made-started, placed-leg}
use Rattle.make_rule.proofs.making.placed.Goals as goal

pub returns-in-NoRoute-clause-is : goal.returns-in-NoRoute-clause-is
returns-in-NoRoute-clause-is c = λ name.
    made-none name c.args.service.now.class c.args.pairs
    (first_clear c.args.services.now.list c.args.setup.now.band c.args.service.now.class c.args.pairs
    (Some c.args.service.now.leg))
    (sym (c.in-NoRoute.ensures.answer
    ∙ (λ i. answer_for (length (c.as_slice.ensures i)) (first_clear c.args.services.now.list (c.setup.view_is i).band
    (c.service.view_is i).class (c.as_slice.ensures i) (Some (c.service.view_is i).leg)))))

pub returns-in-Blocked-clause-is : goal.returns-in-Blocked-clause-is
returns-in-Blocked-clause-is c = λ name.
    made-blocked name c.args.service.now.class c.args.pairs
    (first_clear c.args.services.now.list c.args.setup.now.band c.args.service.now.class c.args.pairs
    (Some c.args.service.now.leg)) c.in-Blocked.pairs
    (sym (c.in-Blocked.ensures.answer
    ∙ (λ i. answer_for (length (c.as_slice.ensures i)) (first_clear c.args.services.now.list (c.setup.view_is i).band
    (c.service.view_is i).class (c.as_slice.ensures i) (Some (c.service.view_is i).leg)))))

pub returns-in-Placed-clause-leg : goal.returns-in-Placed-clause-leg
returns-in-Placed-clause-leg c =
    placed-leg
    (first_clear c.args.services.now.list c.setup.inside.band c.service.inside.class c.as_slice.result.now
    (Some c.service.inside.leg))
    (first_clear c.args.services.now.list c.args.setup.now.band c.args.service.now.class c.args.pairs
    (Some c.args.service.now.leg)) c.args.pairs c.as_slice.result.now c.in-Placed.found c.take.result c.leg_at.result
    (λ i. first_clear c.args.services.now.list (c.setup.view_is i).band (c.service.view_is i).class
    (c.as_slice.ensures i) (Some (c.service.view_is i).leg))
    c.as_slice.ensures c.in-Placed.ensures.place c.take.ensures c.leg_at.ensures

pub returns-in-Placed-clause-is : goal.returns-in-Placed-clause-is
returns-in-Placed-clause-is c = λ name.
    made-started name c.args.service.now.class c.args.pairs
    (first_clear c.args.services.now.list c.args.setup.now.band c.args.service.now.class c.args.pairs
    (Some c.args.service.now.leg)) c.in-Placed.found c.leg_at.result c.service.inside.class
    (sym (c.in-Placed.ensures.answer
    ∙ (λ i. answer_for (length (c.as_slice.ensures i)) (first_clear c.args.services.now.list (c.setup.view_is i).band
    (c.service.view_is i).class (c.as_slice.ensures i) (Some (c.service.view_is i).leg)))))
    (placed-leg
    (first_clear c.args.services.now.list c.setup.inside.band c.service.inside.class c.as_slice.result.now
    (Some c.service.inside.leg))
    (first_clear c.args.services.now.list c.args.setup.now.band c.args.service.now.class c.args.pairs
    (Some c.args.service.now.leg)) c.args.pairs c.as_slice.result.now c.in-Placed.found c.take.result c.leg_at.result
    (λ i. first_clear c.args.services.now.list (c.setup.view_is i).band (c.service.view_is i).class
    (c.as_slice.ensures i) (Some (c.service.view_is i).leg))
    c.as_slice.ensures c.in-Placed.ensures.place c.take.ensures c.leg_at.ensures)
    (ap (λ (v : Service). v.class) c.service.view_is)
