use Rattle.std.proofs.Common.{◌∙◌, sym, ap, ℤ, w16}
use Rattle.std.proofs.lemmas.Int.{to_z-of_z}
use Rattle.eon_model.specs.declared.Part.TheVariants.{Work}
use Rattle.eon_model.specs.Step.{asked}
use Rattle.plan_core.specs.Placing.{path_if_walks}
use Rattle.plan_core.proofs.FaultSteps.{alone, with_back, with_stuck}
use Rattle.plan_core.proofs.asked_paths.asked_paths.Goals as goal

pub returns-in_default-back-clause-fault : goal.returns-in_default-back-clause-fault
returns-in_default-back-clause-fault c = (alone c.args.net.now c.args.demand.now
    (record { fibres = c.args.work.now; n = c.args.n }) c.args.back.now c.in-Some.work
    (sym c.in-Some.is ∙ c.in_ok-work.ensures
    ∙ ap (λ (k : ℤ). path_if_walks c.args.net.now c.args.demand.now (asked c.args.net.now Work (record { fibres = c.args.work.now; n = k }))) (to_z-of_z w16 c.args.n c.ranges.n)) c.in_default-back.is).0

pub returns-in_default-back-clause-paths : goal.returns-in_default-back-clause-paths
returns-in_default-back-clause-paths c = (alone c.args.net.now c.args.demand.now
    (record { fibres = c.args.work.now; n = c.args.n }) c.args.back.now c.in-Some.work
    (sym c.in-Some.is ∙ c.in_ok-work.ensures
    ∙ ap (λ (k : ℤ). path_if_walks c.args.net.now c.args.demand.now (asked c.args.net.now Work (record { fibres = c.args.work.now; n = k }))) (to_z-of_z w16 c.args.n c.ranges.n)) c.in_default-back.is).1

pub returns-in-Some-2-clause-fault : goal.returns-in-Some-2-clause-fault
returns-in-Some-2-clause-fault c = (with_back c.args.net.now c.args.demand.now
    (record { fibres = c.args.work.now; n = c.args.n }) c.args.back.now c.in-Some.work
    (sym c.in-Some.is ∙ c.in_ok-work.ensures
    ∙ ap (λ (k : ℤ). path_if_walks c.args.net.now c.args.demand.now (asked c.args.net.now Work (record { fibres = c.args.work.now; n = k }))) (to_z-of_z w16 c.args.n c.ranges.n)) c.in-Some-back.words c.in-Some-2.path c.in-Some-back.is
    (sym c.in-Some-2.is ∙ c.in_ok-path.ensures)).0

pub returns-in-Some-2-clause-paths : goal.returns-in-Some-2-clause-paths
returns-in-Some-2-clause-paths c = (with_back c.args.net.now c.args.demand.now
    (record { fibres = c.args.work.now; n = c.args.n }) c.args.back.now c.in-Some.work
    (sym c.in-Some.is ∙ c.in_ok-work.ensures
    ∙ ap (λ (k : ℤ). path_if_walks c.args.net.now c.args.demand.now (asked c.args.net.now Work (record { fibres = c.args.work.now; n = k }))) (to_z-of_z w16 c.args.n c.ranges.n)) c.in-Some-back.words c.in-Some-2.path c.in-Some-back.is
    (sym c.in-Some-2.is ∙ c.in_ok-path.ensures)).1

pub returns-in-None-clause-fault : goal.returns-in-None-clause-fault
returns-in-None-clause-fault c = with_stuck c.args.net.now c.args.demand.now
    (record { fibres = c.args.work.now; n = c.args.n }) c.args.back.now c.in-Some.work
    (sym c.in-Some.is ∙ c.in_ok-work.ensures
    ∙ ap (λ (k : ℤ). path_if_walks c.args.net.now c.args.demand.now (asked c.args.net.now Work (record { fibres = c.args.work.now; n = k }))) (to_z-of_z w16 c.args.n c.ranges.n)) c.in-Some-back.words c.in-Some-back.is
    (sym c.in-None.is ∙ c.in_ok-path.ensures)
