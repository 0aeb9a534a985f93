use Rattle.std.proofs.Common.{◌∙◌, sym, ap, w16, to_z, of_z}
use Rattle.std.proofs.lemmas.Int.{to_z-of_z}
use Rattle.eon_model.specs.Step.{refit_from}
use Rattle.plan_core.specs.Told.{outcome_told}
use Rattle.plan_core.proofs.MadeLaws.{refit-stays, refit-moves}
use Rattle.plan_core.proofs.moves.refitted.Goals as goal

pub returns-then-is_same-clause-is : goal.returns-then-is_same-clause-is
returns-then-is_same-clause-is c =
    ap outcome_told c.say.ensures.decision
    ∙ refit-stays c.args.name (to_z w16 (of_z w16 c.args.from)) (to_z w16 (of_z w16 c.args.to))
    (sym c.is_same.ensures ∙ c.if-is_same.true)
    ∙ (λ i. refit_from c.args.name (to_z-of_z w16 c.args.from c.ranges.from i) (to_z-of_z w16 c.args.to c.ranges.to i))

pub returns-clause-is : goal.returns-clause-is
returns-clause-is c =
    ap outcome_told c.change.ensures.decision
    ∙ refit-moves c.args.name (to_z w16 (of_z w16 c.args.from)) (to_z w16 (of_z w16 c.args.to))
    (sym c.is_same.ensures ∙ c.if-is_same.false)
    ∙ (λ i. refit_from c.args.name (to_z-of_z w16 c.args.from c.ranges.from i) (to_z-of_z w16 c.args.to c.ranges.to i))
