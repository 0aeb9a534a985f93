use Rattle.std.proofs.Common.{◌∙◌, ap, sym, w16}
use Rattle.std.proofs.lemmas.Int.{to_z-of_z}
use Rattle.eon_model.specs.Legal.{Setup}
use Rattle.eon_model.specs.Step.{push}
use Rattle.plan_core.proofs.moves.push.Goals as goal

pub returns-clause-is : goal.returns-clause-is
returns-clause-is c =
    c.pushed.ensures.is ∙ c.push.ensures c.args.setup.now (sym (ap (λ (s : Setup). s.band) c.setup.view_is))
    ∙ ap (push c.args.setup.now c.args.services.now.list c.args.name.now) (to_z-of_z w16 c.args.n c.ranges.n)
