use Rattle.std.proofs.Common.{◌∙◌, ap, sym}
use Rattle.eon_model.specs.Legal.{Setup}
use Rattle.plan_core.proofs.moves.refit.Goals as goal

pub returns-clause-is : goal.returns-clause-is
returns-clause-is c =
    c.refit_decided.ensures.is
    ∙ c.refit.ensures c.args.setup.now (sym (ap (λ (s : Setup). s.band) c.setup.view_is)) c.requires
