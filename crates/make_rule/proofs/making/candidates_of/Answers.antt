use Rattle.std.proofs.Common.{◌≡◌, subst}
use Rattle.std.specs.Result.{IfOk}
use Rattle.eon_model.specs.Candidates.{candidates}
use Rattle.eon_model.specs.Services.{Service}
use Rattle.make_rule.proofs.making.candidates_of.Goals as goal

pub returns-clause-candidates : goal.returns-clause-candidates
returns-clause-candidates c =
    subst (λ (v : Service). IfOk c.pairs_kept.result (λ ps. ps ≡ candidates c.args.setup.now v.src v.dst v.rate v.class c.args.avoid))
    c.service.view_is c.pairs_kept.ensures.pairs
