use Rattle.std.proofs.Common.{ap, arith}
use Rattle.eon_model.specs.Legal.{Setup}
use Rattle.eon_model.proofs.SetupFacts.{setup-facts}
use Rattle.plan_serve.proofs.migrate.limit_of.Goals as goal

pub returns-clause-least : goal.returns-clause-least
returns-clause-least c =
    let least = (setup-facts c.args.core.now.setup c.setup.ensures.in_range).least_journal in
    let here = ap (λ (s : Setup). s.journal) c.behind-core.view_is in
    let same = ap (λ (s : Setup). s.journal) c.setup.ensures.setup in
    omega arith
