use Rattle.plan_serve.proofs.BindingSteps.{digest-good}
use Rattle.plan_serve.proofs.migrate.append_at.Goals as goal

pub returns-clause-digest : goal.returns-clause-digest
returns-clause-digest g c = digest-good c.args.digest.now c.told-digest c.fits-digest
