use Rattle.plan_serve.proofs.BindingSteps.{digest-good}
use Rattle.plan_serve.proofs.migrate.append_binding.Goals as goal

pub append-requires-clause-in_range : goal.append-requires-clause-in_range
append-requires-clause-in_range g c = digest-good c.args.digest.now c.told-digest c.fits-digest
