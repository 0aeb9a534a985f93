use Rattle.std.proofs.Common.{◌∙◌, sym}
use Rattle.plan_core.proofs.FaultSteps.{width-wide}
use Rattle.plan_core.proofs.asked_leg.sized_path.Goals as goal

pub returns-in-Some-clause-wide : goal.returns-in-Some-clause-wide
returns-in-Some-clause-wide c = width-wide c.args.setup.now c.args.demand.now.rate c.args.path.route.km c.in-Some.m
    c.requires.in_range c.requires.rate (sym c.width.ensures ∙ c.in-Some.is)
