use Rattle.std.proofs.Common.{◌∙◌, sym, ap}
use Rattle.eon_model.specs.Legal.{Setup}
use Rattle.eon_model.specs.Network.{risk_number_of}
use Rattle.plan_core.proofs.DrillSteps.{risk-in_range}
use Rattle.plan_core.proofs.listings.drill.Goals as goal

pub drill-requires-clause-group : goal.drill-requires-clause-group
drill-requires-clause-group c =
    risk-in_range c.args.setup.now c.args.group.now c.in-Some.number c.requires.in_range
    (sym (ap (λ (s : Setup). risk_number_of s.network c.args.group.now) c.setup.view_is) ∙ sym c.risk_of.ensures ∙ c.in-Some.is)

pub drill-requires-clause-legal : goal.drill-requires-clause-legal
drill-requires-clause-legal c = (c.args.setup.now, c.requires.in_range, c.requires.legal)
