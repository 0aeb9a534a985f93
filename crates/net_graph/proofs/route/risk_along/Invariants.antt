use Rattle.std.proofs.Common.{◌≡◌, take}
use Rattle.eon_model.specs.Route.{risk_of}
use Rattle.net_graph.proofs.route.risk_along.Given as goal

abbrev pub invariant-loop-fibre : goal.invariant-loop-fibre
invariant-loop-fibre l = l.risk ≡ risk_of l.net (take l.fibre-index l.fibres)
