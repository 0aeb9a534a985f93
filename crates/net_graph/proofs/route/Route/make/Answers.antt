use Rattle.std.proofs.Common.{sym, ◌∙◌}
use Rattle.net_graph.proofs.RouteSums.{walk-few, walk-known}
use Rattle.net_graph.proofs.route.Route.make.Goals as goal

pub length_of-requires-clause-few : goal.length_of-requires-clause-few
length_of-requires-clause-few c =
    walk-few c.args.net.now c.args.s c.args.t c.args.fibres.now c.is_walk.ensures.graph
    (sym c.is_walk.ensures.walk ∙ c.if-not-is_walk.false)

pub length_of-requires-clause-known : goal.length_of-requires-clause-known
length_of-requires-clause-known c =
    walk-known c.args.net.now c.args.s c.args.t c.args.fibres.now c.is_walk.ensures.graph
    (sym c.is_walk.ensures.walk ∙ c.if-not-is_walk.false)

pub risk_along-requires : goal.risk_along-requires
risk_along-requires c =
    walk-known c.args.net.now c.args.s c.args.t c.args.fibres.now c.is_walk.ensures.graph
    (sym c.is_walk.ensures.walk ∙ c.if-not-is_walk.false)
