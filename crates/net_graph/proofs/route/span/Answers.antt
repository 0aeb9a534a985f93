use Rattle.std.proofs.Common.{ap, arith}
use Rattle.net_graph.proofs.RouteSums.{km-small}
use Rattle.net_graph.proofs.route.span.Goals as goal

pub returns-clause-most : goal.returns-clause-most
returns-clause-most c =
    let km = ap (λ f. f.km) c.fibre.ensures in
    omega (arith, km, km-small c.args.net.now c.args.fibre c.fibres.ensures.graph)
