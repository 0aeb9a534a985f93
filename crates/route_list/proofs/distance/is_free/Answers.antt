use Rattle.std.proofs.Common.{ap, arith}
use Rattle.net_graph.proofs.RouteSums.{ends-small}
use Rattle.route_list.proofs.distance.is_free.Goals as goal

pub has-requires-then-not-has : goal.has-requires-then-not-has
has-requires-then-not-has c =
    let ends = ends-small c.args.net.now c.args.fibre c.fibres.ensures.graph c.requires in
    omega (arith, ends.0, ap (λ f. f.a) c.fibre-ends.ensures)

pub has-requires-then-not-has-2 : goal.has-requires-then-not-has-2
has-requires-then-not-has-2 c =
    let ends = ends-small c.args.net.now c.args.fibre c.fibres.ensures.graph c.requires in
    omega (arith, ends.1, ap (λ f. f.b) c.fibre-ends.ensures)
