use Rattle.std.proofs.Common.{◌<◌, length, ap, arith}
use Rattle.net_graph.proofs.RouteSums.{ends-small}
use Rattle.net_graph.proofs.graph.Net.far_end.Goals as goal

pub returns-then-fibre-node-clause-small : goal.returns-then-fibre-node-clause-small
returns-then-fibre-node-clause-small c =
    let there : c.args.fibre < length c.args.self.now.fibres = omega (arith, c.if-fibre-fibres.false, c.fibres.ensures.count) in
    let ends = ends-small c.args.self.now c.args.fibre c.fibres.ensures.graph there in
    omega (arith, ends.1, ap (λ f. f.b) c.fibre-fibre.ensures)

pub returns-then-fibre-node-2-clause-small : goal.returns-then-fibre-node-2-clause-small
returns-then-fibre-node-2-clause-small c =
    let there : c.args.fibre < length c.args.self.now.fibres = omega (arith, c.if-fibre-fibres.false, c.fibres.ensures.count) in
    let ends = ends-small c.args.self.now c.args.fibre c.fibres.ensures.graph there in
    omega (arith, ends.0, ap (λ f. f.a) c.fibre-fibre.ensures)
