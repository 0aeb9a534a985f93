use Rattle.std.proofs.Common.{sym, ◌∙◌}
use Rattle.std.specs.FinSet as set
use Rattle.net_graph.proofs.RouteSums.{risk-more}
use Rattle.net_graph.proofs.route.risk_along.Goals as goal

pub loop-fibre-preserved : goal.loop-fibre-preserved
loop-fibre-preserved c =
    c.join.ensures
    ∙ (λ i. set.union (c.loop-fibre.invariant i) (c.risk.ensures i))
    ∙ sym (risk-more c.args.net.now c.args.fibres.now c.loop-fibre.fibre-index c.loop-fibre-test.true)
