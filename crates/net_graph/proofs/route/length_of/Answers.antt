use Rattle.std.proofs.Common.{◌+◌, sym, ◌∙◌, arith}
use Rattle.net_graph.proofs.RouteSums.{km-more}
use Rattle.net_graph.proofs.route.length_of.Goals as goal

pub overflow_add-km : goal.overflow_add-km
overflow_add-km c =
    omega (arith, c.loop-fibre.invariant.small, c.span-km.ensures.most, c.requires.few)

pub loop-fibre-preserved : goal.loop-fibre-preserved
loop-fibre-preserved c = record {
  sum =
      (λ i. c.loop-fibre.invariant.sum i + c.span-km.ensures.km i)
      ∙ sym (km-more c.args.net.now c.args.fibres.now c.loop-fibre.fibre-index c.loop-fibre-test.true);
  small = omega (arith, c.loop-fibre.invariant.small, c.span-km.ensures.most);
}
