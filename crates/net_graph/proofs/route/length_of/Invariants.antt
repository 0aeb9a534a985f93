use Rattle.std.proofs.Common.{◌≡◌, ◌≤◌, ◌*◌, take}
use Rattle.eon_model.specs.Route.{km_of}
use Rattle.net_graph.proofs.route.length_of.Given as goal

abbrev pub invariant-loop-fibre : goal.invariant-loop-fibre
invariant-loop-fibre l = record {
  sum : l.km ≡ km_of l.net (take l.fibre-index l.fibres);
  small : l.km ≤ 100000 * l.fibre-index;
}
