use Rattle.std.proofs.Common.{◌≡◌, drop}
use Rattle.net_graph.specs.Stands.{start, stand_after}
use Rattle.net_graph.proofs.walk.stand_at.Given as goal

abbrev pub invariant-loop-fibre : goal.invariant-loop-fibre
invariant-loop-fibre l =
    stand_after l.net.fibres (start l.node) l.fibres ≡ stand_after l.net.fibres l.stand (drop l.fibre-index l.fibres)
