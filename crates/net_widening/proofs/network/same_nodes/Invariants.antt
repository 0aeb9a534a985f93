use Rattle.std.proofs.Common.{◌≡◌, drop}
use Rattle.eon_model.specs.Names.{same_name}
use Rattle.eon_model.specs.Wider.{all_same}
use Rattle.net_widening.proofs.network.same_nodes.Given as goal

abbrev pub invariant-loop-i : goal.invariant-loop-i
invariant-loop-i l =
    all_same same_name l.net.nodes l.other.nodes ≡ all_same same_name (drop l.i l.net.nodes) (drop l.i l.other.nodes)
