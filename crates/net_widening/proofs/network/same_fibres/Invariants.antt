use Rattle.std.proofs.Common.{◌≡◌, drop}
use Rattle.eon_model.specs.Wider.{all_same, same_fibre}
use Rattle.net_widening.proofs.network.same_fibres.Given as goal

abbrev pub invariant-loop-i : goal.invariant-loop-i
invariant-loop-i l =
    all_same same_fibre l.net.fibres l.other.fibres ≡ all_same same_fibre (drop l.i l.net.fibres) (drop l.i l.other.fibres)
