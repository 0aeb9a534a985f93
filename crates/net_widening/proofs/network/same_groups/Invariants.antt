use Rattle.std.proofs.Common.{◌≡◌, drop}
use Rattle.eon_model.specs.Wider.{all_same, same_group}
use Rattle.net_widening.proofs.network.same_groups.Given as goal

abbrev pub invariant-loop-i : goal.invariant-loop-i
invariant-loop-i l =
    all_same same_group l.net.groups l.other.groups ≡ all_same same_group (drop l.i l.net.groups) (drop l.i l.other.groups)
