use Rattle.std.proofs.Common.{◌≡◌, true, take}
use Rattle.eon_model.specs.Names.{ascend}
use Rattle.net_graph.proofs.named.names_ascend.Given as goal

abbrev pub invariant-loop-i : goal.invariant-loop-i
invariant-loop-i l = ascend (take l.i l.names) ≡ true
