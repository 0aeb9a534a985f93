use Rattle.std.proofs.Common.{ℕ, ◌<◌, ◌≤◌, List, ◌++◌, length, get_or}
use Rattle.eon_model.specs.Sets.{has_member}
use Rattle.route_list.specs.Ways.{IsLeastWay}
use Rattle.route_list.proofs.least.least_way.Given as goal

abbrev pub invariant-loop-node : goal.invariant-loop-node
invariant-loop-node l = record {
  known : l.node < length l.net.nodes;
  within : get_or l.away l.node 0 ≤ l.max_km;
  way : (rest : List ℕ) → IsLeastWay l.net (has_member l.banned) (has_member l.closed) l.away l.t l.node rest →
      IsLeastWay l.net (has_member l.banned) (has_member l.closed) l.away l.t l.fn.s (l.fibres.items ++ rest);
}

abbrev pub decreases-loop-node : goal.decreases-loop-node
decreases-loop-node l = get_or l.away l.node 0
