use Rattle.std.proofs.Common.{◌≡◌, ◌+◌, ◌*◌, ◌-◌, ◌<◌, ◌≤◌, length, map}
use Rattle.eon_model.specs.Routes.{AreFirstRoutes}
use Rattle.eon_model.specs.Sets.{has_member}
use Rattle.eon_model.proofs.DeviationNext.{IsPool}
use Rattle.route_list.specs.Fronts.{seen}
use Rattle.route_list.specs.Pools.{fibres_in}
use Rattle.route_list.proofs.search.routes.Given as goal

abbrev pub invariant-loop-route : goal.invariant-loop-route
invariant-loop-route g l = record {
  facts : AreFirstRoutes l.net l.s l.t (has_member l.banned) (length l.found.items) l.max_km l.found.items;
  pool : IsPool l.net l.s l.t (has_member l.banned) l.max_km l.found.items (map seen l.pool.items);
  few : length l.found.items < l.k;
  counted : l.steps ≡ l.initial.steps + fibres_in l.found.items;
  most : fibres_in l.found.items ≤ length l.found.items * length l.net.nodes;
}

abbrev pub decreases-loop-route : goal.decreases-loop-route
decreases-loop-route g l = l.k - length l.found.items
