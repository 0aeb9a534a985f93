use Rattle.std.proofs.Common.{◌≡◌, ◌+◌, ◌++◌, map, take}
use Rattle.eon_model.specs.Sets.{has_member}
use Rattle.eon_model.specs.Deviations.{deviations_at, fronts_of}
use Rattle.route_list.specs.Fronts.{seen, StandsAt}
use Rattle.route_list.proofs.deviation.renew.Given as goal

abbrev pub invariant-loop-i : goal.invariant-loop-i
invariant-loop-i g l = record {
  pool : map seen l.pool.items ≡ map seen l.initial.pool.items
      ++ deviations_at l.net l.ask.s l.ask.t (has_member l.banned) l.ask.max_km l.found
      (take l.i (fronts_of l.fibres));
  stands : StandsAt l.net l.ask.s l.ask.max_km (take l.i l.fibres) l.front;
  counted : l.steps ≡ l.initial.steps + l.i;
}
