use Rattle.std.proofs.Common.{◌<◌}
use Rattle.eon_model.specs.Sets.{has_member}
use Rattle.route_list.specs.Distance.{Rounds, Lowers}
use Rattle.route_list.proofs.DistanceLaws.{Below}
use Rattle.route_list.proofs.distance.relax_all.Given as goal

abbrev pub invariant-loop-fibre : goal.invariant-loop-fibre
invariant-loop-fibre l = record {
  round : Rounds l.net (has_member l.banned) (has_member l.closed) l.t l.max_km
      (Below l.net (has_member l.banned) (has_member l.closed) l.t l.max_km l.fibre) l.initial.away l.away l.shorter;
  lower : Lowers l.net (has_member l.banned) (has_member l.closed) (λ i. i < l.fibre) l.initial.away l.away;
}
