use Rattle.std.proofs.Common.{◌≡◌, ◌+◌}
use Rattle.eon_model.specs.Sets.{has_member}
use Rattle.route_list.specs.Distance.{Reached}
use Rattle.route_list.proofs.RoundLaws.{IsNear}
use Rattle.route_list.proofs.distance.distances.Given as goal

abbrev pub invariant-loop-round : goal.invariant-loop-round
invariant-loop-round g l = record {
  reached : Reached l.net (has_member l.banned) (has_member l.closed) l.t l.max_km l.away;
  near : IsNear l.net (has_member l.banned) (has_member l.closed) l.t l._round l.away;
  counted : l.rounds ≡ l.initial.rounds + l._round;
}
