-- The channels before this one do not touch it.
use Rattle.std.proofs.Common.{◌≡◌, drop, find}
use Rattle.eon_model.specs.Plan.{Channel, target_place, touches_from_below}
use Rattle.compact_plan.specs.Told.{channels, place_at}
use Rattle.compact_plan.proofs.telling.first_channel.Given as goal

abbrev pub invariant-loop-i : goal.invariant-loop-i
invariant-loop-i l =
    find (λ (d : Channel). touches_from_below (target_place d) (place_at l.begin l.above)) (drop l.i (channels l.services.list l.lows))
    ≡ find (λ (d : Channel). touches_from_below (target_place d) (place_at l.begin l.above)) (channels l.services.list l.lows)
