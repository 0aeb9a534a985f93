-- The backups before this one do not touch it.
use Rattle.std.proofs.Common.{◌≡◌, drop, find}
use Rattle.std.specs.List.{list_any}
use Rattle.eon_model.specs.Plan.{Channel, touches_from_below}
use Rattle.eon_model.specs.Services.{backup_holdings}
use Rattle.compact_plan.specs.Told.{channels, place_at}
use Rattle.compact_plan.proofs.telling.first_backup.Given as goal

abbrev pub invariant-loop-i : goal.invariant-loop-i
invariant-loop-i l =
    find (λ (d : Channel). list_any (λ b. touches_from_below b (place_at l.begin l.above)) (backup_holdings d.service.leg))
    (drop l.i (channels l.services.list l.lows))
    ≡ find (λ (d : Channel). list_any (λ b. touches_from_below b (place_at l.begin l.above)) (backup_holdings d.service.leg))
    (channels l.services.list l.lows)
