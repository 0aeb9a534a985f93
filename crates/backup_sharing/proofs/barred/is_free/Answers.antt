use Rattle.std.specs.List.{list_any}
use Rattle.backup_sharing.specs.Shared.{bars}
use Rattle.backup_sharing.proofs.ClearLaws.{told_clear}
use Rattle.backup_sharing.proofs.barred.is_free.Goals as goal

pub returns-clause-free : goal.returns-clause-free
returns-clause-free c =
    told_clear c.args.band.now c.args.units.now c.requires.units c.places_of-places.result.first c.places_of-places.result.end c.places_of-places.ensures
    c.barred_units.result.words
    (λ u. list_any (λ fibre. bars c.args.maps.now c.args.risk.now c.args.own.now fibre u) c.args.fibres.now)
    c.barred_units.ensures c.is_clear.result c.is_clear.ensures
