use Rattle.std.proofs.Common.{◌∙◌, ap, ◌||◌}
use Rattle.std.specs.List.{list_any}
use Rattle.spectrum_map.specs.Kept.{is_unit_that}
use Rattle.backup_sharing.specs.Shared.{bars}
use Rattle.backup_sharing.proofs.barred.barred_units.Goals as goal

pub returns : goal.returns
returns c i =
    c.join_fibres.ensures i
    ∙ ap (λ b. b || is_unit_that c.args.band.now (λ u. list_any (λ fibre. bars c.args.maps.now c.args.risk.now c.args.own.now fibre u)
    c.args.fibres.now) i) (c.empty-row.ensures i)
