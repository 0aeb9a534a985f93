use Rattle.std.proofs.Common.{◌∙◌, sym, ap, Option, Some}
use Rattle.std.specs.Option.{option_map}
use Rattle.eon_model.specs.FirstInRows.{least_shared}
use Rattle.eon_model.specs.Grid.{units_of}
use Rattle.eon_model.specs.Rows.{Reserved, counts_among}
use Rattle.eon_model.specs.Services.{Path, Leg}
use Rattle.backup_sharing.specs.Shared.{counts_beside, reserved}
use Rattle.row_admission.specs.RowFirst.{backup_of}
use Rattle.row_admission.proofs.lowest.least_beside.Goals as goal

pub returns : goal.returns
returns g c =
    let rows = g.V.Occupied.rows c.args.view.now in
    let counts = counts_among c.args.sharing.now.reserves in
    c.lowest-2.ensures
    ∙ ap (λ (o : Option Reserved). least_shared rows (counts_beside o counts) c.args.risk.now c.args.fibres.now c.args.m c.args.band)
    ((λ i. Some (reserved (c.risk-own_risk.ensures i) (c.fibres.ensures i) (c.units.ensures.value i)))
    ∙ (λ i. Some (reserved (c.work.view_is i).route.risk (c.back.view_is i).route.fibres (units_of (c.back.view_is i).slot)))
    ∙ ap (option_map (λ (b : Path). reserved c.own.inside.work.route.risk b.route.fibres (units_of b.slot))) (sym c.in-Some.is)
    ∙ ap (λ (l : Leg). backup_of (Some l)) c.own.view_is)
