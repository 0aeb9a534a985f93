use Rattle.std.proofs.Common.{◌≡◌, ◌∙◌, to_z, of_z, w16, arith}
use Rattle.std.proofs.lemmas.Int.{ints}
use Rattle.eon_model.specs.FirstInRows.{least_free}
use Rattle.eon_model.specs.Grid.{span_of}
use Rattle.eon_model.proofs.CountLaws.{from_below}
use Rattle.row_admission.proofs.LeastLaws.{itself}
use Rattle.row_admission.proofs.lowest.least_work.Goals as goal

pub returns : goal.returns
returns g c =
    let band = c.args.band in
    let rows = g.V.Occupied.rows c.args.view.now in
    let from : to_z w16 (of_z w16 c.lo.result) ≡ (span_of band).lo = let value = c.lo.ensures.value in omega (arith, ints) in
    c.lowest.ensures
    ∙ (λ i. least_free rows (c.fibres.ensures i) c.args.m band (from i))
    ∙ from_below band rows (record { route = c.args.route.now; m = c.args.m }) (span_of band).lo (itself (span_of band).lo)
