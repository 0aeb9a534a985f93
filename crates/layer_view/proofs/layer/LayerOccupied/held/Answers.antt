use Rattle.std.proofs.Common.{◌≡◌, sym, subst, true}
use Rattle.eon_model.specs.Grid.{Band, lies_in, span_of}
use Rattle.layer_view.proofs.OverLaws.{fibre-facts}
use Rattle.layer_view.proofs.layer.LayerOccupied.held.Goals as goal

pub held-requires-clause-units : goal.held-requires-clause-units
held-requires-clause-units g c =
    let base = c.args.self.now.base.now in
    let at = fibre-facts (g.V.Occupied.band base) (g.V.Occupied.fibres base) c.args.self.now.rows.now c.args.fibre
    c.requires.fibre in
    subst (λ (b : Band). lies_in (span_of b) c.args.units ≡ true) (sym at.band_is) c.requires.units
