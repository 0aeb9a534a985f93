use Rattle.std.proofs.Common.{◌∙◌, ap, ◌||◌}
use Rattle.eon_model.specs.Grid.{Band}
use Rattle.spectrum_map.specs.Bits.{bit_of}
use Rattle.spectrum_map.specs.Kept.{is_unit_that}
use Rattle.layer_view.proofs.OverLaws.{fibre-facts}
use Rattle.layer_view.proofs.layer.LayerOccupied.join_held.Goals as goal

pub returns : goal.returns
returns g c i =
    let base = c.args.self.now.base.now in
    let at = fibre-facts (g.V.Occupied.band base) (g.V.Occupied.fibres base) c.args.self.now.rows.now c.args.fibre
    c.requires in
    c.join_held.ensures i
    ∙ ap (λ (b : Band). bit_of c.args.row.now.words i || is_unit_that b ((g.V.Occupied.rows base).held c.args.fibre) i)
    at.band_is
