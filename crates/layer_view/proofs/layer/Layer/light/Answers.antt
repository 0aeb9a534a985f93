use Rattle.std.proofs.Common.{subst, ◌||◌}
use Rattle.eon_model.specs.Grid.{Band, has_unit}
use Rattle.eon_model.proofs.SpanLaws.{span-facts}
use Rattle.spectrum_map.specs.Kept.{ArePlaces}
use Rattle.layer_view.specs.Layers.{lit_over}
use Rattle.layer_view.proofs.MarkLaws.{marked_more, marks_within}
use Rattle.layer_view.proofs.layer.Layer.light.Goals as goal

pub take_over-requires-clause-within : goal.take_over-requires-clause-within
take_over-requires-clause-within g c =
    let kept = c.args.self.now.rows.now in
    let test = lit_over (g.V.Occupied.rows c.args.self.now.base.now).lit kept c.args.self.now.own c.args.fibre in
    let at : ArePlaces kept.band c.args.units.now c.places_of-places.result.first c.places_of-places.result.end =
    subst (λ (b : Band). ArePlaces b c.args.units.now c.places_of-places.result.first c.places_of-places.result.end)
    c.band.ensures c.places_of-places.ensures in
    let span = span-facts kept.band at.band_is in
    marks_within kept.band span c.mark.new.self.words (λ u. test u || has_unit c.args.units.now u)
    (marked_more kept.band span c.lit_row-row.result.words test c.lit_row-row.ensures c.args.units.now c.requires.units
    c.places_of-places.result.first c.places_of-places.result.end at c.mark.new.self.words c.mark.ensures)

pub returns-clause-lit : goal.returns-clause-lit
returns-clause-lit g c =
    let kept = c.args.self.now.rows.now in
    let test = lit_over (g.V.Occupied.rows c.args.self.now.base.now).lit kept c.args.self.now.own c.args.fibre in
    let at : ArePlaces kept.band c.args.units.now c.places_of-places.result.first c.places_of-places.result.end =
    subst (λ (b : Band). ArePlaces b c.args.units.now c.places_of-places.result.first c.places_of-places.result.end)
    c.band.ensures c.places_of-places.ensures in
    let span = span-facts kept.band at.band_is in
    c.take_over.ensures.lit (λ u. test u || has_unit c.args.units.now u)
    (marked_more kept.band span c.lit_row-row.result.words test c.lit_row-row.ensures c.args.units.now c.requires.units
    c.places_of-places.result.first c.places_of-places.result.end at c.mark.new.self.words c.mark.ensures)
