use Rattle.std.proofs.Common.{◌≡◌, ◌∙◌, sym, subst, ◌||◌, arith, to_z, of_z, w16}
use Rattle.std.proofs.lemmas.Int.{ints}
use Rattle.eon_model.specs.Grid.{Band}
use Rattle.eon_model.specs.Rows.{greatest_below}
use Rattle.spectrum_map.specs.Kept.{is_unit_that}
use Rattle.layer_view.proofs.MarkLaws.{joined_marks}
use Rattle.layer_view.specs.Layers.{Marks, lit_over}
use Rattle.layer_view.proofs.OverLaws.{fibre-facts}
use Rattle.layer_view.proofs.layer.LayerOccupied.top_below.Goals as goal

pub returns : goal.returns
returns g c =
    let base = c.args.self.now.base.now in
    let kept = c.args.self.now.rows.now in
    let lit = lit_over (g.V.Occupied.rows base).lit kept c.args.self.now.own c.args.fibre in
    let held = (g.V.Occupied.rows base).held c.args.fibre in
    let at = fibre-facts (g.V.Occupied.band base) (g.V.Occupied.fibres base) kept c.args.fibre c.requires in
    let marks : Marks kept.band c.join_held.new.row.words (λ u. lit u || held u) =
    λ i. c.join_held.ensures i
    ∙ (λ j. c.lit_row-row.ensures i j || is_unit_that (at.band_is j) held i)
    ∙ joined_marks kept.band lit held i in
    let unit : to_z w16 (of_z w16 c.args.unit) ≡ c.args.unit = omega (arith, ints) in
    c.greatest_marked.ensures (λ u. lit u || held u)
    (subst (λ (b : Band). Marks b c.join_held.new.row.words (λ u. lit u || held u)) (sym c.band.ensures) marks)
    ∙ (λ i. greatest_below (c.band.ensures i) (λ u. lit u || held u) (unit i))
