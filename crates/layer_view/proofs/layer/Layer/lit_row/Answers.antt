use Rattle.std.proofs.Common.{◌∙◌, sym, ap, subst, ℕ, false, ◌||◌, List, get_or}
use Rattle.eon_model.specs.Grid.{Band}
use Rattle.eon_model.proofs.SpanLaws.{span-facts}
use Rattle.spectrum_map.specs.Kept.{is_unit_that}
use Rattle.layer_view.specs.Kept.{IsWithin}
use Rattle.layer_view.specs.Layers.{Marks, lit_over}
use Rattle.layer_view.proofs.OverLaws.{fibre-facts, own_row, base_row}
use Rattle.layer_view.proofs.layer.Layer.lit_row.Goals as goal

pub returns-then-self-from : goal.returns-then-self-from
returns-then-self-from g c =
    let kept = c.args.self.now.rows.now in
    let own = c.args.self.now.own in
    let lit = (g.V.Occupied.rows c.args.self.now.base.now).lit in
    let mine = ap (λ n. get_or own n false) (sym c.from.ensures) ∙ c.if-self-from.true in
    subst (λ (ws : List ℕ). Marks kept.band ws (lit_over lit kept own c.args.fibre)) (sym c.row.ensures.value)
    (own_row kept (span-facts kept.band c.row.ensures.valid) lit own c.args.fibre mine
    (subst (λ (ws : List ℕ). IsWithin kept.band ws) c.row.ensures.value c.row.ensures.within))

pub returns : goal.returns
returns g c =
    let kept = c.args.self.now.rows.now in
    let own = c.args.self.now.own in
    let base = c.args.self.now.base.now in
    let lit = (g.V.Occupied.rows base).lit in
    let theirs = ap (λ n. get_or own n false) (sym c.from.ensures) ∙ c.if-self-from.false in
    let at = fibre-facts (g.V.Occupied.band base) (g.V.Occupied.fibres base) kept c.args.fibre c.requires in
    base_row kept lit own c.args.fibre theirs c.join_lit.new.row.words
    (subst (λ (b : Band). Marks b c.join_lit.new.row.words (lit c.args.fibre)) at.band_is
    (λ i. c.join_lit.ensures i ∙ ap (λ b. b || is_unit_that (g.V.Occupied.band base) (lit c.args.fibre) i) (c.empty-row.ensures i)))
