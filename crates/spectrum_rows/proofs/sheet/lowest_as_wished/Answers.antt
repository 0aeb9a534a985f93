use Rattle.std.proofs.Common.{◌≡◌, ◌∙◌, sym, ap, subst, ℕ, ◌<◌, [], ◌∷◌, arith, to_z, of_z, w16}
use Rattle.std.proofs.lemmas.Int.{ints}
use Rattle.eon_model.specs.FirstInRows.{least_free}
use Rattle.eon_model.specs.Rows.{Rows}
use Rattle.spectrum_map.specs.Kept.{Kept, rows_in}
use Rattle.layer_view.specs.Layers.{rows_over}
use Rattle.layer_view.proofs.OverLaws.{all_fibres}
use Rattle.spectrum_rows.proofs.sheet.lowest_as_wished.Goals as goal

pub lowest-requires-clause-fibres : goal.lowest-requires-clause-fibres
lowest-requires-clause-fibres c =
    let of = c.layer_of-layer in
    let maps = c.args.maps.now in
    let base = of.ensures.base in
    let band = of.ensures.shape.band ∙ c.requires.band ∙ ap (λ (k : Kept). k.band) (sym base) in
    let count = of.ensures.shape.count ∙ c.requires.fibres ∙ ap (λ (k : Kept). k.fibres) (sym base) in (
      subst (λ (n : ℕ). c.args.wish.now.fibre < n)
          (sym (all_fibres of.result.base.now.band of.result.base.now.fibres of.result.rows.now band count))
          (subst (λ (k : Kept). c.args.wish.now.fibre < k.fibres) (sym base) c.requires.fibre),
      tt,
    )

pub returns-clause-answer : goal.returns-clause-answer
returns-clause-answer c =
    let of = c.layer_of-layer in
    let fibres = c.args.wish.now.fibre ∷ [] in
    let from : to_z w16 (of_z w16 c.args.from) ≡ c.args.from = omega (arith, ints) in
    c.lowest.ensures
    ∙ (λ i. least_free (rows_over (rows_in (of.ensures.base i)) of.result.rows.now of.result.own) fibres c.args.m
    c.args.band (from i))
    ∙ ap (λ (r : Rows). least_free r fibres c.args.m c.args.band c.args.from) of.ensures.rows
