use Rattle.std.proofs.Common.{◌≡◌, ◌∙◌, sym, ap, subst, ℕ, ℤ, pos, ◌+ℤ◌, Option, Some, arith, to_z, of_z, w16}
use Rattle.std.specs.Option.{option_map}
use Rattle.std.proofs.lemmas.Int.{ints}
use Rattle.eon_model.specs.Grid.{span_of}
use Rattle.layer_view.specs.Layers.{EndsBelow}
use Rattle.layer_view.proofs.TopLaws.{top_marked}
use Rattle.layer_view.proofs.marks.greatest_marked.Goals as goal

pub returns-in_err-place : goal.returns-in_err-place
returns-in_err-place c test marks =
    let unit : to_z w16 (of_z w16 c.args.unit) ≡ c.args.unit = omega (arith, ints) in
    let ends = subst (λ (u : ℤ). EndsBelow c.args.band.now u c.units_below.result) unit c.units_below.ensures in
    c.from_residual.ensures
    ∙ ap (λ (o : Option ℕ). option_map (λ t. (span_of c.args.band.now).lo +ℤ pos t) o) (sym c.in_err-place.was)
    ∙ top_marked c.args.band.now ends.band_is c.args.row.now.words test marks c.args.unit c.units_below.result ends
    c.highest.result c.highest.ensures

pub returns : goal.returns
returns c test marks =
    let unit : to_z w16 (of_z w16 c.args.unit) ≡ c.args.unit = omega (arith, ints) in
    let ends = subst (λ (u : ℤ). EndsBelow c.args.band.now u c.units_below.result) unit c.units_below.ensures in
    let same : to_z w16 (of_z w16 c.unit_at.result) ≡ c.unit_at.result = omega (arith, ints) in
    ap (λ (u : ℤ). Some u) (same ∙ c.unit_at.ensures)
    ∙ ap (λ (o : Option ℕ). option_map (λ t. (span_of c.args.band.now).lo +ℤ pos t) o) (sym c.in_ok-place.was)
    ∙ top_marked c.args.band.now ends.band_is c.args.row.now.words test marks c.args.unit c.units_below.result ends
    c.highest.result c.highest.ensures
