use Rattle.std.proofs.Common.{◌≡◌, ◌∙◌, sym, ap, ◌∷◌, [], Some, to_z, of_z, w16, ◌-ℤ◌, pos, arith}
use Rattle.std.specs.Prelude.{int_le}
use Rattle.std.proofs.lemmas.Int.{ints}
use Rattle.eon_model.specs.Grid.{Units}
use Rattle.flex_grid.specs.Makes.{units_from}
use Rattle.flex_grid.proofs.BandFacts.{made, some_from}
use Rattle.flex_grid.proofs.band.Band.make.Goals as goal

pub returns-clause-value : goal.returns-clause-value
returns-clause-value c =
    let u : Units = record { lo = c.args.lo; hi = c.args.hi } in
    let lo : to_z w16 (of_z w16 c.args.lo) ≡ c.args.lo = omega (arith, ints, c.ranges.lo.sfits) in
    let hi : to_z w16 (of_z w16 c.args.hi) ≡ c.args.hi = omega (arith, ints, c.ranges.hi.sfits) in
    let range = made u c.in-Some.part (c.in-Some.ensures.value ∙ (λ i. units_from (lo i) (hi i))) in
    let reach = (λ i. int_le (sym hi i -ℤ sym lo i) (pos 1023)) ∙ sym c.is_in_reach.ensures ∙ c.if-not-is_in_reach.false in
    ap (λ p. Some (p ∷ [])) range.1 ∙ (some_from u range.0 reach).1
