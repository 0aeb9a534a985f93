use Rattle.std.proofs.Common.{◌≡◌, ◌∙◌, sym, ap, length, arith, to_z, of_z, w16}
use Rattle.std.proofs.lemmas.Int.{ints}
use Rattle.std.proofs.lemmas.List.{length-take-le}
use Rattle.eon_model.specs.Grid.{Units, is_band}
use Rattle.flex_grid.specs.Makes.{units_from, leaves_room_for}
use Rattle.flex_grid.proofs.BandFacts.{made, none_full, none_near, stands}
use Rattle.flex_grid.proofs.band.Band.with.Goals as goal

pub returns-then-at-eq-MOST_PARTS-clause-value : goal.returns-then-at-eq-MOST_PARTS-clause-value
returns-then-at-eq-MOST_PARTS-clause-value c =
    let u : Units = record { lo = c.args.lo; hi = c.args.hi } in
    let count : c.self.inside.count ≡ 8 = sym c.from-at.ensures ∙ c.if-at-eq-MOST_PARTS.true in
    none_full c.args.self u (ap is_band (sym c.self.view_is) ∙ c.self.invariant.band)
    (ap length (sym c.self.view_is)
    ∙ length-take-le c.self.inside.count c.self.inside.parts (omega (arith, c.self.invariant.whole, c.self.invariant.within))
    ∙ count)

pub returns-then-not-leaves_room_for-clause-value : goal.returns-then-not-leaves_room_for-clause-value
returns-then-not-leaves_room_for-clause-value c =
    let u : Units = record { lo = c.args.lo; hi = c.args.hi } in
    let lo : to_z w16 (of_z w16 c.args.lo) ≡ c.args.lo = omega (arith, ints, c.ranges.lo.sfits) in
    let hi : to_z w16 (of_z w16 c.args.hi) ≡ c.args.hi = omega (arith, ints, c.ranges.hi.sfits) in
    let range = made u c.in-Some.part (c.in-Some.ensures.value ∙ (λ i. units_from (lo i) (hi i))) in
    none_near c.args.self u c.leaves_room_for.ensures.valid
    (ap (leaves_room_for c.args.self) (sym range.1) ∙ sym c.leaves_room_for.ensures.value ∙ c.if-not-leaves_room_for.true)

pub invariant_of-result : goal.invariant_of-result
invariant_of-result c =
    let u : Units = record { lo = c.args.lo; hi = c.args.hi } in
    let lo : to_z w16 (of_z w16 c.args.lo) ≡ c.args.lo = omega (arith, ints, c.ranges.lo.sfits) in
    let hi : to_z w16 (of_z w16 c.args.hi) ≡ c.args.hi = omega (arith, ints, c.ranges.hi.sfits) in
    let range = made u c.in-Some.part (c.in-Some.ensures.value ∙ (λ i. units_from (lo i) (hi i))) in
    let above = sym c.leaves_room_for.ensures.value ∙ c.if-not-leaves_room_for.false in
    (stands c.args.self c.self.inside.parts c.self.inside.count c.self.view_is c.self.invariant u c.in-Some.part range
    above c.from-at.result c.from-at.ensures c.if-at-eq-MOST_PARTS.false).padded

pub returns-clause-value : goal.returns-clause-value
returns-clause-value c =
    let u : Units = record { lo = c.args.lo; hi = c.args.hi } in
    let lo : to_z w16 (of_z w16 c.args.lo) ≡ c.args.lo = omega (arith, ints, c.ranges.lo.sfits) in
    let hi : to_z w16 (of_z w16 c.args.hi) ≡ c.args.hi = omega (arith, ints, c.ranges.hi.sfits) in
    let range = made u c.in-Some.part (c.in-Some.ensures.value ∙ (λ i. units_from (lo i) (hi i))) in
    let above = sym c.leaves_room_for.ensures.value ∙ c.if-not-leaves_room_for.false in
    (stands c.args.self c.self.inside.parts c.self.inside.count c.self.view_is c.self.invariant u c.in-Some.part range
    above c.from-at.result c.from-at.ensures c.if-at-eq-MOST_PARTS.false).made

pub returns-clause-valid : goal.returns-clause-valid
returns-clause-valid c = (invariant_of-result c).band
