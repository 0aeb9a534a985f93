use Rattle.std.proofs.Common.{◌≡◌, ◌∙◌, ap, ◌+◌, arith, pos, ◌+ℤ◌, to_z, of_z, w32}
use Rattle.std.proofs.lemmas.Int.{ints}
use Rattle.eon_model.specs.Grid.{span_of, unit_count}
use Rattle.eon_model.proofs.GridLaws.{lies_in-facts}
use Rattle.spectrum_map.specs.Kept.{place_of}
use Rattle.spectrum_map.proofs.SpanLaws.{some_units}
use Rattle.spectrum_map.proofs.row.places_of.Goals as goal

pub place-requires-2-clause-low : goal.place-requires-2-clause-low
place-requires-2-clause-low c =
    let inside = lies_in-facts (span_of c.args.band.now) c.args.units.now c.requires in
    let low = inside.0 in
    let some = some_units c.args.units.now c.lo.ensures.valid in
    let at = c.hi.ensures.value in
    omega (arith, ints)

pub place-requires-2-clause-high : goal.place-requires-2-clause-high
place-requires-2-clause-high c =
    let inside = lies_in-facts (span_of c.args.band.now) c.args.units.now c.requires in
    let high = inside.1 in
    let at = c.hi.ensures.value in
    omega (arith, ints)

pub returns : goal.returns
returns c =
    let band = c.args.band.now in
    let units = c.args.units.now in
    let inside = lies_in-facts (span_of band) units c.requires in
    let lowest = inside.0 in
    let some = some_units units c.lo.ensures.valid in
    let lo_is = c.lo.ensures.value in
    let hi_is = c.hi.ensures.value in
    let low : to_z w32 (of_z w32 c.from.result) ≡ c.args.units.now.lo = omega (arith, ints) in
    let above : to_z w32 (of_z w32 (to_z w32 (of_z w32 c.from-2.result) +ℤ pos 1)) ≡ (c.args.units.now.hi +ℤ pos 1) =
    omega (arith, ints) in
    let first = c.place.ensures.place ∙ ap (place_of band) low in
    let end = c.place-2.ensures.place ∙ ap (place_of band) above in
    let count : place_of c.args.band.now (c.args.units.now.hi +ℤ pos 1)
    ≡ place_of c.args.band.now c.args.units.now.lo + unit_count c.args.units.now = omega (arith, ints) in
    record {
      band_is = c.place.ensures.valid;
      some = some;
      first_is = first;
      end_is = end ∙ count;
      order = omega (arith, first, end, count);
      few = c.place-2.ensures.few;
    }
