use Rattle.std.proofs.Common.{◌≡◌, ◌+◌, ℤ, pos, ◌+ℤ◌, ◌-ℤ◌, ◌∙◌, sym, ap, Bool, length, slice_index, arith}
use Rattle.std.specs.Int.{int_min, int_max}
use Rattle.std.proofs.lemmas.Int.{ints, clamps}
use Rattle.eon_model.specs.Grid.{Units}
use Rattle.plan_report.specs.Counted.{one_if}
use Rattle.plan_report.proofs.CountLemmas.{span_test}
use Rattle.plan_report.proofs.rows.count_span.Goals as goal

pub count_places-requires-clause-within : goal.count_places-requires-clause-within
count_places-requires-clause-within c = omega (arith, ints, clamps)

pub returns : goal.returns
returns c =
    let u : Units = c.args.units.now in
    let lowest_unit = c.lo.ensures in
    let highest_unit = c.hi.ensures in
    let low : ℤ = c.args.lowest in
    let len = length c.args.counts.now in
    let from = c.place_of-from.result in
    let to = c.place_of-to.result in
    let first : pos from ≡ int_min (int_max (u.lo -ℤ low) (pos 0)) (pos len) = omega (arith, ints, clamps) in
    let last : pos to ≡ int_min (int_max ((u.hi +ℤ pos 1) -ℤ low) (pos 0)) (pos len) =
    omega (arith, ints, clamps) in
    record {
      same_length = c.count_places.ensures.length;
      each = λ k h. c.count_places.ensures.each k h
          ∙ ap (λ (b : Bool). slice_index c.args.counts.now k + one_if b)
          (sym (span_test u low len k from to h first last));
    }
