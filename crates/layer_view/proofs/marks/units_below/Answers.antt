use Rattle.std.proofs.Common.{◌≡◌, arith, ◌+ℤ◌, pos, to_z, of_z, w32}
use Rattle.std.proofs.lemmas.Int.{ints, clamps}
use Rattle.eon_model.specs.Grid.{span_of}
use Rattle.eon_model.proofs.SpanLaws.{span-facts}
use Rattle.spectrum_map.proofs.SpanLaws.{unit-facts}
use Rattle.layer_view.proofs.marks.units_below.Goals as goal

pub returns-then-above-lo : goal.returns-then-above-lo
returns-then-above-lo c =
    let band = c.args.band.now in
    let span = span-facts band c.lo.ensures.valid in
    let s0 = span.low in let s1 = span.order in let s2 = span.high in
    let lo : to_z w32 (of_z w32 c.from-lo.result) ≡ (span_of band).lo = omega (arith, ints) in
    let hi : to_z w32 (of_z w32 (to_z w32 (of_z w32 c.from-2.result) +ℤ pos 1)) ≡ ((span_of band).hi +ℤ pos 1) =
    omega (arith, ints) in
    let least = c.min-above.ensures.value in
    let under = c.if-above-lo.true in
    record {
      band_is = c.lo.ensures.valid;
      few = omega arith;
      within = omega arith;
      below = λ v k b. let p = unit-facts (span_of band) v k in let p0 = p.0 in let p1 = p.1 in
          absurd (omega (arith, ints, clamps));
      above = λ v k l. absurd (omega (arith, l));
    }

pub returns : goal.returns
returns c =
    let band = c.args.band.now in
    let span = span-facts band c.lo.ensures.valid in
    let s0 = span.low in let s1 = span.order in let s2 = span.high in let s3 = span.wide in
    let lo : to_z w32 (of_z w32 c.from-lo.result) ≡ (span_of band).lo = omega (arith, ints) in
    let hi : to_z w32 (of_z w32 (to_z w32 (of_z w32 c.from-2.result) +ℤ pos 1)) ≡ ((span_of band).hi +ℤ pos 1) =
    omega (arith, ints) in
    let least = c.min-above.ensures.value in
    let over = c.if-above-lo.false in
    record {
      band_is = c.lo.ensures.valid;
      few = omega (arith, ints, clamps);
      within = omega (arith, ints, clamps);
      below = λ v k b. let p = unit-facts (span_of band) v k in let p0 = p.0 in let p1 = p.1 in omega (arith, ints, clamps);
      above = λ v k l. let p = unit-facts (span_of band) v k in let p0 = p.0 in let p1 = p.1 in omega (arith, ints, clamps);
    }
