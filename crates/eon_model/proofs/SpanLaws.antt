-- The span of a band in range: from its lowest to its highest unit.
use Rattle.std.proofs.Common.{◌≡◌, refl, sym, subst, ℤ, pos, negsuc, ◌+ℤ◌, ◌-ℤ◌, ◌≤ℤ◌, true, false, ◌&&◌, [], ◌∷◌, length, arith}
use Rattle.std.specs.Prelude.{int_le, nat_le}
use Rattle.std.specs.List.{list_all}
use Rattle.std.proofs.lemmas.Bool.{and_parts, both_ways}
use Rattle.std.proofs.lemmas.Int.{ints}
use Rattle.eon_model.specs.Grid.{Units, Band, span_of, span_from, is_units, parts_ascend, is_band}
use Rattle.eon_model.proofs.GridLaws.{int_le-le}
use Rattle.eon_model.proofs.BandLaws.{band-parts}

-- it begins where its first part does
pub span-lo : (part : Units) (parts : Band) → (span_from part parts).lo ≡ part.lo
span-lo part [] = refl
span-lo part (next ∷ parts) = refl

-- in the grid, one unit or more, and at most 1,024
pub record SpanFacts (span : Units) : Type 0 where
  pub low : negsuc 4095 ≤ℤ span.lo
  pub order : span.lo ≤ℤ span.hi
  pub high : span.hi ≤ℤ pos 4095
  pub wide : (span.hi -ℤ span.lo) ≤ℤ pos 1023

-- a part in range, and where the span ends that begins with it
record Ends (part : Units) (hi : ℤ) : Type 0 where
  low : negsuc 4095 ≤ℤ part.lo
  order : part.lo ≤ℤ part.hi
  above : part.hi ≤ℤ hi
  high : hi ≤ℤ pos 4095

one_part : (part : Units) → is_units part ≡ true → Ends part part.hi
one_part part h =
    let a = and_parts (int_le (negsuc 4095) part.lo && int_le part.lo part.hi) (int_le part.hi (pos 4095)) h in
    let b = and_parts (int_le (negsuc 4095) part.lo) (int_le part.lo part.hi) a.0 in
    record {
      low = int_le-le _ _ b.0;
      order = int_le-le _ _ b.1;
      above = omega (arith, ints);
      high = int_le-le _ _ a.1;
    }

ends-of : (part : Units) (parts : Band) → list_all is_units (part ∷ parts) ≡ true → parts_ascend (part ∷ parts) ≡ true →
    Ends part (span_from part parts).hi
ends-of part [] units ascend = one_part part (and_parts (is_units part) true units).0
ends-of part (next ∷ parts) units ascend =
    let u = and_parts (is_units part) (list_all is_units (next ∷ parts)) units in
    let a = and_parts (int_le (part.hi +ℤ pos 2) next.lo) (parts_ascend (next ∷ parts)) ascend in
    let here = one_part part u.0 in
    let more = ends-of next parts u.1 a.1 in
    let gap = int_le-le (part.hi +ℤ pos 2) next.lo a.0 in
    let some = more.order in
    let past = more.above in
    record { low = here.low; order = here.order; above = omega (arith, ints); high = more.high }

pub span-facts : (band : Band) → is_band band ≡ true → SpanFacts (span_of band)
span-facts [] h = absurd (both_ways false refl h)
span-facts (part ∷ parts) h =
    let b : Band = part ∷ parts in
    let facts = band-parts b h in
    let ends = ends-of part parts facts.units facts.ascend in
    let order = ends.order in
    let above = ends.above in
    let first = span-lo part parts in
    record {
      low = subst (λ (z : ℤ). negsuc 4095 ≤ℤ z) (sym first) ends.low;
      order = subst (λ (z : ℤ). z ≤ℤ (span_from part parts).hi) (sym first) (omega (arith, ints));
      high = ends.high;
      wide = int_le-le ((span_of b).hi -ℤ (span_of b).lo) (pos 1023)
          (and_parts (nat_le 1 (length b) && nat_le (length b) 8 && list_all is_units b && parts_ascend b)
          (int_le ((span_of b).hi -ℤ (span_of b).lo) (pos 1023)) h).1;
    }
