-- Places of a band's units in the row of a fibre.
use Rattle.std.proofs.Common.{◌≡◌, refl, sym, ◌∙◌, subst, ℕ, ◌+◌, ◌-◌, ◌*◌, ◌%◌, ◌≤◌, arith, ℤ, pos, negsuc, ◌+ℤ◌, ◌≤ℤ◌, Bool, true, false, ◌&&◌, ◌||◌, List, [], ◌∷◌, nat_eq}
use Rattle.std.specs.Prelude.{int_le}
use Rattle.std.proofs.lemmas.Int.{ints}
use Rattle.std.proofs.lemmas.Bool.{and_parts, and_from, false_from_ne_true, eqb-true, eq-eqb}
use Rattle.eon_model.specs.Grid.{Band, Units, has_unit, lies_in, span_of, unit_count, is_units}
use Rattle.eon_model.specs.Lists.{has_number}
use Rattle.eon_model.proofs.GridLaws.{le-int_le, int_le-le, lies_in-facts}
use Rattle.eon_model.proofs.Members.{any-member}
use Rattle.eon_model.proofs.SetLists.{same_test}
use Rattle.eon_model.proofs.SpanLaws.{SpanFacts}
use Rattle.spectrum_map.specs.Bits.{is_on_rows}
use Rattle.spectrum_map.specs.Kept.{place_of, index_of}
use Rattle.spectrum_map.proofs.BitLaws.{between-facts, facts-between}
use Rattle.spectrum_map.proofs.RangeLaws.{is_in_row}

pub unit-facts : (a : Units) (u : ℤ) → has_unit a u ≡ true → (a.lo ≤ℤ u) × (u ≤ℤ a.hi)
unit-facts a u h = let p = and_parts (int_le a.lo u) (int_le u a.hi) h in (int_le-le _ _ p.0, int_le-le _ _ p.1)

pub facts-unit : (a : Units) (u : ℤ) → a.lo ≤ℤ u → u ≤ℤ a.hi → has_unit a u ≡ true
facts-unit a u p q = and_from _ _ (le-int_le _ _ p) (le-int_le _ _ q)

-- units of the span, with the range of their places in each row
module _ (band : Band) (span : SpanFacts (span_of band)) (units : Units) (some : units.lo ≤ℤ units.hi)
    (inside : lies_in (span_of band) units ≡ true) (first end : ℕ) (first_is : first ≡ place_of band units.lo)
    (end_is : end ≡ place_of band units.lo + unit_count units) where
  abbrev low : ℤ
  low = (span_of band).lo

  abbrev high : ℤ
  high = (span_of band).hi

  within : (low ≤ℤ units.lo) × (units.hi ≤ℤ high)
  within = lies_in-facts (span_of band) units inside

  pub end_within : end ≤ unit_count (span_of band)
  end_within = let s = span.order in let w0 = within.0 in let w1 = within.1 in omega (arith, ints)

  pub few_units : unit_count (span_of band) ≤ 1024
  few_units = let s = span.order in let n = span.wide in omega (arith, ints)

  pub in_order : first ≤ end
  in_order = omega arith

  -- a place of the range is that of one of the units
  pub unit_at : (f i : ℕ) → is_in_row f first end i ≡ true →
      (u : ℤ) × ((has_unit units u ≡ true) × ((has_unit (span_of band) u ≡ true) × (i ≡ index_of band f u)))
  unit_at f i h =
      let p = between-facts (1024 * f + first) (1024 * f + end) i h in
      let p0 = p.0 in let p1 = p.1 in
      let w0 = within.0 in let w1 = within.1 in
      let u = low +ℤ pos (i - 1024 * f) in
      let a : units.lo ≤ℤ u = omega (arith, ints) in
      let b : u ≤ℤ units.hi = omega (arith, ints) in
      let c : low ≤ℤ u = omega (arith, ints) in
      let d : u ≤ℤ high = omega (arith, ints) in
      (u, (facts-unit units u a b, (facts-unit (span_of band) u c d, omega (arith, ints))))

  -- and the place of one of the units is one of the range
  pub place_in : (f : ℕ) (u : ℤ) → has_unit units u ≡ true → is_in_row f first end (index_of band f u) ≡ true
  place_in f u h =
      let p = unit-facts units u h in
      let p0 = p.0 in let p1 = p.1 in
      let w0 = within.0 in let w1 = within.1 in
      facts-between (1024 * f + first) (1024 * f + end) (index_of band f u) (omega (arith, ints)) (omega (arith, ints))

  in_row : (f g : ℕ) (u : ℤ) → has_unit (span_of band) u ≡ true →
      is_in_row f first end (index_of band g u) ≡ (nat_eq f g && has_unit units u)
  in_row f g u k = same_test _ _ to from
    where
      to : is_in_row f first end (index_of band g u) ≡ true → (nat_eq f g && has_unit units u) ≡ true
      to h =
          let p = between-facts (1024 * f + first) (1024 * f + end) (index_of band g u) h in
          let p0 = p.0 in let p1 = p.1 in
          let w0 = within.0 in let w1 = within.1 in
          let s = unit-facts (span_of band) u k in
          let s0 = s.0 in let s1 = s.1 in
          let n = span.wide in
          let same : f ≡ g = omega (arith, ints) in
          let a : units.lo ≤ℤ u = omega (arith, ints) in
          let b : u ≤ℤ units.hi = omega (arith, ints) in
          and_from _ _ (eq-eqb f g same) (facts-unit units u a b)

      from : (nat_eq f g && has_unit units u) ≡ true → is_in_row f first end (index_of band g u) ≡ true
      from h =
          let p = and_parts (nat_eq f g) (has_unit units u) h in
          subst (λ (n : ℕ). is_in_row n first end (index_of band g u) ≡ true) (sym (eqb-true f g p.0))
          (place_in g u p.1)

  -- whether one of the rows has the unit in its range
  pub on_rows : (fibres : List ℕ) (g : ℕ) (u : ℤ) → has_unit (span_of band) u ≡ true →
      is_on_rows fibres first end (index_of band g u) ≡ (has_number fibres g && has_unit units u)
  on_rows [] g u k = refl
  on_rows (f ∷ fibres) g u k =
      (λ i. in_row f g u k i || on_rows fibres g u k i)
      ∙ join (nat_eq f g) (has_number fibres g) (has_unit units u)
    where
      join : (a b c : Bool) → ((a && c) || (b && c)) ≡ ((a || b) && c)
      join true b true = refl
      join true true false = refl
      join true false false = refl
      join false b c = refl

  -- no place past the span is in a range
  pub rows_end : (fibres : List ℕ) (i : ℕ) → unit_count (span_of band) ≤ i % 1024 →
      is_on_rows fibres first end i ≡ false
  rows_end fibres i h = false_from_ne_true (is_on_rows fibres first end i) λ k.
      let found = any-member (λ f. is_in_row f first end i) fibres k in
      let p = between-facts (1024 * found.0 + first) (1024 * found.0 + end) i found.1.1 in
      let p0 = p.0 in let p1 = p.1 in
      let e = end_within in
      let n = few_units in
      absurd (omega (arith, h, p0, p1, e, n))

-- units in range are one or more
pub some_units : (u : Units) → is_units u ≡ true → u.lo ≤ℤ u.hi
some_units u h =
    let a = and_parts (int_le (negsuc 4095) u.lo && int_le u.lo u.hi) (int_le u.hi (pos 4095)) h in
    int_le-le _ _ (and_parts (int_le (negsuc 4095) u.lo) (int_le u.lo u.hi) a.0).1
