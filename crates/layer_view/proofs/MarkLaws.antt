-- What the marks of a row tell of units.
use Rattle.std.proofs.Common.{◌≡◌, refl, sym, ◌∙◌, ap, subst, ℕ, zero, suc, ◌+◌, ◌*◌, ◌<◌, ◌≤◌, arith, ℤ, pos, ◌+ℤ◌, ◌≤ℤ◌, ◌<ℤ◌, Bool, true, false, ◌&&◌, ◌||◌, not, List, Option}
use Rattle.std.specs.Prelude.{nat_lt, is_some}
use Rattle.std.specs.List.{list_any}
use Rattle.std.proofs.lemmas.Int.{ints}
use Rattle.std.proofs.lemmas.Bool.{both_ways, lt-ltb, ltb-true, le-ltb, false_from_ne_true}
use Rattle.eon_model.specs.Grid.{Band, Units, has_unit, lies_in, span_of, unit_count}
use Rattle.eon_model.specs.Lists.{integers_from}
use Rattle.eon_model.specs.Rows.{units_in}
use Rattle.eon_model.proofs.GridLaws.{lies_in-facts}
use Rattle.eon_model.proofs.UnitLaws.{begin_back, begin_in, itself, end_back, count_back}
use Rattle.eon_model.proofs.SetLists.{same_test}
use Rattle.eon_model.proofs.SpanLaws.{SpanFacts, span-facts}
use Rattle.spectrum_map.specs.Bits.{bit_of, is_between, IsHighestOf}
use Rattle.spectrum_map.specs.Kept.{place_of, is_unit_that, bit_at_unit, index_of, ArePlaces}
use Rattle.spectrum_map.proofs.BitLaws.{between-facts, facts-between}
use Rattle.spectrum_map.proofs.SpanLaws.{unit-facts, facts-unit}
use Rattle.spectrum_map.proofs.QueryLaws.{some_is}
use Rattle.layer_view.specs.Kept.{IsWithin}
use Rattle.layer_view.specs.Layers.{Marks}

-- a place is that of a unit of the span, or none
pub place_cases : (band : Band) (test : ℤ → Bool) (i : ℕ) (b : Bool) → nat_lt i (unit_count (span_of band)) ≡ b →
    is_unit_that band test i ≡ (b && test ((span_of band).lo +ℤ pos i))
place_cases band test i b e = λ k. e k && test ((span_of band).lo +ℤ pos i)

module _ (band : Band) (span : SpanFacts (span_of band)) where
  -- the place of a unit of the span is that of no other
  pub place_is : (u : ℤ) → has_unit (span_of band) u ≡ true →
      (nat_lt (place_of band u) (unit_count (span_of band)) ≡ true) × (((span_of band).lo +ℤ pos (place_of band u)) ≡ u)
  place_is u k =
      let p = unit-facts (span_of band) u k in
      let p0 = p.0 in let p1 = p.1 in
      let s = span.order in
      let l : place_of band u < unit_count (span_of band) = omega (arith, ints) in
      (lt-ltb (place_of band u) (unit_count (span_of band)) l, omega (arith, ints))

  pub unit_is : (i : ℕ) → nat_lt i (unit_count (span_of band)) ≡ true →
      (has_unit (span_of band) ((span_of band).lo +ℤ pos i) ≡ true) × (place_of band ((span_of band).lo +ℤ pos i) ≡ i)
  unit_is i h =
      let l = ltb-true i (unit_count (span_of band)) h in
      let s = span.order in
      let u = (span_of band).lo +ℤ pos i in
      let a : (span_of band).lo ≤ℤ u = omega (arith, ints) in
      let b : u ≤ℤ (span_of band).hi = omega (arith, ints) in
      (facts-unit (span_of band) u a b, omega (arith, ints))

  module _ (words : List ℕ) (test : ℤ → Bool) (marks : Marks band words test) where
    pub mark_at : (u : ℤ) → has_unit (span_of band) u ≡ true → bit_of words (place_of band u) ≡ test u
    mark_at u k =
        let at = place_is u k in
        marks (place_of band u) ∙ (λ j. at.0 j && test (at.1 j))

    pub marks_within : IsWithin band words
    marks_within = record {
      past = λ i h. marks i ∙ ap (λ b. b && test ((span_of band).lo +ℤ pos i)) (le-ltb i (unit_count (span_of band)) h);
    }

    -- ---- units that are marked besides, or no more

    module _ (units : Units) (inside : lies_in (span_of band) units ≡ true) (first end : ℕ)
        (at : ArePlaces band units first end) where
      end_in : end ≤ unit_count (span_of band)
      end_in =
          let w = lies_in-facts (span_of band) units inside in
          let w0 = w.0 in let w1 = w.1 in
          let s = at.some in let e = at.end_is in
          omega (arith, ints)

      range_at : (i : ℕ) → nat_lt i (unit_count (span_of band)) ≡ true →
          is_between first end i ≡ has_unit units ((span_of band).lo +ℤ pos i)
      range_at i h =
          let l = ltb-true i (unit_count (span_of band)) h in
          let w = lies_in-facts (span_of band) units inside in
          let w0 = w.0 in let w1 = w.1 in
          let s = at.some in let f = at.first_is in let e = at.end_is in
          same_test _ _
          (λ k. let p = between-facts first end i k in
          let p0 = p.0 in let p1 = p.1 in
          facts-unit units ((span_of band).lo +ℤ pos i) (omega (arith, ints)) (omega (arith, ints)))
          (λ k. let p = unit-facts units ((span_of band).lo +ℤ pos i) k in
          let p0 = p.0 in let p1 = p.1 in
          facts-between first end i (omega (arith, ints)) (omega (arith, ints)))

      no_range : (i : ℕ) → nat_lt i (unit_count (span_of band)) ≡ false → is_between first end i ≡ false
      no_range i h = false_from_ne_true (is_between first end i) λ k.
          let p = between-facts first end i k in
          let p1 = p.1 in
          let e = end_in in
          both_ways (nat_lt i (unit_count (span_of band))) h (lt-ltb i (unit_count (span_of band)) (omega (arith, p1, e)))

      pub marked_more : (new : List ℕ) → ((i : ℕ) → bit_of new i ≡ (bit_of words i || is_between first end i)) →
          Marks band new (λ u. test u || has_unit units u)
      marked_more new e i = e i ∙ ap (λ b. b || is_between first end i) (marks i)
          ∙ by (nat_lt i (unit_count (span_of band))) refl
        where
          by : (b : Bool) → nat_lt i (unit_count (span_of band)) ≡ b →
              (is_unit_that band test i || is_between first end i)
              ≡ is_unit_that band (λ u. test u || has_unit units u) i
          by true h =
              let u = (span_of band).lo +ℤ pos i in
              (λ j. (h j && test u) || range_at i h j) ∙ (λ j. sym h j && (test u || has_unit units u))
          by false h =
              let u = (span_of band).lo +ℤ pos i in
              (λ j. (h j && test u) || no_range i h j) ∙ (λ j. sym h j && (test u || has_unit units u))

      pub marked_less : (new : List ℕ) → ((i : ℕ) → bit_of new i ≡ (bit_of words i && not (is_between first end i))) →
          Marks band new (λ u. test u && not (has_unit units u))
      marked_less new e i = e i ∙ ap (λ b. b && not (is_between first end i)) (marks i)
          ∙ by (nat_lt i (unit_count (span_of band))) refl
        where
          by : (b : Bool) → nat_lt i (unit_count (span_of band)) ≡ b →
              (is_unit_that band test i && not (is_between first end i))
              ≡ is_unit_that band (λ u. test u && not (has_unit units u)) i
          by true h =
              let u = (span_of band).lo +ℤ pos i in
              (λ j. (h j && test u) && not (range_at i h j)) ∙ (λ j. sym h j && (test u && not (has_unit units u)))
          by false h =
              let u = (span_of band).lo +ℤ pos i in
              (λ j. (h j && test u) && not (is_between first end i)) ∙ (λ j. sym h j && (test u && not (has_unit units u)))

-- ---- whether some unit is marked

any_units : (f g : ℤ → Bool) (a : ℤ) (n : ℕ) → ((u : ℤ) → a ≤ℤ u → u <ℤ (a +ℤ pos n) → f u ≡ g u) →
    list_any f (integers_from a n) ≡ list_any g (integers_from a n)
any_units f g a zero same = refl
any_units f g a (suc n) same = λ i.
    same a (itself a) (begin_in a n) i
    || any_units f g (a +ℤ pos 1) n (λ u p q. same u (begin_back a u p) (end_back a u n q)) i

-- at the units of the span both tests tell the same
pub any_in_span : (band : Band) (f g : ℤ → Bool) (units : Units) → lies_in (span_of band) units ≡ true →
    units.lo ≤ℤ units.hi → ((u : ℤ) → has_unit (span_of band) u ≡ true → f u ≡ g u) →
    list_any f (units_in units) ≡ list_any g (units_in units)
any_in_span band f g units inside some same = any_units f g units.lo (unit_count units) λ u p q.
    let w = lies_in-facts (span_of band) units inside in
    let w0 = w.0 in let w1 = w.1 in
    let high = count_back units.lo units.hi u some q in
    same u (facts-unit (span_of band) u (omega (arith, ints)) (omega (arith, ints)))

-- the first row of 1,024 places
first_row : (n : ℕ) → n ≡ 1024 * 0 + n
first_row n = omega arith

pub some_marked : (band : Band) (words : List ℕ) (test : ℤ → Bool) → Marks band words test → (units : Units) →
    lies_in (span_of band) units ≡ true → (first end : ℕ) → ArePlaces band units first end → (o : Option ℕ) →
    IsHighestOf (bit_of words) first end o → is_some o ≡ list_any test (units_in units)
some_marked band words test marks units inside first end at o h =
    let span = span-facts band at.band_is in
    some_is band 1 words 0 (omega arith) span units at.some inside first end at.first_is at.end_is o
    (subst (λ (n : ℕ). IsHighestOf (bit_of words) n (1024 * 0 + end) o) (first_row first)
    (subst (λ (n : ℕ). IsHighestOf (bit_of words) first n o) (first_row end) h))
    ∙ any_in_span band (bit_at_unit band 1 words 0) test units inside at.some
    (λ u k. (λ j. k j && bit_of words (index_of band 0 u))
    ∙ ap (bit_of words) (sym (first_row (place_of band u))) ∙ mark_at band span words test marks u k)

-- marked by one test or by the other
pub joined_marks : (band : Band) (f g : ℤ → Bool) (i : ℕ) →
    (is_unit_that band f i || is_unit_that band g i) ≡ is_unit_that band (λ u. f u || g u) i
joined_marks band f g i =
    by (nat_lt i (unit_count (span_of band))) (f ((span_of band).lo +ℤ pos i)) (g ((span_of band).lo +ℤ pos i))
  where
    by : (n x y : Bool) → ((n && x) || (n && y)) ≡ (n && (x || y))
    by true x y = refl
    by false x y = refl
