-- What a change of words or of counts makes of the rows that they stand for.
use Rattle.std.proofs.Common.{◌≡◌, refl, sym, ◌∙◌, ap, subst, ℕ, ◌+◌, ◌-◌, ◌*◌, ◌%◌, ◌<◌, ◌≤◌, arith, inl, inr, ℤ, ◌≤ℤ◌, Bool, true, false, cond, ◌&&◌, ◌||◌, not, List, [], ◌∷◌, length, get_or, nat_eq}
use Rattle.std.specs.Prelude.{nat_lt}
use Rattle.std.specs.List.{AllByRecursion}
use Rattle.std.proofs.lemmas.Int.{ints}
use Rattle.std.proofs.lemmas.Bool.{and_parts, and_from, both_ways, false_from_ne_true, eqb-true, lt-ltb}
use Rattle.eon_model.specs.Grid.{Band, Units, has_unit, lies_in, span_of, unit_count}
use Rattle.eon_model.specs.Lists.{has_number}
use Rattle.eon_model.specs.Rows.{takes, at_each, with_lit, without_lit, with_held, without_held}
use Rattle.eon_model.proofs.GridLaws.{lies_in-facts}
use Rattle.eon_model.proofs.OrderLaws.{IsIn}
use Rattle.eon_model.proofs.Members.{list_all-at, any-member}
use Rattle.eon_model.proofs.UnitLaws.{all-at, count_end}
use Rattle.spectrum_map.specs.Bits.{bit_of, is_on_rows, AreHeld}
use Rattle.spectrum_map.specs.Kept.{Kept, AreRows, Becomes, lit_in, holders_in, rows_in, taken, place_of, index_of, is_kept}
use Rattle.spectrum_map.proofs.RangeLaws.{is_in_row}
use Rattle.eon_model.proofs.SpanLaws.{SpanFacts, span-facts}
use Rattle.spectrum_map.proofs.SpanLaws.{unit-facts, facts-unit, on_rows, rows_end, unit_at}

-- each row of these fibres is there
pub rows_there : (fibres count : ℕ) (fs : List ℕ) → count ≡ 16 * fibres → AllByRecursion (λ f. f < fibres) fs →
    AllByRecursion (λ row. 16 * row + 16 ≤ count) fs
rows_there fibres count [] e a = tt
rows_there fibres count (f ∷ fs) e a =
    let l = a.0 in (omega (arith, e, l), rows_there fibres count fs e a.1)

in_all : (n g : ℕ) (fs : List ℕ) → AllByRecursion (λ f. f < n) fs → has_number fs g ≡ true → g < n
in_all n g fs a h = let found = any-member (λ k. nat_eq k g) fs h in
    let l = at_member fs a found.0 found.1.0 in
    let same = eqb-true found.0 g found.1.1 in
    omega (arith, l, same)
  where
    at_member : (xs : List ℕ) → AllByRecursion (λ f. f < n) xs → (x : ℕ) → IsIn x xs → x < n
    at_member [] a x i = absurd i
    at_member (y ∷ ys) a x i = elim i [
      | inl e ↦ subst (λ (k : ℕ). k < n) (sym e) a.0
      | inr more ↦ at_member ys a.1 x more
    ]

module _ (band : Band) (fibres : ℕ) (lit held counts : List ℕ) (rows : AreRows band fibres lit held counts)
    (fs : List ℕ) (units : Units) (some : units.lo ≤ℤ units.hi)
    (on : AllByRecursion (λ f. f < fibres) fs) (inside : lies_in (span_of band) units ≡ true)
    (first end : ℕ) (first_is : first ≡ place_of band units.lo)
    (end_is : end ≡ place_of band units.lo + unit_count units) where
  abbrev before : Kept
  before = record { band = band; fibres = fibres; words = lit; counts = counts }

  span : SpanFacts (span_of band)
  span = span-facts band rows.band_is

  -- what is taken is kept
  not_taken : (g : ℕ) (u : ℤ) → is_kept band fibres g u ≡ false → takes g u (taken fs units) ≡ false
  not_taken g u k = false_from_ne_true (takes g u (taken fs units)) λ h.
      let p = and_parts (has_number fs g) (has_unit units u) h in
      let w = lies_in-facts (span_of band) units inside in
      let w0 = w.0 in let w1 = w.1 in
      let f = unit-facts units u p.1 in
      let f0 = f.0 in let f1 = f.1 in
      both_ways (is_kept band fibres g u) k
      (and_from _ _ (lt-ltb g fibres (in_all fibres g fs on p.0))
      (facts-unit (span_of band) u (omega (arith, ints)) (omega (arith, ints))))

  taken_at : (g : ℕ) (u : ℤ) → is_kept band fibres g u ≡ true →
      is_on_rows fs first end (index_of band g u) ≡ takes g u (taken fs units)
  taken_at g u k = on_rows band span units some inside first end first_is end_is fs g u
      (and_parts (nat_lt g fibres) (has_unit (span_of band) u) k).1

  past : (i : ℕ) → unit_count (span_of band) ≤ i % 1024 → is_on_rows fs first end i ≡ false
  past = rows_end band span units some inside first end first_is end_is fs

  -- ---- lit

  module _ (new : List ℕ) (len : length new ≡ length lit) where
    pub lighted-is : ((i : ℕ) → bit_of new i ≡ (bit_of lit i || is_on_rows fs first end i)) →
        Becomes before (record { band = band; fibres = fibres; words = new; counts = counts })
        (with_lit (taken fs units) (rows_in before)).lit (holders_in before)
    lighted-is e = record {
      band = refl;
      fibres = refl;
      lit_is = λ i g u. by g u (is_kept band fibres g u) refl i;
      holders_are = refl;
    }
      where
        by : (g : ℕ) (u : ℤ) (b : Bool) → is_kept band fibres g u ≡ b →
            (is_kept band fibres g u && bit_of new (index_of band g u))
            ≡ ((is_kept band fibres g u && bit_of lit (index_of band g u)) || takes g u (taken fs units))
        by g u true k =
            (λ i. k i && bit_of new (index_of band g u)) ∙ e (index_of band g u)
            ∙ ap (λ b. bit_of lit (index_of band g u) || b) (taken_at g u k)
            ∙ (λ i. (sym k i && bit_of lit (index_of band g u)) || takes g u (taken fs units))
        by g u false k =
            (λ i. k i && bit_of new (index_of band g u)) ∙ sym (not_taken g u k)
            ∙ (λ i. (sym k i && bit_of lit (index_of band g u)) || takes g u (taken fs units))

    pub lighted-rows : ((i : ℕ) → bit_of new i ≡ (bit_of lit i || is_on_rows fs first end i)) →
        AreRows band fibres new held counts
    lighted-rows e = record {
      few = rows.few;
      band_is = rows.band_is;
      lit_count = len ∙ rows.lit_count;
      held_count = rows.held_count;
      counts_count = rows.counts_count;
      held_is = rows.held_is;
      dark_past = λ i h. e i ∙ (λ j. rows.dark_past i h j || past i h j);
      free_past = rows.free_past;
      few_held = rows.few_held;
    }

    pub darkened-is : ((i : ℕ) → bit_of new i ≡ (bit_of lit i && not (is_on_rows fs first end i))) →
        Becomes before (record { band = band; fibres = fibres; words = new; counts = counts })
        (without_lit (taken fs units) (rows_in before)).lit (holders_in before)
    darkened-is e = record {
      band = refl;
      fibres = refl;
      lit_is = λ i g u. by g u (is_kept band fibres g u) refl i;
      holders_are = refl;
    }
      where
        by : (g : ℕ) (u : ℤ) (b : Bool) → is_kept band fibres g u ≡ b →
            (is_kept band fibres g u && bit_of new (index_of band g u))
            ≡ ((is_kept band fibres g u && bit_of lit (index_of band g u)) && not (takes g u (taken fs units)))
        by g u true k =
            (λ i. k i && bit_of new (index_of band g u)) ∙ e (index_of band g u)
            ∙ ap (λ b. bit_of lit (index_of band g u) && not b) (taken_at g u k)
            ∙ (λ i. (sym k i && bit_of lit (index_of band g u)) && not (takes g u (taken fs units)))
        by g u false k =
            (λ i. k i && bit_of new (index_of band g u))
            ∙ (λ i. (sym k i && bit_of lit (index_of band g u)) && not (takes g u (taken fs units)))

    pub darkened-rows : ((i : ℕ) → bit_of new i ≡ (bit_of lit i && not (is_on_rows fs first end i))) →
        AreRows band fibres new held counts
    darkened-rows e = record {
      few = rows.few;
      band_is = rows.band_is;
      lit_count = len ∙ rows.lit_count;
      held_count = rows.held_count;
      counts_count = rows.counts_count;
      held_is = rows.held_is;
      dark_past = λ i h. e i ∙ (λ j. rows.dark_past i h j && not (is_on_rows fs first end i));
      free_past = rows.free_past;
      few_held = rows.few_held;
    }

  -- ---- held

  -- what a test tells at each of the units, it tells at each place of the ranges
  pub at_places : (test : ℕ → Bool) → at_each (λ g u. test (holders_in before g u)) (taken fs units) ≡ true →
      (i : ℕ) → is_on_rows fs first end i ≡ true → test (get_or counts i 0) ≡ true
  at_places test all i h =
      let found = any-member (λ f. is_in_row f first end i) fs h in
      let f = found.0 in
      let at = unit_at band span units some inside first end first_is end_is f i found.1.1 in
      let u = at.0 in
      let w = unit-facts units u at.1.0 in
      let row = list_all-at _ fs f all found.1.0 in
      let here = all-at (λ v. test (holders_in before f v)) units.lo (unit_count units) row u w.0
      (count_end units.lo units.hi u some w.1) in
      let kept : is_kept band fibres f u ≡ true =
      and_from _ _ (lt-ltb f fibres (below f found.1.0)) at.1.1.0 in
      (λ j. test (get_or counts (at.1.1.1 j) 0))
      ∙ (λ j. test (cond (sym kept j) (get_or counts (index_of band f u) 0) 0)) ∙ here
    where
      below : (f : ℕ) → IsIn f fs → f < fibres
      below f i = by fs on i
        where
          by : (xs : List ℕ) → AllByRecursion (λ k. k < fibres) xs → IsIn f xs → f < fibres
          by [] a i = absurd i
          by (y ∷ ys) a i = elim i [
            | inl e ↦ subst (λ (k : ℕ). k < fibres) (sym e) a.0
            | inr more ↦ by ys a.1 more
          ]

  module _ (change : ℕ → ℕ) (new : List ℕ)
      (e : (i : ℕ) → get_or new i 0 ≡ cond (is_on_rows fs first end i) (change (get_or counts i 0)) (get_or counts i 0))
    where
      pub changed_at : (g : ℕ) (u : ℤ) → holders_in (record { band = band; fibres = fibres; words = lit; counts = new }) g u
          ≡ cond (takes g u (taken fs units)) (change (holders_in before g u)) (holders_in before g u)
      changed_at g u = by (is_kept band fibres g u) refl
        where
          by : (b : Bool) → is_kept band fibres g u ≡ b →
              cond (is_kept band fibres g u) (get_or new (index_of band g u) 0) 0
              ≡ cond (takes g u (taken fs units)) (change (cond (is_kept band fibres g u) (get_or counts (index_of band g u) 0) 0))
              (cond (is_kept band fibres g u) (get_or counts (index_of band g u) 0) 0)
          by true k =
              (λ i. cond (k i) (get_or new (index_of band g u) 0) 0) ∙ e (index_of band g u)
              ∙ ap (λ b. cond b (change (get_or counts (index_of band g u) 0)) (get_or counts (index_of band g u) 0))
              (taken_at g u k)
              ∙ (λ i. cond (takes g u (taken fs units)) (change (cond (sym k i) (get_or counts (index_of band g u) 0) 0))
              (cond (sym k i) (get_or counts (index_of band g u) 0) 0))
          by false k =
              (λ i. cond (k i) (get_or new (index_of band g u) 0) 0)
              ∙ ap (λ b. cond b (change 0) 0) (sym (not_taken g u k))
              ∙ (λ i. cond (takes g u (taken fs units)) (change (cond (sym k i) (get_or counts (index_of band g u) 0) 0))
              (cond (sym k i) (get_or counts (index_of band g u) 0) 0))

      pub changed-rows : (new_held : List ℕ) → length new_held ≡ length held → length new ≡ length counts →
          AreHeld new_held new → ((i : ℕ) → is_on_rows fs first end i ≡ true → change (get_or counts i 0) ≤ 8192) →
          AreRows band fibres lit new_held new
      changed-rows new_held words len are few = record {
        few = rows.few;
        band_is = rows.band_is;
        lit_count = rows.lit_count;
        held_count = words ∙ rows.held_count;
        counts_count = len ∙ rows.counts_count;
        held_is = are;
        dark_past = rows.dark_past;
        free_past = λ i h. e i
            ∙ ap (λ b. cond b (change (get_or counts i 0)) (get_or counts i 0)) (past i h) ∙ rows.free_past i h;
        few_held = λ i. subst (λ (n : ℕ). n ≤ 8192) (sym (e i)) (by i (is_on_rows fs first end i) refl);
      }
        where
          by : (i : ℕ) (b : Bool) → is_on_rows fs first end i ≡ b →
              cond b (change (get_or counts i 0)) (get_or counts i 0) ≤ 8192
          by i true h = few i h
          by i false h = rows.few_held i

  pub held-is : (new : List ℕ) →
      ((i : ℕ) → get_or new i 0 ≡ cond (is_on_rows fs first end i) (get_or counts i 0 + 1) (get_or counts i 0)) →
      Becomes before (record { band = band; fibres = fibres; words = lit; counts = new }) (lit_in before)
      (with_held (taken fs units) (holders_in before))
  held-is new e = record {
    band = refl;
    fibres = refl;
    lit_is = refl;
    holders_are = λ i g u. changed_at (λ n. n + 1) new e g u i;
  }

  pub let_go-is : (new : List ℕ) →
      ((i : ℕ) → get_or new i 0 ≡ cond (is_on_rows fs first end i) (get_or counts i 0 - 1) (get_or counts i 0)) →
      Becomes before (record { band = band; fibres = fibres; words = lit; counts = new }) (lit_in before)
      (without_held (taken fs units) (holders_in before))
  let_go-is new e = record {
    band = refl;
    fibres = refl;
    lit_is = refl;
    holders_are = λ i g u. changed_at (λ n. n - 1) new e g u i;
  }
