-- What the words of a map tell of units, and of rows.
use Rattle.std.proofs.Common.{◌≡◌, refl, sym, ◌∙◌, ap, ℕ, ◌+◌, ◌-◌, ◌*◌, ◌/◌, ◌%◌, ◌<◌, ◌≤◌, arith, inl, inr, ℤ, pos, negsuc, ◌+ℤ◌, ◌-ℤ◌, ◌≤ℤ◌, ◌<ℤ◌, to_z, of_z, w16, w32, Bool, true, false, cond, ◌&&◌, ◌||◌, not, List, length, get_or, take, drop, nat_eq, Option, Some, None}
use Rattle.std.specs.Prelude.{nat_lt, is_some, nat_abs}
use Rattle.std.specs.Option.{option_map}
use Rattle.std.specs.List.{list_any}
use Rattle.std.proofs.lemmas.Int.{ints}
use Rattle.std.proofs.lemmas.Bool.{cases_lt, and_from, both_ways, not-true, lt-ltb, ltb-true, le-ltb}
use Rattle.std.proofs.lemmas.List.{get_or-take, get_or-drop, get_or_past, length-take}
use Rattle.eon_model.specs.Grid.{Band, Units, has_unit, lies_in, span_of, unit_count, is_band}
use Rattle.eon_model.specs.Rows.{units_in, greatest_below, IsGreatest}
use Rattle.eon_model.proofs.GridLaws.{lies_in-facts}
use Rattle.eon_model.proofs.UnitLaws.{all-at, all-from, not_any, count_end, count_back}
use Rattle.eon_model.proofs.TopTaken.{top_is, top_unique}
use Rattle.spectrum_map.specs.Bits.{is_one, word_bit, bit_of, bit_of_either, AreHeld, IsHighestOf}
use Rattle.spectrum_map.specs.Kept.{place_of, index_of, is_unit_that, is_kept, bit_at_unit, count_at_unit, words_for}
use Rattle.spectrum_map.proofs.BitLaws.{between-facts, facts-between, none_of_zero}
use Rattle.spectrum_map.proofs.WordLaws.{whole_place}
use Rattle.eon_model.proofs.SpanLaws.{SpanFacts}
use Rattle.spectrum_map.proofs.SpanLaws.{unit-facts, facts-unit, unit_at, place_in}

true_from : (b : Bool) → (b ≡ false → ⊥) → b ≡ true
true_from true h = refl
true_from false h = absurd (h refl)

not_false : (b : Bool) → b ≡ false → not b ≡ true
not_false b e = ap not e

-- a unit is held where its bit is 1
pub held_at : (band : Band) (fibres : ℕ) (held counts : List ℕ) → AreHeld held counts → (g : ℕ) (u : ℤ) →
    not (nat_eq (count_at_unit band fibres counts g u) 0) ≡ bit_at_unit band fibres held g u
held_at band fibres held counts are g u = by (is_kept band fibres g u)
  where
    by : (b : Bool) → not (nat_eq (cond b (get_or counts (index_of band g u) 0) 0) 0)
        ≡ (b && bit_of held (index_of band g u))
    by true = sym (are.where_counted (index_of band g u))
    by false = refl

module _ (band : Band) (fibres : ℕ) (words : List ℕ) (g : ℕ) (on : g < fibres) (span : SpanFacts (span_of band))
    (units : Units) (some : units.lo ≤ℤ units.hi) (inside : lies_in (span_of band) units ≡ true)
    (first end : ℕ) (first_is : first ≡ place_of band units.lo)
    (end_is : end ≡ place_of band units.lo + unit_count units) where
  abbrev lit : ℤ → Bool
  lit = bit_at_unit band fibres words g

  kept : (u : ℤ) → has_unit (span_of band) u ≡ true → is_kept band fibres g u ≡ true
  kept u k = and_from _ _ (lt-ltb g fibres on) k

  in_span : (u : ℤ) → units.lo ≤ℤ u → u ≤ℤ units.hi → has_unit (span_of band) u ≡ true
  in_span u p q =
      let w = lies_in-facts (span_of band) units inside in
      let w0 = w.0 in let w1 = w.1 in
      facts-unit (span_of band) u (omega (arith, ints)) (omega (arith, ints))

  pub some_is : (o : Option ℕ) → IsHighestOf (bit_of words) (1024 * g + first) (1024 * g + end) o →
      is_some o ≡ list_any lit (units_in units)
  some_is None none =
      sym (not-true _ (not_any lit (units_in units)
      ∙ all-from (λ u. not (lit u)) units.lo (unit_count units) (λ u p q. dark u p (count_back units.lo units.hi u some q))))
    where
      dark : (u : ℤ) → units.lo ≤ℤ u → u ≤ℤ units.hi → not (lit u) ≡ true
      dark u p q =
          let at = between-facts (1024 * g + first) (1024 * g + end) (index_of band g u)
          (place_in band span units some inside first end first_is end_is g u (facts-unit units u p q)) in
          not_false (lit u) ((λ i. kept u (in_span u p q) i && bit_of words (index_of band g u))
          ∙ none (index_of band g u) at.0 at.1)
  some_is (Some t) h = sym (true_from _ λ e.
      let at = unit_at band span units some inside first end first_is end_is g t
      (facts-between (1024 * g + first) (1024 * g + end) t h.low h.high) in
      let u = at.0 in
      let w = unit-facts units u at.1.0 in
      let one : lit u ≡ true =
      (λ i. kept u at.1.1.0 i && bit_of words (index_of band g u)) ∙ ap (bit_of words) (sym at.1.1.1) ∙ h.passes in
      both_ways (lit u) (not-true _ (all-at (λ v. not (lit v)) units.lo (unit_count units)
      (sym (not_any lit (units_in units)) ∙ not_false _ e) u w.0 (count_end units.lo units.hi u some w.1))) one)

-- ---- the words of a row

past_words : (count n j i : ℕ) → n ≡ (count + 63) / 64 → n ≤ j → count ≤ 64 * j + i
past_words count n j i e h = omega (arith, e, h)

few_words : (count n j i : ℕ) → n ≡ (count + 63) / 64 → count ≤ 1024 → j < n → i < 64 → 64 * j + i < 1024
few_words count n j i e few h l = omega (arith, e, few, h, l)

module _ (band : Band) (fibres : ℕ) (words : List ℕ) (span : SpanFacts (span_of band))
    (past : (i : ℕ) → unit_count (span_of band) ≤ i % 1024 → bit_of words i ≡ false) (g : ℕ) (on : g < fibres) where
  abbrev row : List ℕ
  row = take (words_for band) (drop (16 * g) words)

  abbrev count : ℕ
  count = unit_count (span_of band)

  few_count : unit_count (span_of band) ≤ 1024
  few_count = let s = span.order in let n = span.wide in omega (arith, ints)

  -- the unit of a place
  abbrev unit : ℕ → ℤ
  unit n = (span_of band).lo +ℤ pos n

  -- what the clause tells of a bit
  abbrev told : ℕ → ℕ → Bool
  told j i = nat_lt (64 * j + i) (unit_count (span_of band)) && bit_at_unit band fibres words g (unit (64 * j + i))

  at_unit : (n : ℕ) → n < unit_count (span_of band) →
      (has_unit (span_of band) (unit n) ≡ true) × (index_of band g (unit n) ≡ 1024 * g + n)
  at_unit n l =
      let s = span.order in
      let a : (span_of band).lo ≤ℤ unit n = omega (arith, ints) in
      let b : unit n ≤ℤ (span_of band).hi = omega (arith, ints) in
      (facts-unit (span_of band) (unit n) a b, omega (arith, ints))

  bit_here : (j i : ℕ) → i < 64 → word_bit words (16 * g + j) i ≡ bit_of words (1024 * g + (64 * j + i))
  bit_here j i l =
      let a : 16 * g + j ≡ (1024 * g + (64 * j + i)) / 64 = omega (arith, l) in
      let b : i ≡ (1024 * g + (64 * j + i)) % 64 = omega (arith, l) in
      λ q. is_one (get_or words (a q) 0) (b q)

  inner : (j i : ℕ) → i < 64 → j < words_for band → (b : Bool) → nat_lt (64 * j + i) (unit_count (span_of band)) ≡ b →
      bit_of words (1024 * g + (64 * j + i)) ≡ (b && bit_at_unit band fibres words g (unit (64 * j + i)))
  inner j i l near true e =
      let at = at_unit (64 * j + i) (ltb-true (64 * j + i) (unit_count (span_of band)) e) in
      let kept : is_kept band fibres g (unit (64 * j + i)) ≡ true = and_from _ _ (lt-ltb g fibres on) at.0 in
      ap (bit_of words) (sym at.1) ∙ (λ q. sym kept q && bit_of words (index_of band g (unit (64 * j + i))))
  inner j i l near false e =
      let low = few_words (unit_count (span_of band)) (words_for band) j i refl few_count near l in
      let more = not_less (64 * j + i) (unit_count (span_of band)) e in
      past (1024 * g + (64 * j + i)) (omega (arith, low, more))
    where
      not_less : (a b : ℕ) → nat_lt a b ≡ false → b ≤ a
      not_less a b e = elim (cases_lt a b) [
        | inl less ↦ absurd (both_ways (nat_lt a b) e (lt-ltb a b less))
        | inr more ↦ more
      ]

  pub row_bits : (j i : ℕ) → i < 64 → word_bit row j i ≡ told j i
  row_bits j i l = elim (cases_lt j (words_for band)) [
    | inl near ↦ ap (λ n. is_one n i) (get_or-take (words_for band) (drop (16 * g) words) j 0 near
        ∙ get_or-drop (16 * g) words j 0) ∙ bit_here j i l
        ∙ inner j i l near (nat_lt (64 * j + i) (unit_count (span_of band))) refl
    | inr far ↦ ap (λ n. is_one n i) (get_or_past row j 0 (short far)) ∙ none_of_zero i
        ∙ sym (ap (λ b. b && bit_at_unit band fibres words g (unit (64 * j + i)))
        (le-ltb (64 * j + i) (unit_count (span_of band))
        (past_words (unit_count (span_of band)) (words_for band) j i refl far)))
  ]
    where
      short : words_for band ≤ j → length row ≤ j
      short far = let e = length-take (words_for band) (drop (16 * g) words) in omega (arith, e, far)

-- ---- a row

-- the unit of a place, told by its word and bit
pub told_place : (band : Band) (test : ℤ → Bool) (i : ℕ) →
    (nat_lt (64 * (i / 64) + i % 64) (unit_count (span_of band)) && test ((span_of band).lo +ℤ pos (64 * (i / 64) + i % 64)))
    ≡ is_unit_that band test i
told_place band test i = ap (is_unit_that band test) (whole_place i)

-- marked by one test or by the other
pub either_unit : (b : Bool) (band : Band) (f g : ℤ → Bool) (i : ℕ) →
    ((b || is_unit_that band f i) || is_unit_that band g i) ≡ (b || is_unit_that band (λ u. f u || g u) i)
either_unit b band f g i =
    by b (nat_lt i (unit_count (span_of band))) (f ((span_of band).lo +ℤ pos i)) (g ((span_of band).lo +ℤ pos i))
  where
    by : (b n x y : Bool) → ((b || (n && x)) || (n && y)) ≡ (b || (n && (x || y)))
    by true n x y = refl
    by false true x y = refl
    by false false x y = refl

-- ---- the top

-- whether the unit is lit or held
abbrev pub stands : Band → ℕ → List ℕ → List ℕ → ℕ → ℤ → Bool
stands band fibres lit held g v = bit_at_unit band fibres lit g v || bit_at_unit band fibres held g v

module _ (band : Band) (ok : is_band band ≡ true) (fibres : ℕ) (lit held : List ℕ) (g : ℕ) (on : g < fibres)
    (unit : ℤ) where
  pub none_below : unit <ℤ (span_of band).lo → None ≡ greatest_below band (stands band fibres lit held g) unit
  none_below h = top_unique band ok (stands band fibres lit held g) unit None (greatest_below band (stands band fibres lit held g) unit)
      (λ v k b. let p = unit-facts (span_of band) v k in let p0 = p.0 in absurd (omega (arith, ints)))
      (top_is band ok (stands band fibres lit held g) unit)

  stands_is : (v : ℤ) → has_unit (span_of band) v ≡ true → stands band fibres lit held g v ≡ bit_of_either lit held (index_of band g v)
  stands_is v k =
      let kept : is_kept band fibres g v ≡ true = and_from _ _ (lt-ltb g fibres on) k in
      λ i. (kept i && bit_of lit (index_of band g v)) || (kept i && bit_of held (index_of band g v))

  module _ (above : ℤ) (at_unit : above ≤ℤ unit) (at_end : above ≤ℤ ((span_of band).hi +ℤ pos 1))
      (least : (v : ℤ) → v <ℤ unit → v ≤ℤ (span_of band).hi → v <ℤ above) (from : (span_of band).lo ≤ℤ above)
      (end : ℕ) (end_is : end ≡ 1024 * g + place_of band above) where
    pub top_found : (o : Option ℕ) → IsHighestOf (bit_of_either lit held) (1024 * g) end o →
        option_map (λ t. (span_of band).lo +ℤ pos (t - 1024 * g)) o ≡ greatest_below band (stands band fibres lit held g) unit
    top_found None none = top_unique band ok (stands band fibres lit held g) unit None (greatest_below band (stands band fibres lit held g) unit)
        (λ v k b. let p = unit-facts (span_of band) v k in
        let p0 = p.0 in
        let l = least v b p.1 in
        stands_is v k ∙ none (index_of band g v) (omega arith) (omega (arith, ints)))
        (top_is band ok (stands band fibres lit held g) unit)
    top_found (Some t) h = top_unique band ok (stands band fibres lit held g) unit (Some u) (greatest_below band (stands band fibres lit held g) unit) is
        (top_is band ok (stands band fibres lit held g) unit)
      where
        u : ℤ
        u = (span_of band).lo +ℤ pos (t - 1024 * g)

        is : IsGreatest band (stands band fibres lit held g) unit ((span_of band).lo +ℤ pos (t - 1024 * g))
        is =
            let low = h.low in
            let high = h.high in
            let w = (span_of band).lo +ℤ pos (t - 1024 * g) in
            let a : (span_of band).lo ≤ℤ w = omega (arith, ints) in
            let b : w <ℤ above = omega (arith, ints) in
            let c : w ≤ℤ (span_of band).hi = omega (arith, ints) in
            let k = facts-unit (span_of band) w a c in
            let at : index_of band g w ≡ t = omega (arith, ints) in
            record {
              within = k;
              below = omega (arith, ints);
              passes = stands_is w k ∙ ap (bit_of_either lit held) at ∙ h.passes;
              highest = λ v j b over.
                  let p = unit-facts (span_of band) v j in
                  let p0 = p.0 in
                  let l = least v b p.1 in
                  stands_is v j ∙ h.none_above (index_of band g v) (omega (arith, ints)) (omega (arith, ints));
            }

-- ---- numbers of 16 bits

round32 : (v : ℤ) → negsuc 32767 ≤ℤ v → v ≤ℤ pos 32767 → to_z w32 (of_z w32 v) ≡ v
round32 v p q = omega (arith, ints)

round16 : (v : ℤ) → negsuc 32767 ≤ℤ v → v ≤ℤ pos 32767 → to_z w16 (of_z w16 v) ≡ v
round16 v p q = omega (arith, ints)

-- the unit of a place, as it is computed
pub unit_told : (l lo hi above : ℤ) (top s g room : ℕ) → s ≡ g → to_z w32 (of_z w32 l) ≡ lo →
    negsuc 32767 ≤ℤ lo → hi ≤ℤ pos 32767 → above ≤ℤ (hi +ℤ pos 1) → lo ≤ℤ above → room ≡ nat_abs (above -ℤ lo) →
    room ≤ 1024 → 1024 * s ≤ top → top < 1024 * s + room →
    to_z w16 (of_z w16 (to_z w32 (of_z w32 (to_z w32 (of_z w32 l) +ℤ to_z w32 (top - 1024 * s)))))
    ≡ (lo +ℤ pos (top - 1024 * g))
unit_told l lo hi above top s g room e is p q at_end from room_is few low high =
    let n : to_z w32 (top - 1024 * s) ≡ pos (top - 1024 * g) = omega (arith, ints) in
    let v = lo +ℤ pos (top - 1024 * g) in
    let a : negsuc 32767 ≤ℤ v = omega (arith, ints) in
    let b : v ≤ℤ pos 32767 = omega (arith, ints) in
    (λ i. to_z w16 (of_z w16 (to_z w32 (of_z w32 (is i +ℤ n i)))))
    ∙ ap (λ (u : ℤ). to_z w16 (of_z w16 u)) (round32 v a b) ∙ round16 v a b
