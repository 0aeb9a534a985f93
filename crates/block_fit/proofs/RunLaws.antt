-- Runs of places, and the search for one by doubling.
use Rattle.std.proofs.Common.{◌≡◌, refl, sym, ◌∙◌, ap, ℕ, zero, suc, ◌+◌, ◌-◌, ◌*◌, ◌/◌, ◌%◌, ◌^◌, ◌<◌, ◌≤◌, arith, inl, inr, Bool, true, false, ◌||◌, nat_eq, List, length, get_or, Option, Some, None, w64}
use Rattle.std.specs.Prelude.{nat_le}
use Rattle.std.specs.Int.{trailing_ones}
use Rattle.std.proofs.lemmas.Bool.{cases_lt, le-leb, lt-leb, both_ways}
use Rattle.std.proofs.lemmas.Nat.Bits.{bit_at_ones, bit_at-trailing_ones}
use Rattle.spectrum_map.specs.Bits.{is_one, bit_of}
use Rattle.spectrum_map.proofs.WordLaws.{SetTo, not_yet_set, in_word, bit_at_place}
use Rattle.block_fit.specs.Runs.{is_marked, is_marked_from, IsLowestPlace, IsLowestUnmarked, IsLowestRun}

-- within the words a place is marked where its bit is 1
pub marked_inside : (words : List ℕ) (i : ℕ) → i < 64 * length words → is_marked words i ≡ bit_of words i
marked_inside words i h = ap (λ b. b || bit_of words i) (lt-leb (64 * length words) i h)

pub marked_past : (words : List ℕ) (i : ℕ) → 64 * length words ≤ i → is_marked words i ≡ true
marked_past words i h = ap (λ b. b || bit_of words i) (le-leb (64 * length words) i h)

-- while the words are widened upwards, those that are read are as they were
pub same_marks : (before now : List ℕ) (w by : ℕ) → length now ≡ length before →
    SetTo before now w (λ i. is_marked before (i + by)) → (k : ℕ) → k < 64 →
    is_marked now ((64 * w + k) + by) ≡ is_marked before ((64 * w + k) + by)
same_marks before now w by len s k l =
    let i = (64 * w + k) + by in
    (λ q. nat_le (64 * len q) i
    || not_yet_set w (λ n. is_marked before (n + by)) before now s (i / 64) (i % 64) (in_word i) (omega arith) q)

module _ (words : List ℕ) where
  pub from_past : (i n : ℕ) → 64 * length words ≤ i → 1 ≤ n → is_marked_from words i n ≡ true
  from_past i zero h some = absurd (omega (arith, some))
  from_past i (suc n) h some = ap (λ b. b || is_marked_from words (i + 1) n) (marked_past words i h)

  pub one_place : (i : ℕ) → is_marked words i ≡ is_marked_from words i 1
  one_place i = by (is_marked words i)
    where
      by : (b : Bool) → b ≡ (b || false)
      by true = refl
      by false = refl

  -- a run of places, in two
  pub from_sum : (i a b : ℕ) →
      is_marked_from words i (a + b) ≡ (is_marked_from words i a || is_marked_from words (i + a) b)
  from_sum i zero b =
      let none : 0 + b ≡ b = omega arith in
      let here : i ≡ i + 0 = omega arith in
      λ k. is_marked_from words (here k) (none k)
  from_sum i (suc a) b =
      let more : suc a + b ≡ suc (a + b) = omega arith in
      let on : (i + 1) + a ≡ i + suc a = omega arith in
      ap (is_marked_from words i) more
      ∙ ap (λ t. is_marked words i || t) (from_sum (i + 1) a b)
      ∙ regroup (is_marked words i) (is_marked_from words (i + 1) a) (is_marked_from words ((i + 1) + a) b)
      ∙ ap (λ n. (is_marked words i || is_marked_from words (i + 1) a) || is_marked_from words n b) on
    where
      regroup : (x y z : Bool) → (x || (y || z)) ≡ ((x || y) || z)
      regroup true y z = refl
      regroup false y z = refl

  -- two runs that meet or overlap are one
  pub from_wider : (i done by : ℕ) → by ≤ done →
      (is_marked_from words i done || is_marked_from words (i + by) done) ≡ is_marked_from words i (done + by)
  from_wider i done by near =
      let rest : done ≡ by + (done - by) = omega (arith, near) in
      let back : done ≡ (done - by) + by = omega (arith, near) in
      let on : (i + by) + (done - by) ≡ i + done = omega (arith, near) in
      let here = ap (is_marked_from words i) rest ∙ from_sum i by (done - by) in
      let there = ap (is_marked_from words (i + by)) back ∙ from_sum (i + by) (done - by) by
      ∙ ap (λ n. is_marked_from words (i + by) (done - by) || is_marked_from words n by) on in
      (λ k. here k || there k)
      ∙ join (is_marked_from words i by) (is_marked_from words (i + by) (done - by)) (is_marked_from words (i + done) by)
      ∙ (λ k. sym here k || is_marked_from words (i + done) by)
      ∙ sym (from_sum i done by)
    where
      join : (x y z : Bool) → ((x || y) || (y || z)) ≡ ((x || y) || z)
      join true y z = refl
      join false true z = refl
      join false false z = refl

-- The words have each place marked from which so many of the first words are not all unmarked.
pub record Starts (first words : List ℕ) (done : ℕ) : Type 0 where
  pub some : 1 ≤ done
  pub len : length words ≡ length first
  pub bits : (i : ℕ) → i < 64 * length first → bit_of words i ≡ is_marked_from first i done

pub starts-none : (first : List ℕ) → Starts first first 1
starts-none first = record {
  some = omega arith;
  len = refl;
  bits = λ i h. sym (marked_inside first i h) ∙ one_place first i;
}

module _ (first words : List ℕ) (done : ℕ) (s : Starts first words done) where
  -- past the words each run meets what counts as marked
  pub starts-all : (i : ℕ) → is_marked words i ≡ is_marked_from first i done
  starts-all i = elim (cases_lt i (64 * length first)) [
    | inl inside ↦ let len = s.len in marked_inside words i (omega (arith, inside, len)) ∙ s.bits i inside
    | inr past ↦ let len = s.len in
        marked_past words i (omega (arith, past, len)) ∙ sym (from_past first i done past s.some)
  ]

  pub starts-more : (by : ℕ) (new : List ℕ) → by ≤ done → length new ≡ length words →
      ((i : ℕ) → i < 64 * length words → bit_of new i ≡ (bit_of words i || is_marked words (i + by))) →
      Starts first new (done + by)
  starts-more by new near len e =
      let some = s.some in record {
        some = omega (arith, some);
        len = len ∙ s.len;
        bits = λ i h. let old = s.len in e i (omega (arith, h, old))
            ∙ (λ k. s.bits i h k || starts-all (i + by) k)
            ∙ from_wider first i done by near;
      }

  pub starts-lowest : (o : Option ℕ) → IsLowestUnmarked words o → IsLowestRun first done o
  starts-lowest None none = λ i. sym (starts-all i) ∙ none i
  starts-lowest (Some place) h = record {
    unmarked = sym (starts-all place) ∙ h.unmarked;
    lowest = λ i l. sym (starts-all i) ∙ h.lowest i l;
  }

-- ---- the lowest place

module _ (words : List ℕ) (w : ℕ) (within : w < length words) where
  bit_here : (k : ℕ) → k < 64 → is_marked words (64 * w + k) ≡ is_one (get_or words w 0) k
  bit_here k l = marked_inside words (64 * w + k) (omega (arith, within, l)) ∙ sym (bit_at_place words w k l)

  pub word_marked : (k : ℕ) → k < 64 → is_one (get_or words w 0) k ≡ is_marked words (64 * w + k)
  word_marked k l = sym (bit_here k l)

  module _ (before : (i : ℕ) → i < 64 * w → is_marked words i ≡ true) where
    -- a word of ones
    pub full_word : get_or words w 0 ≡ 18446744073709551615 → (i : ℕ) → i < 64 * (w + 1) → is_marked words i ≡ true
    full_word full i h = elim (cases_lt i (64 * w)) [
      | inl earlier ↦ before i earlier
      | inr here ↦
          let at : i ≡ 64 * w + (i - 64 * w) = omega (arith, here) in
          let l : i - 64 * w < 64 = omega (arith, h, here) in
          ap (is_marked words) at ∙ bit_here (i - 64 * w) l
          ∙ ap (λ n. is_one n (i - 64 * w)) full ∙ ap (λ b. nat_eq b 1) (bit_at_ones 64 (i - 64 * w) l)
    ]

    -- and one with a 0
    pub lowest_here : get_or words w 0 < 2 ^ 64 → (get_or words w 0 ≡ 18446744073709551615 → ⊥) →
        IsLowestPlace words (64 * w + trailing_ones w64 (get_or words w 0))
    lowest_here small other =
        let facts = bit_at-trailing_ones w64 (get_or words w 0) (not_full (get_or words w 0) small other) in
        let l = facts.0 in
        record {
          unmarked = bit_here (trailing_ones w64 (get_or words w 0)) l ∙ ap (λ b. nat_eq b 1) facts.1;
          lowest = λ i h. elim (cases_lt i (64 * w)) [
            | inl earlier ↦ before i earlier
            | inr here ↦
                let at : i ≡ 64 * w + (i - 64 * w) = omega (arith, here) in
                let k : i - 64 * w < trailing_ones w64 (get_or words w 0) = omega (arith, h, here) in
                ap (is_marked words) at ∙ bit_here (i - 64 * w) (omega (arith, k, l))
                ∙ ap (λ b. nat_eq b 1) (facts.2 (i - 64 * w) k)
          ];
        }
      where
        not_full : (n : ℕ) → n < 2 ^ 64 → (n ≡ 18446744073709551615 → ⊥) → n + 1 < 2 ^ 64
        not_full n small other = elim (cases_lt (n + 1) (2 ^ 64)) [
          | inl less ↦ less
          | inr more ↦ absurd (other (omega (arith, small, more)))
        ]

-- past the last word all count as marked
pub ones_past : (words : List ℕ) (w k : ℕ) → length words ≤ w → k < 64 →
    is_one 18446744073709551615 k ≡ is_marked words (64 * w + k)
ones_past words w k h l = ap (λ b. nat_eq b 1) (bit_at_ones 64 k l) ∙ sym (marked_past words (64 * w + k) (omega (arith, h)))

-- a run that is not marked begins within the words
pub run_low : (words : List ℕ) (i n : ℕ) → 1 ≤ n → is_marked_from words i n ≡ false → i < 64 * length words
run_low words i n some h = elim (cases_lt i (64 * length words)) [
  | inl less ↦ less
  | inr more ↦ absurd (both_ways (is_marked_from words i n) h (from_past words i n more some))
]
