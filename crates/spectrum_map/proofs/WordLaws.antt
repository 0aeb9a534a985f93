-- Bits over many words: what a walk over the words has done so far with a range of places.
use Rattle.std.proofs.Common.{◌≡◌, refl, sym, ◌∙◌, ap, subst, ℕ, ◌+◌, ◌*◌, ◌/◌, ◌%◌, ◌^◌, ◌<◌, ◌≤◌, arith, inl, inr, Bool, true, false, ◌&&◌, ◌||◌, not, List, length, get_or, set, bit_and, bit_or, w64}
use Rattle.std.specs.Prelude.{nat_lt}
use Rattle.std.specs.Int.{bit_not}
use Rattle.std.proofs.lemmas.Bool.{cases_lt, cases_eq, lt-ltb, le-ltb}
use Rattle.std.proofs.lemmas.List.{get_or-set_same, get_or-set_other, get_or_past}
use Rattle.spectrum_map.specs.Bits.{is_one, word_bit, bit_of}
use Rattle.spectrum_map.proofs.BitLaws.{one_or, one_and, one_not, none_of_zero, lt_alike}

-- ---- one place

pub in_word : (i : ℕ) → i % 64 < 64
in_word i = omega arith

pub whole_place : (i : ℕ) → 64 * (i / 64) + i % 64 ≡ i
whole_place i = omega arith

pub bit_at_place : (words : List ℕ) (w k : ℕ) → k < 64 → word_bit words w k ≡ bit_of words (64 * w + k)
bit_at_place words w k l =
    let word : w ≡ (64 * w + k) / 64 = omega (arith, l) in
    let bit : k ≡ (64 * w + k) % 64 = omega (arith, l) in
    λ i. is_one (get_or words (word i) 0) (bit i)

-- past the last word no bit is 1
pub bit_past : (words : List ℕ) (i : ℕ) → 64 * length words ≤ i → bit_of words i ≡ false
bit_past words i h =
    ap (λ w. is_one w (i % 64)) (get_or_past words (i / 64) 0 (omega arith)) ∙ none_of_zero (i % 64)

-- ---- the places of a walk

-- whether the place is one of the range, and lies in a word before this one
abbrev pub is_done : ℕ → (ℕ → Bool) → ℕ → ℕ → Bool
is_done w range j k = nat_lt j w && range (64 * j + k)

-- the words before this one have the bits of the range set
abbrev pub SetTo : List ℕ → List ℕ → ℕ → (ℕ → Bool) → Type 0
SetTo before now w range = (j k : ℕ) → k < 64 → word_bit now j k ≡ (word_bit before j k || is_done w range j k)

-- or cleared
abbrev pub ClearedTo : List ℕ → List ℕ → ℕ → (ℕ → Bool) → Type 0
ClearedTo before now w range =
    (j k : ℕ) → k < 64 → word_bit now j k ≡ (word_bit before j k && not (is_done w range j k))

or_false : (a b : Bool) → b ≡ false → a ≡ (a || b)
or_false true b e = refl
or_false false b e = sym e

and_not_false : (a b : Bool) → b ≡ false → a ≡ (a && not b)
and_not_false true b e = ap not (sym e)
and_not_false false b e = refl

module _ (w : ℕ) (range : ℕ → Bool) where
  -- nothing is done before the range begins
  none_done : ((i : ℕ) → i < 64 * w → range i ≡ false) → (j k : ℕ) → k < 64 → is_done w range j k ≡ false
  none_done none j k l = elim (cases_lt j w) [
    | inl less ↦ (λ i. nat_lt j w && none (64 * j + k) (omega (arith, less, l)) i) ∙ never (nat_lt j w)
    | inr more ↦ ap (λ b. b && range (64 * j + k)) (le-ltb j w more)
  ]
    where
      never : (a : Bool) → (a && false) ≡ false
      never true = refl
      never false = refl

  pub set_start : (words : List ℕ) → ((i : ℕ) → i < 64 * w → range i ≡ false) → SetTo words words w range
  set_start words none j k l = or_false (word_bit words j k) _ (none_done none j k l)

  pub cleared_start : (words : List ℕ) → ((i : ℕ) → i < 64 * w → range i ≡ false) → ClearedTo words words w range
  cleared_start words none j k l = and_not_false (word_bit words j k) _ (none_done none j k l)

  -- a place is done where no later word has one of the range
  done_all : (i : ℕ) → (64 * w ≤ i → range i ≡ false) → is_done w range (i / 64) (i % 64) ≡ range i
  done_all i none = ap (λ n. nat_lt (i / 64) w && range n) (whole_place i) ∙ elim (cases_lt (i / 64) w) [
    | inl less ↦ ap (λ b. b && range i) (lt-ltb (i / 64) w less)
    | inr more ↦ ap (λ b. b && range i) (le-ltb (i / 64) w more) ∙ sym (none (omega (arith, more)))
  ]

  pub set_end : (before now : List ℕ) → SetTo before now w range → (i : ℕ) → (64 * w ≤ i → range i ≡ false) →
      bit_of now i ≡ (bit_of before i || range i)
  set_end before now s i none = s (i / 64) (i % 64) (in_word i) ∙ ap (λ b. bit_of before i || b) (done_all i none)

  pub cleared_end : (before now : List ℕ) → ClearedTo before now w range → (i : ℕ) → (64 * w ≤ i → range i ≡ false) →
      bit_of now i ≡ (bit_of before i && not (range i))
  cleared_end before now s i none =
      s (i / 64) (i % 64) (in_word i) ∙ ap (λ b. bit_of before i && not b) (done_all i none)

  -- words from this one on are as before
  pub not_yet_set : (before now : List ℕ) → SetTo before now w range → (j k : ℕ) → k < 64 → w ≤ j →
      word_bit now j k ≡ word_bit before j k
  not_yet_set before now s j k l h =
      s j k l ∙ sym (or_false (word_bit before j k) _ (ap (λ b. b && range (64 * j + k)) (le-ltb j w h)))

-- ---- one word more

module _ (before now : List ℕ) (w : ℕ) (range : ℕ → Bool) (m : ℕ) (within : w < length now)
    (mask : (k : ℕ) → k < 64 → is_one m k ≡ range (64 * w + k)) where
  done_here : (k : ℕ) → is_done (w + 1) range w k ≡ range (64 * w + k)
  done_here k = ap (λ b. b && range (64 * w + k)) (lt-ltb w (w + 1) (omega arith))

  undone_here : (k : ℕ) → is_done w range w k ≡ false
  undone_here k = ap (λ b. b && range (64 * w + k)) (le-ltb w w (omega arith))

  done_elsewhere : (j k : ℕ) → (j ≡ w → ⊥) → is_done w range j k ≡ is_done (w + 1) range j k
  done_elsewhere j k other = ap (λ b. b && range (64 * j + k))
      (lt_alike j w j (w + 1) (λ h. omega arith) (λ h. elim (cases_lt j w) [
        | inl less ↦ less
        | inr more ↦ absurd (other (omega arith))
      ]))

  pub set_step : SetTo before now w range → SetTo before (set now w (bit_or (get_or now w 0) m)) (w + 1) range
  set_step s j k l = elim (cases_eq j w) [
    | inl here ↦ subst (λ (n : ℕ). word_bit (set now w (bit_or (get_or now w 0) m)) n k
        ≡ (word_bit before n k || is_done (w + 1) range n k)) (sym here) at
    | inr other ↦ ap (λ n. is_one n k) (get_or-set_other now w j (bit_or (get_or now w 0) m) 0 other)
        ∙ s j k l ∙ ap (λ b. word_bit before j k || b) (done_elsewhere j k other)
  ]
    where
      nothing : (a b : Bool) → b ≡ false → (a || b) ≡ a
      nothing true b e = refl
      nothing false b e = e

      at : word_bit (set now w (bit_or (get_or now w 0) m)) w k
          ≡ (word_bit before w k || is_done (w + 1) range w k)
      at = ap (λ n. is_one n k) (get_or-set_same now w (bit_or (get_or now w 0) m) 0 within)
          ∙ one_or (get_or now w 0) m k
          ∙ (λ i. (s w k l ∙ nothing (word_bit before w k) _ (undone_here k)) i || mask k l i)
          ∙ ap (λ b. word_bit before w k || b) (sym (done_here k))

  pub cleared_step : m < 2 ^ 64 → ClearedTo before now w range →
      ClearedTo before (set now w (bit_and (get_or now w 0) (bit_not w64 m))) (w + 1) range
  cleared_step small s j k l = elim (cases_eq j w) [
    | inl here ↦ subst (λ (n : ℕ). word_bit (set now w (bit_and (get_or now w 0) (bit_not w64 m))) n k
        ≡ (word_bit before n k && not (is_done (w + 1) range n k))) (sym here) at
    | inr other ↦ ap (λ n. is_one n k) (get_or-set_other now w j (bit_and (get_or now w 0) (bit_not w64 m)) 0 other)
        ∙ s j k l ∙ ap (λ b. word_bit before j k && not b) (done_elsewhere j k other)
  ]
    where
      nothing : (a b : Bool) → b ≡ false → (a && not b) ≡ a
      nothing true b e = ap not e
      nothing false b e = refl

      at : word_bit (set now w (bit_and (get_or now w 0) (bit_not w64 m))) w k
          ≡ (word_bit before w k && not (is_done (w + 1) range w k))
      at = ap (λ n. is_one n k) (get_or-set_same now w (bit_and (get_or now w 0) (bit_not w64 m)) 0 within)
          ∙ one_and (get_or now w 0) (bit_not w64 m) k
          ∙ ap (λ b. is_one (get_or now w 0) k && b) (one_not m k small l)
          ∙ (λ i. (s w k l ∙ nothing (word_bit before w k) _ (undone_here k)) i && not (mask k l i))
          ∙ ap (λ b. word_bit before w k && not b) (sym (done_here k))
