-- The greatest bit of a range, word by word from above.
use Rattle.std.proofs.Common.{◌≡◌, refl, sym, ◌∙◌, ap, ℕ, ◌+◌, ◌*◌, ◌/◌, ◌%◌, ◌^◌, ◌<◌, ◌≤◌, arith, inl, inr, Bool, true, false, ◌&&◌, List, get_or, bit_and}
use Rattle.std.proofs.lemmas.Bool.{cases_lt, and_parts}
use Rattle.spectrum_map.specs.Bits.{is_one, bit_of, is_between, IsHighest}
use Rattle.spectrum_map.proofs.BitLaws.{one_and, none_of_zero, top_bit, bits_above, between-facts, facts-between}

module _ (words : List ℕ) (w first end m : ℕ)
    (mask : (k : ℕ) → k < 64 → is_one m k ≡ is_between first end (64 * w + k)) where
  -- the bits of the range in this word
  abbrev found : ℕ
  found = bit_and (get_or words w 0) m

  in_found : (i : ℕ) → i / 64 ≡ w → first ≤ i → i < end → bit_of words i ≡ is_one found (i % 64)
  in_found i e p q =
      let whole : 64 * w + i % 64 ≡ i = omega (arith, e) in
      ap (λ n. is_one (get_or words n 0) (i % 64)) e
      ∙ plain (is_one (get_or words w 0) (i % 64))
      ∙ ap (λ b. is_one (get_or words w 0) (i % 64) && b)
      (sym (mask (i % 64) (omega arith) ∙ ap (is_between first end) whole ∙ facts-between first end i p q))
      ∙ sym (one_and (get_or words w 0) m (i % 64))
    where
      plain : (a : Bool) → a ≡ (a && true)
      plain true = refl
      plain false = refl

  module _ (none : (i : ℕ) → 64 * (w + 1) ≤ i → first ≤ i → i < end → bit_of words i ≡ false) where
    pub none_here : found ≡ 0 → (i : ℕ) → 64 * w ≤ i → first ≤ i → i < end → bit_of words i ≡ false
    none_here z i h p q = elim (cases_lt i (64 * (w + 1))) [
      | inl here ↦ in_found i (omega (arith, h, here)) p q ∙ ap (λ n. is_one n (i % 64)) z ∙ none_of_zero (i % 64)
      | inr above ↦ none i above p q
    ]

    pub highest_here : (t : ℕ) → t < 64 → 2 ^ t ≤ found → found < 2 * 2 ^ t →
        IsHighest (bit_of words) first end (64 * w + t)
    highest_here t l low high =
        let parts = and_parts (is_one (get_or words w 0) t) (is_one m t)
        (sym (one_and (get_or words w 0) m t) ∙ top_bit found t low high) in
        let inside = between-facts first end (64 * w + t) (sym (mask t l) ∙ parts.1) in
        let word : (64 * w + t) / 64 ≡ w = omega (arith, l) in
        let bit : (64 * w + t) % 64 ≡ t = omega (arith, l) in
        record {
          low = inside.0;
          high = inside.1;
          passes = (λ i. is_one (get_or words (word i) 0) (bit i)) ∙ parts.0;
          none_above = above inside.0;
        }
      where
        above : first ≤ 64 * w + t → (i : ℕ) → 64 * w + t < i → i < end → bit_of words i ≡ false
        above f i p q = elim (cases_lt i (64 * (w + 1))) [
          | inl here ↦ in_found i (omega (arith, p, here)) (omega (arith, f, p)) q
              ∙ bits_above found t (i % 64) high (omega (arith, p, here))
          | inr past ↦ none i past (omega (arith, f, p)) q
        ]
