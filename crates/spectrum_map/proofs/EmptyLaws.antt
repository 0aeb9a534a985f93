-- Words and counts of 0 stand for nothing.
use Rattle.std.proofs.Common.{◌≡◌, refl, sym, ◌∙◌, ap, ℕ, ◌-◌, ◌*◌, ◌/◌, ◌%◌, ◌^◌, arith, inl, inr, ℤ, Bool, true, false, cond, ◌&&◌, List, get_or, nat_eq, replicate}
use Rattle.std.specs.Prelude.{nat_lt}
use Rattle.std.proofs.lemmas.Bool.{cases_lt, lt-ltb, le-ltb}
use Rattle.std.proofs.lemmas.Nat.Bits.{bit_at_ones}
use Rattle.std.proofs.lemmas.List.{get_or-replicate, get_or_past, length-replicate}
use Rattle.eon_model.specs.Grid.{Band}
use Rattle.spectrum_map.specs.Bits.{is_one, bit_of}
use Rattle.spectrum_map.specs.Kept.{IsEmpty, index_of, is_kept}
use Rattle.spectrum_map.proofs.BitLaws.{none_of_zero}
use Rattle.spectrum_map.proofs.WordLaws.{bit_past}

pub zero_at : (n i : ℕ) → ◌≡◌ {A = ℕ} (get_or (replicate n 0) i 0) 0
zero_at n i = elim (cases_lt i n) [
  | inl less ↦ get_or-replicate n i 0 0 less
  | inr more ↦ let e = length-replicate {A = ℕ} n 0 in get_or_past (replicate n 0) i 0 (omega (arith, e, more))
]

-- no place of words of 0 is 1
pub no_bits : (n i : ℕ) → bit_of (replicate n 0) i ≡ false
no_bits n i = ap (λ w. is_one w (i % 64)) (zero_at n (i / 64)) ∙ none_of_zero (i % 64)

-- and each one of words of ones is
pub all_bits : (n i : ℕ) → bit_of (replicate n (2 ^ 64 - 1)) i ≡ nat_lt i (64 * n)
all_bits n i = elim (cases_lt (i / 64) n) [
  | inl less ↦ ap (λ w. is_one w (i % 64)) (get_or-replicate n (i / 64) (2 ^ 64 - 1) 0 less)
      ∙ ap (λ b. nat_eq b 1) (bit_at_ones 64 (i % 64) (omega arith)) ∙ sym (lt-ltb i (64 * n) (omega (arith, less)))
  | inr more ↦ let e = length-replicate {A = ℕ} n (2 ^ 64 - 1) in
      bit_past (replicate n (2 ^ 64 - 1)) i (omega (arith, e, more)) ∙ sym (le-ltb i (64 * n) (omega (arith, more)))
]

pub empty-is : (band : Band) (fibres : ℕ) (words counts : List ℕ) (n m : ℕ) → words ≡ replicate n 0 →
    counts ≡ replicate m 0 →
    IsEmpty band fibres (record { band = band; fibres = fibres; words = words; counts = counts })
empty-is band fibres words counts n m e f = record {
  band_is = refl;
  fibres_are = refl;
  dark = λ i g u. dark g u i;
  free = λ i g u. free g u i;
}
  where
    never : (a : Bool) → (a && false) ≡ false
    never true = refl
    never false = refl

    dark : (g : ℕ) (u : ℤ) → (is_kept band fibres g u && bit_of words (index_of band g u)) ≡ false
    dark g u =
        let k = index_of band g u in
        ap (λ (ws : List ℕ). is_kept band fibres g u && bit_of ws (index_of band g u)) e
        ∙ ap (λ w. is_kept band fibres g u && is_one w (k % 64)) (zero_at n (k / 64))
        ∙ ap (λ b. is_kept band fibres g u && b) (none_of_zero (k % 64)) ∙ never (is_kept band fibres g u)

    zero : (b : Bool) → ◌≡◌ {A = ℕ} (cond b 0 0) 0
    zero true = refl
    zero false = refl

    free : (g : ℕ) (u : ℤ) → cond (is_kept band fibres g u) (get_or counts (index_of band g u) 0) 0 ≡ 0
    free g u =
        ap (λ (ws : List ℕ). cond (is_kept band fibres g u) (get_or ws (index_of band g u) 0) 0) f
        ∙ ap (λ c. cond (is_kept band fibres g u) c 0) (zero_at m (index_of band g u)) ∙ zero (is_kept band fibres g u)
