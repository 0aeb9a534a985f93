-- Bits of words that are shifted.
use Rattle.std.proofs.Common.{◌≡◌, refl, sym, ◌∙◌, ap, ℕ, ◌+◌, ◌-◌, ◌*◌, ◌/◌, ◌%◌, ◌^◌, ◌<◌, ◌≤◌, arith, inl, inr, Bool, true, false, cond, ◌||◌, List, bit_or, nat_eq}
use Rattle.std.specs.Int.{bit_at}
use Rattle.std.proofs.Common.{pow_pos}
use Rattle.std.proofs.lemmas.Nat.{div-add-mod'}
use Rattle.std.proofs.Math.Nat.{mod-lt}
use Rattle.std.proofs.lemmas.Bool.{cases_lt, lt-ltb, le-ltb}
use Rattle.std.proofs.lemmas.Nat.Bits.{bit_at-zero, bit_at_above, bit_at_cat_low, bit_at_cat_high}
use Rattle.spectrum_map.specs.Bits.{is_one}
use Rattle.spectrum_map.proofs.BitLaws.{one_or}
use Rattle.block_fit.specs.Runs.{bit_of_two, is_marked}

one_of : (a b : ℕ) → a ≡ b → nat_eq a 1 ≡ nat_eq b 1
one_of a b e = ap (λ n. nat_eq n 1) e

-- to the right
pub one_shr : (n r k : ℕ) → is_one (n / 2 ^ r) k ≡ is_one n (r + k)
one_shr n r k =
    let back : (r + k) - r ≡ k = omega arith in
    sym (one_of _ _ (ap (λ m. bit_at m (r + k)) (sym (div-add-mod' n (2 ^ r)))
    ∙ bit_at_cat_high (n / 2 ^ r) r (n % 2 ^ r) (r + k) (mod-lt n (pow_pos r)) (omega arith)
    ∙ ap (bit_at (n / 2 ^ r)) back))

-- the bits of a word alone
low_bits : (n k : ℕ) → k < 64 → bit_at (n % 2 ^ 64) k ≡ bit_at n k
low_bits n k l = sym (bit_at_cat_low (n / 2 ^ 64) 64 (n % 2 ^ 64) k l) ∙ ap (λ m. bit_at m k) (div-add-mod' n (2 ^ 64))

plain : (n r k : ℕ) → bit_at (n * 2 ^ r) k ≡ bit_at (n * 2 ^ r + 0) k
plain n r k = ap (λ m. bit_at m k) (more (n * 2 ^ r))
  where
    more : (m : ℕ) → m ≡ m + 0
    more m = omega arith

-- to the left, where the bits below are 0
pub one_shl_low : (n r k : ℕ) → k < 64 → k < r → is_one (n * 2 ^ r % 2 ^ 64) k ≡ false
one_shl_low n r k l h = one_of _ 0 (low_bits (n * 2 ^ r) k l ∙ plain n r k ∙ bit_at_cat_low n r 0 k h ∙ bit_at-zero k)

pub one_shl_high : (n r k : ℕ) → k < 64 → r ≤ k → is_one (n * 2 ^ r % 2 ^ 64) k ≡ is_one n (k - r)
one_shl_high n r k l h =
    one_of _ _ (low_bits (n * 2 ^ r) k l ∙ plain n r k ∙ bit_at_cat_high n r 0 k (pow_pos r) h)

-- by less than a word, in two steps
shl_twice_low : (n f k : ℕ) → f < 64 → k < 64 → f + k < 64 →
    is_one ((n * 2 ^ (63 - f) % 2 ^ 64) * 2 ^ 1 % 2 ^ 64) k ≡ false
shl_twice_low n f k p l h = elim (cases_lt k 1) [
  | inl first ↦ one_shl_low (n * 2 ^ (63 - f) % 2 ^ 64) 1 k l first
  | inr later ↦ one_shl_high (n * 2 ^ (63 - f) % 2 ^ 64) 1 k l later
      ∙ one_shl_low n (63 - f) (k - 1) (omega (arith, l)) (omega (arith, h, later, p))
]

shl_twice_high : (n f k : ℕ) → f < 64 → k < 64 → 64 ≤ f + k →
    is_one ((n * 2 ^ (63 - f) % 2 ^ 64) * 2 ^ 1 % 2 ^ 64) k ≡ is_one n ((f + k) - 64)
shl_twice_high n f k p l h =
    let at : (k - 1) - (63 - f) ≡ (f + k) - 64 = omega (arith, p, l, h) in
    one_shl_high (n * 2 ^ (63 - f) % 2 ^ 64) 1 k l (omega (arith, p, h))
    ∙ one_shl_high n (63 - f) (k - 1) (omega (arith, l)) (omega (arith, p, h))
    ∙ ap (is_one n) at

-- two words, seen from a place of the first on
pub two_words : (low high f k : ℕ) → low < 2 ^ 64 → f < 64 → k < 64 →
    is_one (bit_or (low / 2 ^ f) ((high * 2 ^ (63 - f) % 2 ^ 64) * 2 ^ 1 % 2 ^ 64)) k ≡ bit_of_two low high (f + k)
two_words low high f k small p l =
    one_or (low / 2 ^ f) ((high * 2 ^ (63 - f) % 2 ^ 64) * 2 ^ 1 % 2 ^ 64) k
    ∙ elim (cases_lt (f + k) 64) [
      | inl inside ↦ (λ i. one_shr low f k i || shl_twice_low high f k p l inside i)
          ∙ nothing (is_one low (f + k))
          ∙ ap (λ b. cond b (is_one low (f + k)) (is_one high ((f + k) - 64))) (sym (lt-ltb (f + k) 64 inside))
      | inr past ↦ (λ i. (one_shr low f k ∙ one_of _ 0 (bit_at_above low 64 (f + k) small past)) i
          || shl_twice_high high f k p l past i)
          ∙ ap (λ b. cond b (is_one low (f + k)) (is_one high ((f + k) - 64))) (sym (le-ltb (f + k) 64 past))
    ]
  where
    nothing : (a : Bool) → (a || false) ≡ a
    nothing true = refl
    nothing false = refl

-- the places that lie so far above those of a word, in the two words where they begin
pub above_word : (words : List ℕ) (word by k low high : ℕ) → k < 64 →
    ((j : ℕ) → j < 64 → is_one low j ≡ is_marked words (64 * (word + by / 64) + j)) →
    ((j : ℕ) → j < 64 → is_one high j ≡ is_marked words (64 * ((word + by / 64) + 1) + j)) →
    bit_of_two low high (by % 64 + k) ≡ is_marked words ((64 * word + k) + by)
above_word words word by k low high l first second = elim (cases_lt (by % 64 + k) 64) [
  | inl inside ↦
      let at : 64 * (word + by / 64) + (by % 64 + k) ≡ (64 * word + k) + by = omega arith in
      ap (λ b. cond b (is_one low (by % 64 + k)) (is_one high ((by % 64 + k) - 64)))
      (lt-ltb (by % 64 + k) 64 inside)
      ∙ first (by % 64 + k) inside ∙ ap (is_marked words) at
  | inr past ↦
      let at : 64 * ((word + by / 64) + 1) + ((by % 64 + k) - 64) ≡ (64 * word + k) + by = omega (arith, past) in
      ap (λ b. cond b (is_one low (by % 64 + k)) (is_one high ((by % 64 + k) - 64)))
      (le-ltb (by % 64 + k) 64 past)
      ∙ second ((by % 64 + k) - 64) (omega (arith, l)) ∙ ap (is_marked words) at
]
