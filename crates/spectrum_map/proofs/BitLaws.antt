-- One bit of a word, and masks that are a run of ones.
use Rattle.std.proofs.Common.{◌≡◌, refl, sym, ◌∙◌, ap, ℕ, zero, suc, ◌+◌, ◌-◌, ◌*◌, ◌/◌, ◌%◌, ◌^◌, ◌<◌, ◌≤◌, arith, inl, inr, true, false, ◌&&◌, ◌||◌, not, nat_eq, bit_and, bit_or, w64}
use Rattle.std.specs.Prelude.{min, max, nat_le, nat_lt}
use Rattle.std.specs.Int.{bit_at, bit_not}
use Rattle.std.proofs.Common.{pow_pos, pow_mono, div-lt_iff_lt-mul, le-div_iff_mul-le}
use Rattle.std.proofs.Math.Nat.{two-pow-succ, div-eq_of_lt}
use Rattle.std.proofs.lemmas.Bool.{cases_lt, and_parts, and_from, le-leb, leb-true, lt-ltb, ltb-true, lt-leb, le-ltb, false_from_ne_true}
use Rattle.std.proofs.lemmas.Nat.Bits.{bit_at-lt, bit_at-zero, bit_at_and, bit_at_or, bit_at_not, bit_at_ones, bit_at_ones_above, bit_at_mask_inside, bit_at_mask_below, ones_shl, ones_shr}
use Rattle.eon_model.proofs.SetLists.{same_test}
use Rattle.spectrum_map.specs.Bits.{is_one, is_between}

-- ---- one bit

pub one_or : (a b k : ℕ) → is_one (bit_or a b) k ≡ (is_one a k || is_one b k)
one_or a b k = ap (λ n. nat_eq n 1) (bit_at_or a b k)
    ∙ by (bit_at a k) (bit_at b k) (bit_at-lt a k) (bit_at-lt b k)
  where
    by : (x y : ℕ) → x < 2 → y < 2 → nat_eq (max x y) 1 ≡ (nat_eq x 1 || nat_eq y 1)
    by zero zero p q = refl
    by zero (suc zero) p q = refl
    by (suc zero) zero p q = refl
    by (suc zero) (suc zero) p q = refl
    by (suc (suc x)) y p q = absurd (omega (arith, p))
    by zero (suc (suc y)) p q = absurd (omega (arith, q))
    by (suc zero) (suc (suc y)) p q = absurd (omega (arith, q))

pub one_and : (a b k : ℕ) → is_one (bit_and a b) k ≡ (is_one a k && is_one b k)
one_and a b k = ap (λ n. nat_eq n 1) (bit_at_and a b k)
    ∙ by (bit_at a k) (bit_at b k) (bit_at-lt a k) (bit_at-lt b k)
  where
    by : (x y : ℕ) → x < 2 → y < 2 → nat_eq (min x y) 1 ≡ (nat_eq x 1 && nat_eq y 1)
    by zero zero p q = refl
    by zero (suc zero) p q = refl
    by (suc zero) zero p q = refl
    by (suc zero) (suc zero) p q = refl
    by (suc (suc x)) y p q = absurd (omega (arith, p))
    by zero (suc (suc y)) p q = absurd (omega (arith, q))
    by (suc zero) (suc (suc y)) p q = absurd (omega (arith, q))

pub one_not : (a k : ℕ) → a < 2 ^ 64 → k < 64 → is_one (bit_not w64 a) k ≡ not (is_one a k)
one_not a k h l = ap (λ n. nat_eq n 1) (bit_at_not w64 a k h l) ∙ by (bit_at a k) (bit_at-lt a k)
  where
    by : (x : ℕ) → x < 2 → nat_eq (1 - x) 1 ≡ not (nat_eq x 1)
    by zero p = refl
    by (suc zero) p = refl
    by (suc (suc x)) p = absurd (omega (arith, p))

pub none_of_zero : (k : ℕ) → is_one 0 k ≡ false
none_of_zero k = ap (λ n. nat_eq n 1) (bit_at-zero k)

-- the highest bit that is 1, and those above it
pub top_bit : (m k : ℕ) → 2 ^ k ≤ m → m < 2 * 2 ^ k → is_one m k ≡ true
top_bit m k low high =
    let p = pow_pos k in
    let a : m / 2 ^ k < 2 = (div-lt_iff_lt-mul p).1 high in
    let b : 1 ≤ m / 2 ^ k = (le-div_iff_mul-le p).1 (omega arith) in
    let one : bit_at m k ≡ 1 = omega arith in
    ap (λ n. nat_eq n 1) one

pub bits_above : (m j k : ℕ) → m < 2 * 2 ^ j → j < k → is_one m k ≡ false
bits_above m j k high l =
    let a : m < 2 ^ k = omega (arith, two-pow-succ j, pow_mono {i = suc j} {j = k} (omega arith)) in
    ap (λ x. nat_eq (x % 2) 1) (div-eq_of_lt a)

-- ---- ranges

pub le_alike : (a b c d : ℕ) → (a ≤ b → c ≤ d) → (c ≤ d → a ≤ b) → nat_le a b ≡ nat_le c d
le_alike a b c d to from =
    same_test _ _ (λ h. le-leb c d (to (leb-true a b h))) (λ h. le-leb a b (from (leb-true c d h)))

pub lt_alike : (a b c d : ℕ) → (a < b → c < d) → (c < d → a < b) → nat_lt a b ≡ nat_lt c d
lt_alike a b c d to from =
    same_test _ _ (λ h. lt-ltb c d (to (ltb-true a b h))) (λ h. lt-ltb a b (from (ltb-true c d h)))

-- what a test of a range tells, and what tells it
pub between-facts : (first end i : ℕ) → is_between first end i ≡ true → (first ≤ i) × (i < end)
between-facts first end i h =
    let p = and_parts (nat_le first i) (nat_lt i end) h in (leb-true first i p.0, ltb-true i end p.1)

pub facts-between : (first end i : ℕ) → first ≤ i → i < end → is_between first end i ≡ true
facts-between first end i p q = and_from _ _ (le-leb first i p) (lt-ltb i end q)

pub not_between : (first end i : ℕ) → (first ≤ i → i < end → ⊥) → is_between first end i ≡ false
not_between first end i never = false_from_ne_true (is_between first end i) λ h.
    let p = between-facts first end i h in never p.0 p.1

pub below_range : (first end i : ℕ) → i < first → is_between first end i ≡ false
below_range first end i h = not_between first end i (λ p q. absurd (omega (arith, h, p)))

pub past_range : (first end i : ℕ) → end ≤ i → is_between first end i ≡ false
past_range first end i h = not_between first end i (λ p q. absurd (omega (arith, h, q)))

-- a range, seen from the word of this number
pub between_word : (word first end k : ℕ) → k < 64 →
    is_between (first - 64 * word) (min (end - 64 * word) 64) k ≡ is_between first end (64 * word + k)
between_word word first end k l = same_test _ _
    (λ h. let p = between-facts (first - 64 * word) (min (end - 64 * word) 64) k h in
    let a = p.0 in let b = p.1 in facts-between first end (64 * word + k) (omega arith) (omega arith))
    (λ h. let p = between-facts first end (64 * word + k) h in
    let a = p.0 in let b = p.1 in
    facts-between (first - 64 * word) (min (end - 64 * word) 64) k (omega arith) (omega arith))

-- ---- masks

ones_from : (from k : ℕ) → k < 64 → is_one (2 ^ 64 - 2 ^ from) k ≡ nat_le from k
ones_from from k l = elim (cases_lt k from) [
  | inl below ↦ ap (λ n. nat_eq n 1) (bit_at_mask_below from 64 k below) ∙ sym (lt-leb from k below)
  | inr inside ↦ ap (λ n. nat_eq n 1) (bit_at_mask_inside from 64 k inside l) ∙ sym (le-leb from k inside)
]

ones_to : (to k : ℕ) → is_one (2 ^ to - 1) k ≡ nat_lt k to
ones_to to k = elim (cases_lt k to) [
  | inl below ↦ ap (λ n. nat_eq n 1) (bit_at_ones to k below) ∙ sym (lt-ltb k to below)
  | inr above ↦ ap (λ n. nat_eq n 1) (bit_at_ones_above to k above) ∙ sym (le-ltb k to above)
]

pub mask_between : (from to k : ℕ) → from ≤ 64 → to ≤ 64 → k < 64 →
    is_one (bit_and ((2 ^ 64 - 1) * 2 ^ from % 2 ^ 64) ((2 ^ 64 - 1) / 2 ^ (64 - to))) k ≡ is_between from to k
mask_between from to k low high l =
    let back : 64 - (64 - to) ≡ to = omega arith in
    (λ i. is_one (bit_and (ones_shl 64 from low i) (ones_shr 64 (64 - to) (omega arith) i)) k)
    ∙ one_and (2 ^ 64 - 2 ^ from) (2 ^ (64 - (64 - to)) - 1) k
    ∙ (λ i. ones_from from k l i && is_one (2 ^ (back i) - 1) k)
    ∙ ap (λ b. nat_le from k && b) (ones_to to k)
