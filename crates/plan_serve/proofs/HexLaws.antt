-- The digits of base 16, as the program writes them.
use Rattle.std.proofs.Common.{◌≡◌, refl, ℕ, zero, suc, ◌/◌, ◌%◌, ◌<◌, ◌==◌, Bool, true, ◌&&◌, inl, inr, List, [], ◌∷◌, slice_index, arith}
use Rattle.std.proofs.lemmas.Bool.{and_parts, cases_lt, eqb-true}
use Rattle.eon_model.specs.TopLines.{hex, hex_digit}
use Rattle.hex.specs.Hex.{IsBytes, encode_lower, encode_with, lower_digits}

-- the test of one digit, and of the first n
abbrev is_digit : ℕ → Bool
is_digit d = slice_index lower_digits d == hex_digit d

abbrev are_digits : ℕ → Bool
are_digits zero = true
are_digits (suc n) = is_digit n && are_digits n

one_of : (n d : ℕ) → are_digits n ≡ true → d < n → is_digit d ≡ true
one_of zero d h low = absurd (omega arith)
one_of (suc n) d h low =
    let parts = and_parts (is_digit n) (are_digits n) h in
    elim (cases_lt d n) [
      | inl below ↦ one_of n d parts.1 below
      | inr top ↦
          let e : d ≡ n = omega arith in
          rw e parts.0
    ]

digit_is : (d : ℕ) → d < 16 → slice_index lower_digits d ≡ hex_digit d
digit_is d low = eqb-true (slice_index lower_digits d) (hex_digit d) (one_of 16 d refl low)

two_digits : (a b c d : ℕ) (xs ys : List ℕ) → a ≡ c → b ≡ d → xs ≡ ys → a ∷ b ∷ xs ≡ c ∷ d ∷ ys
two_digits a b c d xs ys p q r = cc

-- those of the crate `hex` are those of the planner's definitions
pub digits_are : (bytes : List ℕ) → IsBytes bytes → encode_lower bytes ≡ hex bytes
unfolding encode_with
digits_are [] h = refl
digits_are (b ∷ bytes) h =
    let low : b < 256 = h 0 in
    two_digits (slice_index lower_digits (b / 16)) (slice_index lower_digits (b % 16)) (hex_digit (b / 16))
    (hex_digit (b % 16)) (encode_lower bytes) (hex bytes) (digit_is (b / 16) (omega (arith, low)))
    (digit_is (b % 16) (omega arith)) (digits_are bytes (λ i. h (suc i)))
