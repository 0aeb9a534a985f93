-- Each number has one spelling.
use Rattle.std.specs.Prelude.{◌≡◌, ℕ, ◌^◌, ◌<◌, nat_abs, ℤ, ◌↔◌, List, Some}
use Rattle.std.specs.Fmt.{decimal, signed_decimal}
use Rattle.eon_base.specs.Numbers.{number_of, integer_of}

-- what is read as a number is the number's spelling, and the spelling is read as the number
abbrev pub OneSpelling : Type 0
OneSpelling = (v : ℕ) (bytes : List ℕ) → v < 2 ^ 64 → (number_of bytes ≡ Some v) ↔ (bytes ≡ decimal v)

-- the same of signed numbers
abbrev pub OneSignedSpelling : Type 0
OneSignedSpelling =
    (z : ℤ) (bytes : List ℕ) → nat_abs z < 2 ^ 63 → (integer_of bytes ≡ Some z) ↔ (bytes ≡ signed_decimal z)
