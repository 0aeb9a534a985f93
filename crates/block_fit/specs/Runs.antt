-- Runs of places that are not marked.
use Rattle.std.specs.Prelude.{◌≡◌, ℕ, zero, suc, ◌+◌, ◌-◌, ◌*◌, ◌<◌, nat_le, nat_lt, Bool, true, false, ◌||◌, List, length, Option, Some, None, if◌then◌else◌}
use Rattle.spectrum_map.specs.Bits.{is_one, bit_of}

-- whether the place is marked; there is none past the last word, which counts as marked
abbrev pub is_marked : List ℕ → ℕ → Bool
is_marked words i = nat_le (64 * length words) i || bit_of words i

-- whether one of so many places from here on is marked
abbrev pub is_marked_from : List ℕ → ℕ → ℕ → Bool
is_marked_from words i zero = false
is_marked_from words i (suc n) = is_marked words i || is_marked_from words (i + 1) n

-- whether the bit is 1 in two words that stand one behind the other
abbrev pub bit_of_two : ℕ → ℕ → ℕ → Bool
bit_of_two low high i = if nat_lt i 64 then is_one low i else is_one high (i - 64)

-- No lower place is unmarked, and it is.
pub record IsLowestPlace (words : List ℕ) (place : ℕ) : Type 0 where
  pub unmarked : is_marked words place ≡ false
  pub lowest : (i : ℕ) → i < place → is_marked words i ≡ true

-- it is the lowest one, or there is none
abbrev pub IsLowestUnmarked : List ℕ → Option ℕ → Type 0
IsLowestUnmarked words None = (i : ℕ) → is_marked words i ≡ true
IsLowestUnmarked words (Some place) = IsLowestPlace words place

-- So many places from it on are unmarked, and those from no lower place are.
pub record IsLowestBlock (words : List ℕ) (len place : ℕ) : Type 0 where
  pub unmarked : is_marked_from words place len ≡ false
  pub lowest : (i : ℕ) → i < place → is_marked_from words i len ≡ true

-- it is the lowest such place, or there is none
abbrev pub IsLowestRun : List ℕ → ℕ → Option ℕ → Type 0
IsLowestRun words len None = (i : ℕ) → is_marked_from words i len ≡ true
IsLowestRun words len (Some place) = IsLowestBlock words len place
