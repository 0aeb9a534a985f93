-- The bits of words of 64 bits, and ranges of them.
use Rattle.std.specs.Prelude.{◌≡◌, ℕ, ◌==◌, ◌+◌, ◌*◌, ◌/◌, ◌%◌, ◌<◌, ◌≤◌, nat_le, nat_lt, Bool, true, false, ◌&&◌, ◌||◌, not, List, slice_index_or, Option, Some, None}
use Rattle.std.specs.Int.{bit_at}
use Rattle.std.specs.List.{list_any}

-- whether this bit of a word is 1
abbrev pub is_one : ℕ → ℕ → Bool
is_one word k = bit_at word k == 1

-- whether bit k of word j is 1, and none past the last word
abbrev pub word_bit : List ℕ → ℕ → ℕ → Bool
word_bit words j k = is_one (slice_index_or words j 0) k

-- whether the bit is 1, bits counted through all words
abbrev pub bit_of : List ℕ → ℕ → Bool
bit_of words i = word_bit words (i / 64) (i % 64)

-- whether the number is at least the first and below the end
abbrev pub is_between : ℕ → ℕ → ℕ → Bool
is_between first end i = nat_le first i && nat_lt i end

-- whether the bit lies in the range from first to end in one of these rows of 1,024 bits
abbrev pub is_on_rows : List ℕ → ℕ → ℕ → ℕ → Bool
is_on_rows rows first end i = list_any (λ row. is_between (1024 * row + first) (1024 * row + end) i) rows

-- It is the greatest number of the range that passes the test.
pub record IsHighest (test : ℕ → Bool) (first end top : ℕ) : Type 0 where
  pub low : first ≤ top
  pub high : top < end
  pub passes : test top ≡ true
  pub none_above : (i : ℕ) → top < i → i < end → test i ≡ false

-- it is the greatest one, or there is none
abbrev pub IsHighestOf : (ℕ → Bool) → ℕ → ℕ → Option ℕ → Type 0
IsHighestOf test first end None = (i : ℕ) → first ≤ i → i < end → test i ≡ false
IsHighestOf test first end (Some top) = IsHighest test first end top

-- It tells whether no number of the range passes the test.
pub record TellsClear (test : ℕ → Bool) (first end : ℕ) (told : Bool) : Type 0 where
  pub none : told ≡ true → (i : ℕ) → first ≤ i → i < end → test i ≡ false
  pub some : told ≡ false → (i : ℕ) × ((first ≤ i) × ((i < end) × (test i ≡ true)))

-- whether a bit is 1 in one of both
abbrev pub bit_of_either : List ℕ → List ℕ → ℕ → Bool
bit_of_either a b i = bit_of a i || bit_of b i

-- Each bit is 1 exactly where the count of its place is not 0.
pub record AreHeld (held counts : List ℕ) : Type 0 where
  pub where_counted : (i : ℕ) → bit_of held i ≡ not (slice_index_or counts i 0 == 0)
