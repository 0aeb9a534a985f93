-- Sets of numbers as the bits of words of 64 bits.
use Rattle.std.specs.Prelude.{ℕ, ◌==◌, ◌/◌, ◌%◌, ◌^◌, Bool, not, List, filter, slice_index, slice_set, bit_and, bit_or}
use Rattle.std.specs.Int.{bit_at}
use Rattle.std.specs.List.{list_any, range_with_len, zip}
use Rattle.eon_model.specs.Sets.{NumberSet, set_of}

-- whether bit i of the words is 1
abbrev pub has_bit : List ℕ → ℕ → Bool
has_bit words i = bit_at (slice_index words (i / 64)) (i % 64) == 1

-- the words with bit i made 1
abbrev pub with_bit : List ℕ → ℕ → List ℕ
with_bit words i = slice_set words (i / 64) (bit_or (slice_index words (i / 64)) (2 ^ (i % 64)))

-- whether some bit is 1 in both
abbrev pub words_meet : List ℕ → List ℕ → Bool
words_meet a b = list_any (λ p. not (bit_and p.0 p.1 == 0)) (zip a b)

-- the numbers below n whose bit is 1
abbrev pub bits_in : ℕ → List ℕ → NumberSet
bits_in n words = set_of (filter (has_bit words) (range_with_len 0 n))
