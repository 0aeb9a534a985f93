-- What single fields of a line are read as.
use Rattle.std.specs.Prelude.{ℕ, ℤ, Bool, false, List, bytes_eq, slice_get, Option, None, if◌then◌else◌}
use Rattle.std.specs.Bool.{then_some}
use Rattle.std.specs.Option.{option_and_then, option_map_or}
use Rattle.eon_model.specs.Numerals.{is_within}
use Rattle.eon_model.specs.CommandText.{is_centre}
use Rattle.eon_model.specs.NetworkFault.{Fields}
use Rattle.eon_base.specs.Numbers.{number_of, integer_of}

-- what is read next, of what was read before
infixl 10 ◌>>=◌
abbrev pub ◌>>=◌ : {A B : Type 0} → Option A → (A → Option B) → Option B
o >>= f = option_and_then f o

-- what was read, where the test passes
abbrev pub guarded : {A : Type 0} → Bool → Option A → Option A
guarded test o = if test then o else None

-- the value, where it passes
abbrev pub kept : {A : Type 0} → (A → Bool) → Option A → Option A
kept test o = option_and_then (λ x. then_some (test x) x) o

-- the number that the bytes spell, where it lies between the two
abbrev pub number_within : ℕ → ℕ → List ℕ → Option ℕ
number_within least most field = kept (is_within least most) (number_of field)

-- the centre that the bytes spell
abbrev pub centre_of : List ℕ → Option ℤ
centre_of field = kept is_centre (integer_of field)

-- whether the first field is this word
abbrev pub is_first : List ℕ → Fields → Bool
is_first word fields = option_map_or (λ field. bytes_eq field word) (slice_get fields 0) false
