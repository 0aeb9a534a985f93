-- What the fields behind a line's word are read as.
use Rattle.std.specs.Prelude.{ℕ, ◌-◌, ◌^◌, nat_lt, nat_abs, ℤ, pos, Bool, List, drop, Option, Some, None, Result, Ok, Err, option_and_then, if◌then◌else◌}
use Rattle.std.specs.Bool.{then_some}
use Rattle.eon_model.specs.Names.{Name}
use Rattle.eon_model.specs.Numerals.{is_within, is_number, number_value, is_signed, signed_value}
use Rattle.eon_model.specs.NetworkFault.{Fields}
use Rattle.eon_base.specs.Names.{name_of}
use Rattle.net_file.specs.Readings.{first_read, is_nil}
use Rattle.net_file.specs.declared.fault.Why.{Why}
use Rattle.net_file.specs.declared.fault.Why.TheVariants as why
use Rattle.net_file.specs.declared.line_words.FibreWords.{FibreWords}
use Rattle.net_file.specs.declared.line_words.FormatWords.{FormatWords}

infixl 10 ◌>>=◌
abbrev pub ◌>>=◌ : {A B : Type 0} → Option A → (A → Option B) → Option B
o >>= f = option_and_then f o

-- the number that the bytes spell, and no more than 2^64 - 1
abbrev pub capped : List ℕ → Option ℕ
capped bytes =
    if is_number bytes
    then Some (if nat_lt (number_value bytes) (2 ^ 64) then number_value bytes else 2 ^ 64 - 1)
    else None

-- the signed number that the bytes spell, or 2^63 - 1 where it is farther from 0
abbrev pub capped_signed : List ℕ → Option ℤ
capped_signed bytes =
    if is_signed bytes
    then Some (if nat_lt (nat_abs (signed_value bytes)) (2 ^ 63) then signed_value bytes else pos (2 ^ 63 - 1))
    else None

unfoldable pub one_number : Fields → Option ℕ
one_number fields = do
  n ← first_read capped fields
  then_some (is_nil (drop 1 fields)) n

-- of what was read or not, the value if it passes
abbrev pub ranged : {A : Type 0} → (A → Bool) → Option A → Result A Why
ranged test None = Err why.Form
ranged test (Some x) = if test x then Ok x else Err why.Range

unfoldable pub number_in : ℕ → ℕ → Fields → Result ℕ Why
number_in least most fields = ranged (is_within least most) (one_number fields)

unfoldable pub band_words : Fields → Option (ℤ × ℤ)
band_words fields = do
  lo ← first_read capped_signed fields
  hi ← first_read capped_signed (drop 1 fields)
  then_some (is_nil (drop 1 (drop 1 fields))) (lo, hi)

unfoldable pub format_words : Fields → Option FormatWords
format_words fields = do
  name ← first_read name_of fields
  reach ← first_read capped (drop 1 fields)
  per ← first_read capped (drop 1 (drop 1 fields))
  then_some (is_nil (drop 1 (drop 1 (drop 1 fields)))) (record { name = name; reach = reach; per = per })

unfoldable pub node_words : Fields → Option Name
node_words fields = do
  name ← first_read name_of fields
  then_some (is_nil (drop 1 fields)) name

unfoldable pub fibre_words : Fields → Option FibreWords
fibre_words fields = do
  name ← first_read name_of fields
  a ← first_read name_of (drop 1 fields)
  b ← first_read name_of (drop 1 (drop 1 fields))
  km ← first_read capped (drop 1 (drop 1 (drop 1 fields)))
  then_some (is_nil (drop 1 (drop 1 (drop 1 (drop 1 fields))))) (record { name = name; a = a; b = b; km = km })
