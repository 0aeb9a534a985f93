-- Which numbers of 64 bits bytes are read as, and why other bytes are not.
use Rattle.std.specs.Prelude.{ℕ, ◌^◌, nat_lt, nat_abs, ℤ, Bool, ◌&&◌, List, Option, Some, None, Result, Ok, Err, if◌then◌else◌}
use Rattle.eon_model.specs.Numerals.{is_number, number_value, is_signed, signed_value}
use Rattle.eon_base.specs.declared.number.NumFault.{NumFault}
use Rattle.eon_base.specs.declared.number.NumFault.TheVariants.{Form, Big}

-- a value that is spelled well and in range
abbrev pub bounded : {X : Type 0} → Bool → Bool → X → Result X NumFault
bounded formed fits value = if formed then (if fits then Ok value else Err Big) else Err Form

-- the answer to bytes: a number from 0 to 2^64 - 1
abbrev pub read_number : List ℕ → Result ℕ NumFault
read_number bytes = bounded (is_number bytes) (nat_lt (number_value bytes) (2 ^ 64)) (number_value bytes)

-- the answer to bytes: a number from -(2^63 - 1) to 2^63 - 1
abbrev pub read_integer : List ℕ → Result ℤ NumFault
read_integer bytes =
    bounded (is_signed bytes) (nat_lt (nat_abs (signed_value bytes)) (2 ^ 63)) (signed_value bytes)

-- the number that the bytes are, if they are one
abbrev pub number_of : List ℕ → Option ℕ
number_of bytes =
    if is_number bytes && nat_lt (number_value bytes) (2 ^ 64) then Some (number_value bytes) else None

-- the signed number that the bytes are, if they are one
abbrev pub integer_of : List ℕ → Option ℤ
integer_of bytes =
    if is_signed bytes && nat_lt (nat_abs (signed_value bytes)) (2 ^ 63) then Some (signed_value bytes)
    else None
