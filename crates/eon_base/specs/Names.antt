-- Which bytes are read as a name, and where other bytes are at fault.
use Rattle.std.specs.Prelude.{ℕ, nat_lt, ◌==◌, not, List, length, position, Option, Some, None, if◌then◌else◌}
use Rattle.std.specs.Option.{option_map}
use Rattle.eon_model.specs.Names.{Name, is_name, is_name_byte}
use Rattle.eon_base.specs.declared.name.NameFault.{NameFault}
use Rattle.eon_base.specs.declared.name.NameFault.TheVariants.{Empty, Long, BadByte}

-- the name that the bytes are, if they are one
abbrev pub name_of : List ℕ → Option Name
name_of bytes = if is_name bytes then Some bytes else None

-- what keeps them from being a name: no byte, or too many, or the first that is not a name's
abbrev pub name_fault : List ℕ → Option NameFault
name_fault bytes =
    if length bytes == 0 then Some Empty
    else if nat_lt 32 (length bytes) then Some (Long (length bytes))
    else option_map BadByte (position (λ b. not (is_name_byte b)) bytes)
