-- What holds of all commands and lines.
use Rattle.std.specs.Prelude.{◌≡◌, ℕ, List, IsTrue}
use Rattle.eon_model.specs.Commands.{Command}
use Rattle.eon_model.specs.CommandText.{command_text, is_command, IsLineOf, IsFaultPlace}

-- what is printed of a command in range is its line, and the line of no other command
abbrev pub PrintedIsRead : Type 0
PrintedIsRead =
    (c : Command) → IsTrue (is_command c) →
    IsLineOf (command_text c) c × ((d : Command) → IsLineOf (command_text c) d → d ≡ c)

-- a line has at most one fault place
abbrev pub OneFaultPlace : Type 0
OneFaultPlace = (line : List ℕ) (p q : ℕ) → IsFaultPlace line p → IsFaultPlace line q → p ≡ q
