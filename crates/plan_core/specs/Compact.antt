-- Which command asks for the plan.
use Rattle.std.specs.Prelude.{Bool, true, false}
use Rattle.eon_model.specs.Commands.{Command}

-- whether it asks for the plan
abbrev pub is_compact : Command → Bool
is_compact Command.Compact = true
is_compact _ = false
