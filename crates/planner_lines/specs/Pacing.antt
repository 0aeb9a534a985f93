-- When the replies that are held back are given.
use Rattle.std.specs.Prelude.{Bool, true, false}
use Rattle.planner_lines.specs.declared.giving.Pace.{Pace}
use Rattle.planner_lines.specs.declared.giving.Pace.TheVariants.{InLargePieces, BeforeChanges}

-- whether they are given before a change is kept
abbrev pub gives_first : Pace → Bool
gives_first InLargePieces = false
gives_first BeforeChanges = true
