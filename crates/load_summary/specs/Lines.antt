-- The lines of a summary, by what was counted.
use Rattle.std.specs.Prelude.{ℕ, List, ◌++◌, codes}
use Rattle.eon_model.specs.DriveSummary.{count_line}
use Rattle.eon_model.specs.Replies.{Totals}
use Rattle.load_summary.specs.declared.tally.Tally.{Tally}

-- those of the replies
abbrev pub counted_lines : Tally → List ℕ
counted_lines t =
    count_line (codes "ok") t.ok ++ count_line (codes "blocked") t.blocked ++ count_line (codes "noroute") t.noroute
    ++ count_line (codes "memory") t.memory ++ count_line (codes "other") t.other

-- those of the state at the end
abbrev pub held_lines : Totals → List ℕ
held_lines t = count_line (codes "live") t.services ++ count_line (codes "lit") t.lit ++ count_line (codes "held") t.held
