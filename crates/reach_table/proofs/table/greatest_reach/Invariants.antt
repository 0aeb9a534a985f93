use Rattle.std.proofs.Common.{◌≡◌, take}
use Rattle.eon_model.specs.Candidates.{max_reach}
use Rattle.reach_table.proofs.table.greatest_reach.Given as goal

abbrev pub invariant-loop-row : goal.invariant-loop-row
invariant-loop-row l = l.reach ≡ max_reach (take l.row-index l.rows)
