use Rattle.reach_table.proofs.BestLaws.{IsBest}
use Rattle.reach_table.proofs.table.best_row.Given as goal

abbrev pub invariant-loop-i : goal.invariant-loop-i
invariant-loop-i l = IsBest l.rows l.km l.i l.best l.most
