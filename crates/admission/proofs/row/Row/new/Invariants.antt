use Rattle.admission.proofs.GapLaws.{GapsTaken}
use Rattle.admission.proofs.row.Row.new.Given as goal

-- the gaps below this part are taken
abbrev pub invariant-loop-i : goal.invariant-loop-i
invariant-loop-i l = GapsTaken l.band l.row l.i
