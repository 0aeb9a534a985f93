-- How many events may come yet.
use Rattle.journal_rows.proofs.opened.+read_to_gate.Given as goal

abbrev pub decreases-read_to_gate : goal.decreases-read_to_gate
decreases-read_to_gate g l = l.most
