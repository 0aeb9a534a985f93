use Rattle.admission.proofs.RunLaws.{RunTo}
use Rattle.admission.proofs.row.first_run.Given as goal

-- the run of free places right before this one
abbrev pub invariant-loop-place : goal.invariant-loop-place
invariant-loop-place l = RunTo l.taken l.width l.place l.run
