use Rattle.sharing_rows.specs.Backups.{IsBelow}
use Rattle.sharing_rows.proofs.backups.risk_of.Given as goal

-- the groups so far are among the first so many
abbrev pub invariant-loop-number : goal.invariant-loop-number
invariant-loop-number l = IsBelow l.groups l.risk
