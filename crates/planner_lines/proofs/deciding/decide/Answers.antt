use Rattle.std.proofs.Common.{arith}
use Rattle.planner_lines.proofs.DecideLaws.{long-decided, fault-decided}
use Rattle.planner_lines.proofs.deciding.decide.Goals as goal

pub returns-then-line-gt-LONGEST_LINE-clause-decided : goal.returns-then-line-gt-LONGEST_LINE-clause-decided
returns-then-line-gt-LONGEST_LINE-clause-decided c =
    long-decided _ _ _ (omega (arith, c.if-line-gt-LONGEST_LINE.true))

pub returns-in-Err-clause-decided : goal.returns-in-Err-clause-decided
returns-in-Err-clause-decided c =
    fault-decided _ _ _ _ (omega (arith, c.if-line-gt-LONGEST_LINE.false)) c.in-Err.ensures.err.0 c.in-Err.ensures.err.1
