use Rattle.std.proofs.Common.{refl, arith}
use Rattle.plan_serve.proofs.DecideLaws.{long_decides, fault_decides}
use Rattle.plan_serve.proofs.answering.reply_to.Goals as goal

pub returns-then-line-gt-LONGEST_LINE-clause-decides :
    goal.returns-then-line-gt-LONGEST_LINE-clause-decides
returns-then-line-gt-LONGEST_LINE-clause-decides c =
    long_decides _ _ _ _ (omega (arith, c.if-line-gt-LONGEST_LINE.true)) refl

pub returns-in-Err-clause-decides : goal.returns-in-Err-clause-decides
returns-in-Err-clause-decides c =
    fault_decides _ _ _ _ (omega (arith, c.if-line-gt-LONGEST_LINE.false)) c.in-Err.ensures.err.0 c.in-Err.ensures.err.1
