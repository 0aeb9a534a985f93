use Rattle.std.proofs.Common.{refl, arith}
use Rattle.room_lines.proofs.SettingSteps.{long_decides, fault_decides}
use Rattle.room_lines.proofs.answering.reply_to.Goals as goal

pub returns-then-line-gt-LONGEST_LINE : goal.returns-then-line-gt-LONGEST_LINE
returns-then-line-gt-LONGEST_LINE c = long_decides _ _ _ (omega (arith, c.if-line-gt-LONGEST_LINE.true)) refl

pub returns-in-Err : goal.returns-in-Err
returns-in-Err c =
    fault_decides _ _ _ (omega (arith, c.if-line-gt-LONGEST_LINE.false)) c.in-Err.ensures.err.0 c.in-Err.ensures.err.1
