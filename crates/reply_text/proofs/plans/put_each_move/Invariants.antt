-- The lines of the moves so far were taken.
use Rattle.std.proofs.Common.{take}
use Rattle.std.specs.List.{flat_map}
use Rattle.eon_model.specs.ReplyText.{move_line}
use Rattle.compact_plan.specs.Told.{moves_told}
use Rattle.line_writer.specs.Sent.{Takes}
use Rattle.reply_text.proofs.plans.put_each_move.Given as goal

abbrev pub invariant-loop-i : goal.invariant-loop-i
invariant-loop-i g l = Takes (g.W.TextSink.sent l.initial.out) (g.W.TextSink.sent l.out)
    (flat_map move_line (take l.i (moves_told l.moves)))
