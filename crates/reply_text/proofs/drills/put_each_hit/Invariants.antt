-- The lines of the hits so far were taken.
use Rattle.std.proofs.Common.{take}
use Rattle.std.specs.List.{flat_map}
use Rattle.eon_model.specs.ReplyText.{hit_line}
use Rattle.line_writer.specs.Sent.{Takes}
use Rattle.reply_text.proofs.drills.put_each_hit.Given as goal

abbrev pub invariant-loop-i : goal.invariant-loop-i
invariant-loop-i g l = Takes (g.W.TextSink.sent l.initial.out) (g.W.TextSink.sent l.out)
    (flat_map (hit_line l.setup.network) (take l.i l.hits))
