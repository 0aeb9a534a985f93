-- The lines of the routes so far were taken.
use Rattle.std.proofs.Common.{take}
use Rattle.eon_model.specs.ReplyText.{route_lines}
use Rattle.line_writer.specs.Sent.{Takes}
use Rattle.reply_text.proofs.listing.put_each_route.Given as goal

abbrev pub invariant-loop-i : goal.invariant-loop-i
invariant-loop-i g l = Takes (g.W.TextSink.sent l.initial.out) (g.W.TextSink.sent l.out) (route_lines l.setup 1 (take l.i l.routes))
