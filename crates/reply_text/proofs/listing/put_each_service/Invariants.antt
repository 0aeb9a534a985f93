-- The lines of the services so far were taken.
use Rattle.std.proofs.Common.{take}
use Rattle.std.specs.List.{flat_map}
use Rattle.eon_model.specs.ReplyText.{service_line}
use Rattle.line_writer.specs.Sent.{Takes}
use Rattle.reply_text.proofs.listing.put_each_service.Given as goal

abbrev pub invariant-loop-i : goal.invariant-loop-i
invariant-loop-i g l = Takes (g.W.TextSink.sent l.initial.out) (g.W.TextSink.sent l.out)
    (flat_map (service_line l.setup.network) (take l.i l.services.list))
