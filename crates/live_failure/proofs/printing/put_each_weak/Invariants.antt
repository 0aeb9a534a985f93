-- The lines so far were taken.
use Rattle.std.proofs.Common.{map, take}
use Rattle.std.specs.List.{flat_map}
use Rattle.eon_model.specs.LiveReplies.{weak_line}
use Rattle.line_writer.specs.Sent.{Takes}
use Rattle.live_failure.specs.Replied.{weak_told}
use Rattle.live_failure.proofs.printing.put_each_weak.Given as goal

abbrev pub invariant-loop-one : goal.invariant-loop-one
invariant-loop-one g l = Takes (g.W.TextSink.sent l.fn.out) (g.W.TextSink.sent l.out)
    (flat_map (weak_line l.net) (map weak_told (take l.one-index l.weak)))
