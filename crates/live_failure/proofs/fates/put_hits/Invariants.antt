-- What becomes of the services so far was taken.
use Rattle.std.proofs.Common.{take}
use Rattle.std.specs.List.{flat_map}
use Rattle.eon_model.specs.LiveReplies.{fate_line}
use Rattle.line_writer.specs.Sent.{Takes}
use Rattle.live_failure.specs.Parts.{fates_by}
use Rattle.live_failure.proofs.fates.put_hits.Given as goal

abbrev pub invariant-loop-i : goal.invariant-loop-i
invariant-loop-i g l = Takes (g.W.TextSink.sent l.initial.out) (g.W.TextSink.sent l.out)
    (flat_map (λ s. flat_map (fate_line l.setup.network) (fates_by l.group s)) (take l.i l.services.list))
