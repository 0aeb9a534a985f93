-- What the services so far have lit was taken.
use Rattle.std.proofs.Common.{take}
use Rattle.std.specs.List.{flat_map}
use Rattle.eon_model.specs.LiveFailure.{lit_by_service}
use Rattle.eon_model.specs.LiveReplies.{light_line}
use Rattle.line_writer.specs.Sent.{Takes}
use Rattle.live_failure.proofs.lighting.put_services.Given as goal

abbrev pub invariant-loop-i : goal.invariant-loop-i
invariant-loop-i g l = Takes (g.W.TextSink.sent l.initial.out) (g.W.TextSink.sent l.out)
    (flat_map (λ s. flat_map (light_line l.setup.network) (lit_by_service l.failed s)) (take l.i l.services.list))
