-- The names of the fibres so far were taken.
use Rattle.std.proofs.Common.{take}
use Rattle.eon_model.specs.Network.{names_of_fibres}
use Rattle.eon_model.specs.Spelling.{fibre_list}
use Rattle.line_writer.specs.Sent.{Takes}
use Rattle.live_failure.proofs.paths.put_list.Given as goal

abbrev pub invariant-loop-i : goal.invariant-loop-i
invariant-loop-i g l = Takes (g.W.TextSink.sent l.initial.out) (g.W.TextSink.sent l.out)
    (fibre_list (names_of_fibres l.net.fibres (take l.i l.fibres)))
