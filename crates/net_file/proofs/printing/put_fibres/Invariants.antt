use Rattle.eon_model.specs.NetworkText.{fibre_line}
use Rattle.eon_model.specs.Network.{fibre_at}
use Rattle.line_writer.specs.Sent.{Takes}
use Rattle.net_file.specs.PrintWords.{each_below}
use Rattle.net_file.proofs.printing.put_fibres.Given as goal

abbrev pub invariant-loop-i : goal.invariant-loop-i
invariant-loop-i g l =
    Takes (g.W.TextSink.sent l.fn.out) (g.W.TextSink.sent l.out) (each_below (λ i. fibre_line l.net.nodes (fibre_at l.net.fibres i)) l.i)
