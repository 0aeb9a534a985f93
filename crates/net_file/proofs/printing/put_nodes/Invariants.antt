use Rattle.eon_model.specs.NetworkText.{node_line}
use Rattle.eon_model.specs.Network.{name_at}
use Rattle.line_writer.specs.Sent.{Takes}
use Rattle.net_file.specs.PrintWords.{each_below}
use Rattle.net_file.proofs.printing.put_nodes.Given as goal

abbrev pub invariant-loop-i : goal.invariant-loop-i
invariant-loop-i g l =
    Takes (g.W.TextSink.sent l.fn.out) (g.W.TextSink.sent l.out) (each_below (λ i. node_line (name_at l.net.nodes i)) l.i)
