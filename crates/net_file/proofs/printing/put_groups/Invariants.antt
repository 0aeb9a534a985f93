use Rattle.eon_model.specs.NetworkText.{group_line}
use Rattle.net_file.specs.PrintWords.{group_at}
use Rattle.line_writer.specs.Sent.{Takes}
use Rattle.net_file.specs.PrintWords.{each_below}
use Rattle.net_file.proofs.printing.put_groups.Given as goal

abbrev pub invariant-loop-i : goal.invariant-loop-i
invariant-loop-i g l =
    Takes (g.W.TextSink.sent l.fn.out) (g.W.TextSink.sent l.out) (each_below (λ i. group_line l.net.fibres (group_at l.net.groups i)) l.i)
