use Rattle.net_file.specs.PrintWords.{member_text}
use Rattle.line_writer.specs.Sent.{Takes}
use Rattle.net_file.specs.PrintWords.{each_below}
use Rattle.net_file.proofs.printing.put_members.Given as goal

abbrev pub invariant-loop-fibre : goal.invariant-loop-fibre
invariant-loop-fibre g l =
    Takes (g.W.TextSink.sent l.fn.out) (g.W.TextSink.sent l.out) (each_below (member_text l.net l.group) l.fibre)
