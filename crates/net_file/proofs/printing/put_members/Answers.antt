use Rattle.std.proofs.Common.{length, arith}
use Rattle.net_file.specs.PrintWords.{member_text}
use Rattle.line_writer.proofs.TakesLaws.{takes-none}
use Rattle.net_file.proofs.PrintNumbers.{below-taken, below-end}
use Rattle.net_file.proofs.PrintGroups.{members-all}
use Rattle.net_file.proofs.printing.put_members.Goals as goal

pub loop-fibre-init : goal.loop-fibre-init
loop-fibre-init g c = takes-none _

pub loop-fibre-preserved : goal.loop-fibre-preserved
loop-fibre-preserved g c =
    below-taken _ _ _ (member_text c.args.net.now c.args.group) c.loop-fibre.fibre c.loop-fibre.invariant
    (c.put_member.ensures)

pub returns : goal.returns
returns g c =
    let count = c.fibres-fibre-end.ensures.count in
    let past = c.loop-fibre-test.false in
    let end = c.loop-fibre.auto.fibre-end in
    below-end _ _ (member_text c.args.net.now c.args.group) c.loop-fibre.fibre (length c.args.net.now.fibres) _ (omega arith)
    (members-all c.args.net.now c.args.group c.fibres-fibre-end.ensures.graph c.requires) c.loop-fibre.invariant
