use Rattle.std.proofs.Common.{length, arith}
use Rattle.eon_model.specs.NetworkText.{group_line}
use Rattle.net_file.specs.PrintWords.{no_group, group_at}
use Rattle.line_writer.proofs.TakesLaws.{takes-none}
use Rattle.net_file.proofs.PrintNumbers.{below-taken, below-end, below-all}
use Rattle.net_file.proofs.printing.put_groups.Goals as goal

pub loop-i-init : goal.loop-i-init
loop-i-init g c = takes-none _

pub loop-i-preserved : goal.loop-i-preserved
loop-i-preserved g c =
    below-taken _ _ _ (λ i. group_line c.args.net.now.fibres (group_at c.args.net.now.groups i)) c.loop-i.i c.loop-i.invariant
    (c.put_group.ensures)

pub returns : goal.returns
returns g c =
    let count = c.groups-i-end.ensures.count in
    let past = c.loop-i-test.false in
    let end = c.loop-i.auto.i-end in
    below-end _ _ (λ i. group_line c.args.net.now.fibres (group_at c.args.net.now.groups i)) c.loop-i.i (length c.args.net.now.groups) _ (omega arith)
    (below-all (group_line c.args.net.now.fibres) no_group c.args.net.now.groups) c.loop-i.invariant
