use Rattle.std.proofs.Common.{[], ap, length, arith}
use Rattle.eon_model.specs.NetworkText.{node_line}
use Rattle.eon_model.specs.Network.{name_at}
use Rattle.line_writer.proofs.TakesLaws.{takes-none, takes-same}
use Rattle.net_file.proofs.PrintNumbers.{below-taken, below-end, below-all}
use Rattle.net_file.proofs.printing.put_nodes.Goals as goal

pub loop-i-init : goal.loop-i-init
loop-i-init g c = takes-none _

pub loop-i-preserved : goal.loop-i-preserved
loop-i-preserved g c =
    below-taken _ _ _ (λ i. node_line (name_at c.args.net.now.nodes i)) c.loop-i.i c.loop-i.invariant
    (takes-same _ _ _ _ (ap node_line c.node_name.ensures) c.put_node.ensures)

pub returns : goal.returns
returns g c =
    let count = c.nodes-i-end.ensures.count in
    let past = c.loop-i-test.false in
    let end = c.loop-i.auto.i-end in
    below-end _ _ (λ i. node_line (name_at c.args.net.now.nodes i)) c.loop-i.i (length c.args.net.now.nodes) _ (omega arith)
    (below-all node_line [] c.args.net.now.nodes) c.loop-i.invariant
