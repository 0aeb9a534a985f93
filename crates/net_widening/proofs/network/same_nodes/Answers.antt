use Rattle.std.proofs.Common.{sym, ◌∙◌, [], arith}
use Rattle.eon_model.specs.Names.{same_name}
use Rattle.net_widening.proofs.SameLists.{stands-at, same-here, other-here}
use Rattle.net_widening.proofs.network.same_nodes.Goals as goal

pub returns-then-not-same_name : goal.returns-then-not-same_name
returns-then-not-same_name c =
    let a = c.nodes.ensures.count in
    let b = c.nodes-2.ensures.count in
    let n = c.nodes-i-end.ensures.count in
    let same = c.if-nodes.false in
    let more = c.loop-i-test.true in
    let x = c.node_name.result in
    let y = c.node_name-in-loop-i.result in
    other-here same_name c.args.net.now.nodes c.args.other.now.nodes c.loop-i.i x y c.loop-i.invariant
    (stands-at c.args.net.now.nodes c.loop-i.i [] x (omega arith) c.node_name.ensures)
    (stands-at c.args.other.now.nodes c.loop-i.i [] y (omega arith) c.node_name-in-loop-i.ensures)
    (sym c.same_name.ensures ∙ c.if-not-same_name.true)

pub loop-i-preserved : goal.loop-i-preserved
loop-i-preserved c =
    let a = c.nodes.ensures.count in
    let b = c.nodes-2.ensures.count in
    let n = c.nodes-i-end.ensures.count in
    let same = c.if-nodes.false in
    let more = c.loop-i-test.true in
    let x = c.node_name.result in
    let y = c.node_name-in-loop-i.result in
    same-here same_name c.args.net.now.nodes c.args.other.now.nodes c.loop-i.i x y c.loop-i.invariant
    (stands-at c.args.net.now.nodes c.loop-i.i [] x (omega arith) c.node_name.ensures)
    (stands-at c.args.other.now.nodes c.loop-i.i [] y (omega arith) c.node_name-in-loop-i.ensures)
    (sym c.same_name.ensures ∙ c.if-not-same_name.false)
