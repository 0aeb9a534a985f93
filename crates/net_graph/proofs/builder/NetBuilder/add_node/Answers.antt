use Rattle.std.proofs.Common.{sym, ◌∙◌, ap, arith, ◌<◌, length}
use Rattle.std.specs.Result.{is_ok}
use Rattle.eon_model.proofs.Members.{map-itself}
use Rattle.net_graph.specs.Graph.{comes_after}
use Rattle.net_graph.proofs.BuildLemmas.{kept-with_node}
use Rattle.net_graph.proofs.builder.NetBuilder.add_node.Goals as goal

pub invariant_of-self : goal.invariant_of-self
invariant_of-self c =
    let nodes = c.self.inside.nodes.items in
    let few : length nodes < 64 = omega (arith, ap length c.deref.ensures.value, c.deref.ensures.len) in
    kept-with_node nodes c.self.inside.rows.items c.self.inside.groups.items c.args.name
    (is_ok c.push.result) c.push.new.self.items c.self.invariant few
    c.is_above_last.ensures.name
    (ap (λ ns. comes_after ns c.args.name) (sym (c.deref.ensures.value) ∙ sym (map-itself c.deref.result.now))
    ∙ sym c.is_above_last.ensures.above ∙ c.if-not-is_above_last.false)
    c.push.ensures.items
