use Rattle.std.proofs.Common.{◌≡◌, sym, ◌∙◌, ap, ◌*◌, length, arith}
use Rattle.std.specs.FinSet as set
use Rattle.net_graph.proofs.WordLemmas.{contains-bits}
use Rattle.net_graph.proofs.sets.NodeSet.has.Goals as goal

pub returns : goal.returns
returns c =
    let words = c.self.inside.words in
    let size : 64 ≡ 64 * length words = omega (arith, c.self.invariant) in
    c.bit_is_set.ensures ∙ sym (contains-bits 64 words c.args.node size)
    ∙ ap (λ s. set.contains s c.args.node) c.self.view_is
