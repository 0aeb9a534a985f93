use Rattle.std.proofs.Common.{◌≡◌, ◌∙◌, ap, ◌*◌, length, arith}
use Rattle.std.specs.FinSet as set
use Rattle.net_graph.specs.Words.{bits_in}
use Rattle.net_graph.proofs.WordLemmas.{bits_in-with_bit}
use Rattle.net_graph.proofs.sets.NodeSet.with.Goals as goal

pub returns : goal.returns
returns c =
    let words = c.self.inside.words in
    let size : 64 ≡ 64 * length words = omega (arith, c.self.invariant) in
    ap (bits_in 64) c.set_bit.ensures ∙ bits_in-with_bit 64 words c.args.node size c.requires
    ∙ ap (λ s. set.insert s c.args.node) c.self.view_is
