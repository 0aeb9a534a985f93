use Rattle.std.proofs.Common.{◌≡◌, ◌∙◌, ap, ◌*◌, length, arith}
use Rattle.std.specs.FinSet as set
use Rattle.net_graph.specs.Words.{bits_in}
use Rattle.net_graph.proofs.WordLemmas.{bits_in-with_bit}
use Rattle.net_graph.proofs.sets.FibreSet.with.Goals as goal

pub returns : goal.returns
returns c =
    let words = c.self.inside.words in
    let size : 128 ≡ 64 * length words = omega (arith, c.self.invariant) in
    ap (bits_in 128) c.set_bit.ensures ∙ bits_in-with_bit 128 words c.args.fibre size c.requires
    ∙ ap (λ s. set.insert s c.args.fibre) c.self.view_is
