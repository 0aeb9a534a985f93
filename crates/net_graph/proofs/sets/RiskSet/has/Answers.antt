use Rattle.std.proofs.Common.{◌≡◌, sym, ◌∙◌, ap, ◌*◌, length, arith}
use Rattle.std.specs.FinSet as set
use Rattle.net_graph.proofs.WordLemmas.{contains-bits}
use Rattle.net_graph.proofs.sets.RiskSet.has.Goals as goal

pub returns : goal.returns
returns c =
    let words = c.self.inside.words in
    let size : 256 ≡ 64 * length words = omega (arith, c.self.invariant) in
    c.bit_is_set.ensures ∙ sym (contains-bits 256 words c.args.risk size)
    ∙ ap (λ s. set.contains s c.args.risk) c.self.view_is
