use Rattle.std.proofs.Common.{◌≡◌, sym, ◌∙◌, ◌*◌, length, arith}
use Rattle.eon_model.specs.Sets.{meets}
use Rattle.net_graph.proofs.WordLemmas.{meets-bits}
use Rattle.net_graph.proofs.sets.FibreSet.meets.Goals as goal

pub returns : goal.returns
returns c =
    let a = c.self.inside.words in
    let b = c.other.inside.words in
    let size_a : 128 ≡ 64 * length a = omega (arith, c.self.invariant) in
    let size_b : 128 ≡ 64 * length b = omega (arith, c.other.invariant) in
    c.words_meet.ensures.common ∙ sym (meets-bits 128 a b size_a size_b c.words_meet.ensures.in_range)
    ∙ (λ i. meets (c.self.view_is i) (c.other.view_is i))
