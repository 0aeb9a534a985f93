use Rattle.std.proofs.Common.{◌≡◌, ◌∙◌, ◌*◌, length, arith}
use Rattle.std.specs.FinSet as set
use Rattle.net_graph.proofs.WordLemmas.{bits_in-joined}
use Rattle.net_graph.proofs.sets.RiskSet.join.Goals as goal

pub returns : goal.returns
returns c =
    let a = c.self.inside.words in
    let b = c.other.inside.words in
    let size : 256 ≡ 64 * length a = omega (arith, c.self.invariant) in
    let same : length b ≡ length a = omega (arith, c.self.invariant, c.other.invariant) in
    bits_in-joined 256 a b c.join_words.new.words size same c.join_words.ensures.len
    c.join_words.ensures.joined
    ∙ (λ i. set.union (c.self.view_is i) (c.other.view_is i))
