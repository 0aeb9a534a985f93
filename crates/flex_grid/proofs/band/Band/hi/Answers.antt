use Rattle.std.proofs.Common.{◌≡◌, ◌∙◌, sym, ap, ◌-◌, length, slice_index_or, to_z, of_z, w16, arith}
use Rattle.std.proofs.lemmas.Int.{ints}
use Rattle.flex_grid.proofs.BandFacts.{span_end}
use Rattle.flex_grid.proofs.band.Band.hi.Goals as goal

pub returns-clause-value : goal.returns-clause-value
returns-clause-value c =
    let q = c.index-parts-parts.result in
    let at = c.index-parts-parts.is ∙ ap (λ b. slice_index_or b (length b - 1) q) c.all-parts.ensures.value in
    let same : to_z w16 (of_z w16 c.hi.result) ≡ c.hi.result = omega (arith, ints) in
    same ∙ c.hi.ensures.value ∙ sym (span_end c.args.self.now q c.all-parts.ensures.valid at)
