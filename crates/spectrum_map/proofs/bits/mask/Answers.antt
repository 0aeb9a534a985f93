use Rattle.std.proofs.Common.{◌∙◌, sym, arith}
use Rattle.std.specs.Prelude.{min}
use Rattle.spectrum_map.specs.Bits.{is_between}
use Rattle.spectrum_map.proofs.BitLaws.{none_of_zero, not_between, between_word, mask_between}
use Rattle.spectrum_map.proofs.bits.mask.Goals as goal

pub returns : goal.returns
returns c k l =
    let from = c.saturating_sub-from.ensures in
    let to = c.min-to.ensures in
    let end = c.saturating_sub.ensures in
    let some = c.if-from-to.false in
    mask_between c.saturating_sub-from.result c.min-to.result k (omega arith) (omega arith) l
    ∙ (λ i. is_between (from i) ((to ∙ (λ j. min (end j) 64)) i) k)
    ∙ between_word c.args.word c.args.first c.args.end k l

pub returns-then-from-to : goal.returns-then-from-to
returns-then-from-to c k l =
    let from = c.saturating_sub-from.ensures in
    let to = c.min-to.ensures in
    let end = c.saturating_sub.ensures in
    let empty = c.if-from-to.true in
    none_of_zero k
    ∙ sym (not_between c.saturating_sub-from.result c.min-to.result k (λ p q. absurd (omega (arith, p, q, empty))))
    ∙ (λ i. is_between (from i) ((to ∙ (λ j. min (end j) 64)) i) k)
    ∙ between_word c.args.word c.args.first c.args.end k l
