use Rattle.std.proofs.Common.{◌∙◌, w16}
use Rattle.std.specs.Ordering.{int_eq}
use Rattle.std.proofs.lemmas.Int.{to_z-of_z}
use Rattle.plan_check.proofs.judging.stays.Goals as goal

pub returns : goal.returns
returns c =
    let to = to_z-of_z w16 c.to_of.result (record { sfits = c.to_of.type_inv }) ∙ c.to_of.ensures in
    let from = to_z-of_z w16 c.from_of.result (record { sfits = c.from_of.type_inv }) ∙ c.from_of.ensures in
    c.is_same.ensures ∙ (λ i. int_eq (to i) (from i))
