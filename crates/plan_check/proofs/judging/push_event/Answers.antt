use Rattle.std.proofs.Common.{◌∙◌, ap, ℤ, w16}
use Rattle.std.proofs.lemmas.Int.{to_z-of_z}
use Rattle.eon_model.specs.Events.{Event}
use Rattle.plan_check.proofs.judging.push_event.Goals as goal

pub returns : goal.returns
returns c = ap (λ (n : ℤ). Event.Push c.args.next.now.name n)
    (to_z-of_z w16 c.to_of.result (record { sfits = c.to_of.type_inv }) ∙ c.to_of.ensures)
