use Rattle.std.proofs.Common.{◌∙◌, sym, ap, w16}
use Rattle.std.proofs.lemmas.Int.{to_z-of_z}
use Rattle.flex_grid.specs.Makes.{slot_of}
use Rattle.push_rule.proofs.HullLaws.{hull-leaves}
use Rattle.push_rule.proofs.pushing.drifts_within.Goals as goal

pub returns-in-None : goal.returns-in-None
returns-in-None c =
    hull-leaves c.args.band.now c.args.slot.now c.args.to c.parts.ensures.valid c.units-here.ensures.valid
    (sym (ap (λ k. slot_of k c.args.slot.now.m) (to_z-of_z w16 c.args.to c.ranges.to)) ∙ sym c.moved.ensures.value
    ∙ c.in-None.is)
