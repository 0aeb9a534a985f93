use Rattle.std.proofs.Common.{◌∙◌, sym, ap, w16}
use Rattle.std.proofs.lemmas.Int.{to_z-of_z}
use Rattle.flex_grid.specs.Makes.{slot_of}
use Rattle.room_lines.proofs.AskLaws.{slot-made, slot-none}
use Rattle.room_lines.proofs.asking.slot_within.Goals as goal

pub returns-in-Some : goal.returns-in-Some
returns-in-Some c = slot-made c.args.band.now c.units.result c.args.n c.args.m c.in-Some.slot c.within.result c.then_some.result
    (sym (ap (λ k. slot_of k c.args.m) (to_z-of_z w16 c.args.n c.ranges.n)) ∙ sym c.make.ensures.value ∙ c.in-Some.is) c.units.ensures.value c.within.ensures c.then_some.ensures

pub returns-in-None : goal.returns-in-None
returns-in-None c = slot-none c.args.band.now c.args.n c.args.m c.requires.grid c.requires.wide
    (sym (ap (λ k. slot_of k c.args.m) (to_z-of_z w16 c.args.n c.ranges.n)) ∙ sym c.make.ensures.value ∙ c.in-None.is)
