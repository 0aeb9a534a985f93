use Rattle.std.proofs.Common.{◌∙◌, sym, ap, w16, to_z, of_z}
use Rattle.std.specs.Option.{option_copied}
use Rattle.std.proofs.lemmas.Int.{to_z-of_z}
use Rattle.push_rule.proofs.MoveSteps.{push-busy, push-same, push-band, push-clash, push-done}
use Rattle.push_rule.proofs.pushing.push.Goals as goal

pub returns-then-is_moving : goal.returns-then-is_moving
returns-then-is_moving c = λ setup of_band.
    push-busy setup c.args.band.now c.args.services.now.list c.args.name.now c.args.n c.in-Some.service.now
    (sym c.find.ensures ∙ ap option_copied c.in-Some.is) of_band (sym c.is_moving.ensures ∙ c.if-is_moving.true)

pub returns-then-is_at : goal.returns-then-is_at
returns-then-is_at c = λ setup of_band.
    push-same setup c.args.band.now c.args.services.now.list c.args.name.now c.args.n c.in-Some.service.now
    (sym c.find.ensures ∙ ap option_copied c.in-Some.is) of_band c.slot_of-slot.result c.slot_of-slot.ensures
    (to_z w16 (of_z w16 c.args.n)) (to_z-of_z w16 c.args.n c.ranges.n)
    (sym c.is_moving.ensures ∙ c.if-is_moving.false) (sym c.is_at.ensures ∙ c.if-is_at.true)

pub returns-then-not-drifts_within : goal.returns-then-not-drifts_within
returns-then-not-drifts_within c = λ setup of_band.
    push-band setup c.args.band.now c.args.services.now.list c.args.name.now c.args.n c.in-Some.service.now
    (sym c.find.ensures ∙ ap option_copied c.in-Some.is) of_band c.slot_of-slot.result c.slot_of-slot.ensures
    (to_z w16 (of_z w16 c.args.n)) (to_z-of_z w16 c.args.n c.ranges.n)
    (sym c.is_moving.ensures ∙ c.if-is_moving.false) (sym c.is_at.ensures ∙ c.if-is_at.false)
    (sym c.drifts_within.ensures ∙ c.if-not-drifts_within.true)

pub returns-in-Some-in_the_way : goal.returns-in-Some-in_the_way
returns-in-Some-in_the_way c = λ setup of_band.
    push-clash setup c.args.band.now c.args.services.now.list c.args.name.now c.args.n c.in-Some.service.now
    (sym c.find.ensures ∙ ap option_copied c.in-Some.is) of_band c.slot_of-slot.result c.slot_of-slot.ensures
    (to_z w16 (of_z w16 c.args.n)) (to_z-of_z w16 c.args.n c.ranges.n) c.in-Some-in_the_way.other
    (sym c.is_moving.ensures ∙ c.if-is_moving.false) (sym c.is_at.ensures ∙ c.if-is_at.false)
    (sym c.drifts_within.ensures ∙ c.if-not-drifts_within.false)
    (sym c.in_the_way.ensures ∙ c.in-Some-in_the_way.is)

pub returns-in-None : goal.returns-in-None
returns-in-None c = λ setup of_band.
    push-done setup c.args.band.now c.args.services.now.list c.args.name.now c.args.n c.in-Some.service.now
    (sym c.find.ensures ∙ ap option_copied c.in-Some.is) of_band c.slot_of-slot.result c.slot_of-slot.ensures
    (to_z w16 (of_z w16 c.args.n)) (to_z-of_z w16 c.args.n c.ranges.n)
    (to_z w16 (of_z w16 c.n.result))
    (to_z-of_z w16 c.n.result (record { sfits = c.n.type_inv }) ∙ c.n.ensures.value)
    (sym c.is_moving.ensures ∙ c.if-is_moving.false) (sym c.is_at.ensures ∙ c.if-is_at.false)
    (sym c.drifts_within.ensures ∙ c.if-not-drifts_within.false)
    (sym c.in_the_way.ensures ∙ c.in-None.is)
