use Rattle.std.proofs.Common.{◌≡◌, ◌∙◌, sym, ap, subst, ◌<◌, ◌≤◌, ◌+ℤ◌, pos, Some, w16, to_z, of_z}
use Rattle.std.proofs.lemmas.Int.{to_z-of_z}
use Rattle.eon_model.specs.Grid.{span_of, unit_count}
use Rattle.make_rule.specs.Refits.{may_back}
use Rattle.make_rule.proofs.WalkSteps.{walk_here, walk_past, walk_end}
use Rattle.make_rule.proofs.refitting.least_centre.Goals as goal

pub returns-then-stands_at : goal.returns-then-stands_at
returns-then-stands_at c =
    let test = may_back c.args.services.now.list c.args.band.now c.args.name.now c.args.service.now.class c.args.service.now.leg c.args.back.now in
    let at : to_z w16 (of_z w16 c.unit_at-n.result) ≡ ((span_of c.args.band.now).lo +ℤ pos c.loop-place.place) =
    to_z-of_z w16 c.unit_at-n.result (record { sfits = c.unit_at-n.type_inv }) ∙ c.unit_at-n.ensures in
    let below : c.loop-place.place < unit_count (span_of c.args.band.now) =
    subst (λ k. c.loop-place.place < k) c.units-place-end.ensures.count c.loop-place-test.true in
    ap Some at
    ∙ sym (walk_here test (span_of c.args.band.now).lo (unit_count (span_of c.args.band.now)) c.loop-place.place below
    (ap test (sym at) ∙ sym c.stands_at.ensures ∙ c.if-stands_at.true))
    ∙ c.loop-place.invariant

pub loop-place-preserved : goal.loop-place-preserved
loop-place-preserved c =
    let test = may_back c.args.services.now.list c.args.band.now c.args.name.now c.args.service.now.class c.args.service.now.leg c.args.back.now in
    let at : to_z w16 (of_z w16 c.unit_at-n.result) ≡ ((span_of c.args.band.now).lo +ℤ pos c.loop-place.place) =
    to_z-of_z w16 c.unit_at-n.result (record { sfits = c.unit_at-n.type_inv }) ∙ c.unit_at-n.ensures in
    let below : c.loop-place.place < unit_count (span_of c.args.band.now) =
    subst (λ k. c.loop-place.place < k) c.units-place-end.ensures.count c.loop-place-test.true in
    sym (walk_past test (span_of c.args.band.now).lo (unit_count (span_of c.args.band.now)) c.loop-place.place below
    (ap test (sym at) ∙ sym c.stands_at.ensures ∙ c.if-stands_at.false))
    ∙ c.loop-place.invariant

pub returns : goal.returns
returns c =
    let test = may_back c.args.services.now.list c.args.band.now c.args.name.now c.args.service.now.class c.args.service.now.leg c.args.back.now in
    let past : unit_count (span_of c.args.band.now) ≤ c.loop-place.place =
    subst (λ k. k ≤ c.loop-place.place) c.units-place-end.ensures.count c.loop-place-test.false in
    sym (walk_end test (span_of c.args.band.now).lo (unit_count (span_of c.args.band.now)) c.loop-place.place past)
    ∙ c.loop-place.invariant
