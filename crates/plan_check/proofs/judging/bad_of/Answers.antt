use Rattle.std.proofs.Common.{◌∙◌, sym, ap}
use Rattle.std.specs.Option.{option_copied}
use Rattle.eon_model.specs.Services.{State, service_of}
use Rattle.plan_texts.specs.Told.{move_told, moves_told}
use Rattle.plan_check.proofs.BadSteps.{any-told, seen-twice, seen-from, seen-same, seen-push}
use Rattle.plan_check.proofs.judging.bad_of.Goals as goal

pub returns-then-is_moved : goal.returns-then-is_moved
returns-then-is_moved c =
    let name = c.args.next.now.name in
    let there = sym (c.find.ensures ∙ ap (λ (st : State). service_of st name) c.services.ensures.list) ∙ ap option_copied c.in-Some.is in
    let moved = any-told c.args.earlier.now name ∙ sym c.is_moved.ensures in
    seen-twice c.args.core.now.setup c.args.core.now.state (moves_told c.args.earlier.now) (move_told c.args.next.now)
    c.in-Some.service.now there (moved ∙ c.if-is_moved.true)

pub returns-then-not-stands : goal.returns-then-not-stands
returns-then-not-stands c =
    let name = c.args.next.now.name in
    let there = sym (c.find.ensures ∙ ap (λ (st : State). service_of st name) c.services.ensures.list) ∙ ap option_copied c.in-Some.is in
    let moved = any-told c.args.earlier.now name ∙ sym c.is_moved.ensures in
    seen-from c.args.core.now.setup c.args.core.now.state (moves_told c.args.earlier.now) (move_told c.args.next.now)
    c.in-Some.service.now there (moved ∙ c.if-is_moved.false) (sym c.stands.ensures ∙ c.if-not-stands.true)

pub returns-then-stays : goal.returns-then-stays
returns-then-stays c =
    let name = c.args.next.now.name in
    let there = sym (c.find.ensures ∙ ap (λ (st : State). service_of st name) c.services.ensures.list) ∙ ap option_copied c.in-Some.is in
    let moved = any-told c.args.earlier.now name ∙ sym c.is_moved.ensures in
    seen-same c.args.core.now.setup c.args.core.now.state (moves_told c.args.earlier.now) (move_told c.args.next.now)
    c.in-Some.service.now there (moved ∙ c.if-is_moved.false) (sym c.stands.ensures ∙ c.if-not-stands.false)
    (sym c.stays.ensures ∙ c.if-stays.true)

pub returns : goal.returns
returns c =
    let name = c.args.next.now.name in
    let there = sym (c.find.ensures ∙ ap (λ (st : State). service_of st name) c.services.ensures.list) ∙ ap option_copied c.in-Some.is in
    let moved = any-told c.args.earlier.now name ∙ sym c.is_moved.ensures in
    c.refusal.ensures
    ∙ seen-push c.args.core.now.setup c.args.core.now.state (moves_told c.args.earlier.now) (move_told c.args.next.now)
    c.in-Some.service.now there (moved ∙ c.if-is_moved.false) (sym c.stands.ensures ∙ c.if-not-stands.false)
    (sym c.stays.ensures ∙ c.if-stays.false)
