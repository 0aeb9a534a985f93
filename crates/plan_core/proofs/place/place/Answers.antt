use Rattle.std.proofs.Common.{◌∙◌, sym, ap, w16}
use Rattle.std.proofs.lemmas.Int.{to_z-of_z}
use Rattle.eon_model.specs.Commands.{Demand}
use Rattle.eon_model.specs.Legal.{Setup}
use Rattle.eon_model.specs.Names.{Name}
use Rattle.eon_model.specs.Events as changes
use Rattle.eon_model.specs.Replies.{Reply}
use Rattle.eon_model.specs.Step.{Say, Change}
use Rattle.command_text.specs.Told.{told_backs}
use Rattle.reply_text.specs.Replied.{reply_told}
use Rattle.plan_core.specs.Told.{outcome_told}
use Rattle.plan_core.specs.Placing.{service_asked}
use Rattle.plan_core.proofs.EventLaws.{enter-IsPrepared}
use Rattle.plan_core.proofs.PlaceSteps.{are-routes, no-routes, place-refused, place-stuck, place-placed, risk-known}
use Rattle.plan_core.proofs.PlaceReady.{asked-told, place-is_event}
use Rattle.plan_core.proofs.place.place.Goals as goal

pub returns-in-Some-clause-is : goal.returns-in-Some-clause-is
returns-in-Some-clause-is c = ap outcome_told c.say.ensures.decision
    ∙ place-refused c.args.setup.now c.args.services.now.list c.args.demand.now
    (record { fibres = c.args.work.now; n = c.args.n }) (told_backs c.args.back.now)
    (reply_told c.in-Some.reply) (sym c.in-Some.ensures)

pub returns-in-Err-clause-is : goal.returns-in-Err-clause-is
returns-in-Err-clause-is c = ap outcome_told c.say-in-Err.ensures.decision
    ∙ place-stuck c.args.setup.now c.args.services.now.list c.args.demand.now
    (record { fibres = c.args.work.now; n = c.args.n }) (told_backs c.args.back.now)
    (reply_told c.in-Err.reply) (sym c.in_default.ensures)
    (no-routes c.args.setup.now.network c.setup.inside.net c.args.demand.now c.args.work.now c.args.n _
    (told_backs c.args.back.now) c.in_ok-paths.field-0 (ap (λ (s : Setup). s.network) c.setup.view_is)
    (to_z-of_z w16 c.args.n c.ranges.n) c.in_ok-paths.ensures.fault c.in-Err.reply c.in-Err.is)

pub placed_service-requires-clause-known : goal.placed_service-requires-clause-known
placed_service-requires-clause-known c =
    let r = are-routes c.args.setup.now.network c.setup.inside.net c.args.demand.now c.args.work.now c.args.n _
    (told_backs c.args.back.now) c.in_ok-paths.field-0 (ap (λ (s : Setup). s.network) c.setup.view_is)
    (to_z-of_z w16 c.args.n c.ranges.n) c.in_ok-paths.ensures.fault c.in-Ok.paths c.in_ok-paths.ensures.paths c.in-Ok.is in
    risk-known c.args.setup.now c.args.demand.now (record { fibres = c.args.work.now; n = c.args.n })
    (told_backs c.args.back.now) c.in-Ok.paths c.requires.in_range r.walk r.is

pub enter-requires : goal.enter-requires
enter-requires c =
    let r = are-routes c.args.setup.now.network c.setup.inside.net c.args.demand.now c.args.work.now c.args.n _
    (told_backs c.args.back.now) c.in_ok-paths.field-0 (ap (λ (s : Setup). s.network) c.setup.view_is)
    (to_z-of_z w16 c.args.n c.ranges.n) c.in_ok-paths.ensures.fault c.in-Ok.paths c.in_ok-paths.ensures.paths c.in-Ok.is in
    place-is_event c.args.setup.now c.args.services.now.list c.args.demand.now
    (record { fibres = c.args.work.now; n = c.args.n }) (told_backs c.args.back.now)
    (changes.Event.Enter (changes.enter_text_of c.in-Ok-placed_service.service)) (Reply.Placed c.args.demand.now.name)
    c.requires.in_range c.requires.legal c.requires.right
    (place-placed c.args.setup.now c.args.services.now.list c.args.demand.now
    (record { fibres = c.args.work.now; n = c.args.n }) (told_backs c.args.back.now) (Change (changes.Event.Enter (changes.enter_text_of c.in-Ok-placed_service.service)) (Reply.Placed c.args.demand.now.name))
    c.in-Ok.paths (sym c.in_default.ensures) r.walk r.is (c.in-Ok-placed_service.ensures.is))

pub returns-in-Ok-placed_service-clause-is : goal.returns-in-Ok-placed_service-clause-is
returns-in-Ok-placed_service-clause-is c =
    let r = are-routes c.args.setup.now.network c.setup.inside.net c.args.demand.now c.args.work.now c.args.n _
    (told_backs c.args.back.now) c.in_ok-paths.field-0 (ap (λ (s : Setup). s.network) c.setup.view_is)
    (to_z-of_z w16 c.args.n c.ranges.n) c.in_ok-paths.ensures.fault c.in-Ok.paths c.in_ok-paths.ensures.paths c.in-Ok.is in
    c.enter.ensures.decision
    ∙ ap (λ (x : Name). Change (changes.Event.Enter (changes.enter_text_of c.in-Ok-placed_service.service)) (Reply.Placed x))
    (ap (λ (d : Demand). d.name) c.demand.view_is)
    ∙ place-placed c.args.setup.now c.args.services.now.list c.args.demand.now
    (record { fibres = c.args.work.now; n = c.args.n }) (told_backs c.args.back.now) (Change (changes.Event.Enter (changes.enter_text_of c.in-Ok-placed_service.service)) (Reply.Placed c.args.demand.now.name))
    c.in-Ok.paths (sym c.in_default.ensures) r.walk r.is (c.in-Ok-placed_service.ensures.is)

pub returns-in-Ok-placed_service-clause-prepared : goal.returns-in-Ok-placed_service-clause-prepared
returns-in-Ok-placed_service-clause-prepared c =
    let r = are-routes c.args.setup.now.network c.setup.inside.net c.args.demand.now c.args.work.now c.args.n _
    (told_backs c.args.back.now) c.in_ok-paths.field-0 (ap (λ (s : Setup). s.network) c.setup.view_is)
    (to_z-of_z w16 c.args.n c.ranges.n) c.in_ok-paths.ensures.fault c.in-Ok.paths c.in_ok-paths.ensures.paths c.in-Ok.is in
    enter-IsPrepared c.args.setup.now.network c.in-Ok-placed_service.service c.enter.result.decision
    c.enter.result.prepared _
    (asked-told c.args.setup.now c.args.demand.now (record { fibres = c.args.work.now; n = c.args.n })
    (told_backs c.args.back.now) c.in-Ok-placed_service.service
    (c.in-Ok-placed_service.ensures.service ∙ ap (service_asked c.args.setup.now c.args.demand.now) r.is))
    c.enter.ensures.decision c.enter.ensures.prepared

pub returns-in-Err-placed_service-clause-is : goal.returns-in-Err-placed_service-clause-is
returns-in-Err-placed_service-clause-is c =
    let r = are-routes c.args.setup.now.network c.setup.inside.net c.args.demand.now c.args.work.now c.args.n _
    (told_backs c.args.back.now) c.in_ok-paths.field-0 (ap (λ (s : Setup). s.network) c.setup.view_is)
    (to_z-of_z w16 c.args.n c.ranges.n) c.in_ok-paths.ensures.fault c.in-Ok.paths c.in_ok-paths.ensures.paths c.in-Ok.is in
    ap outcome_told c.say-in-Err-placed_service.ensures.decision
    ∙ place-placed c.args.setup.now c.args.services.now.list c.args.demand.now
    (record { fibres = c.args.work.now; n = c.args.n }) (told_backs c.args.back.now) (Say (reply_told c.in-Err-placed_service.reply))
    c.in-Ok.paths (sym c.in_default.ensures) r.walk r.is (c.in-Err-placed_service.ensures.is)
