use Rattle.std.proofs.Common.{◌∙◌, sym, ap}
use Rattle.std.specs.Option.{option_map}
use Rattle.eon_model.specs.Legal.{Setup}
use Rattle.eon_model.specs.PlanReadings.{leg_entered}
use Rattle.eon_model.proofs.SetupLaws.{network-parts, setup-network}
use Rattle.journal_record.specs.Told as told
use Rattle.plan_texts.specs.ServiceTold as texts
use Rattle.plan_check.specs.Numbered.{leg_if_told}
use Rattle.plan_check.proofs.NumberedSteps.{entered_on, service-untold, service-other, service-told}
use Rattle.plan_check.proofs.numbered.service_text.Goals as goal

pub returns-in_default : goal.returns-in_default
returns-in_default c =
    service-untold c.args.setup.now.network (texts.service_told c.args.service.now)
    (ap (option_map told.leg_told) (sym c.in_default.is) ∙ c.in_ok-leg.ensures
    ∙ ap (λ (s : Setup). leg_if_told (leg_entered s.network (texts.leg_told c.args.service.now.leg))) c.setup.view_is)

pub returns-then-not-has_backup_for : goal.returns-then-not-has_backup_for
returns-then-not-has_backup_for c =
    service-other c.args.setup.now.network (texts.service_told c.args.service.now) (told.leg_told c.in-Some.leg)
    (ap (option_map told.leg_told) (sym c.in-Some.is) ∙ c.in_ok-leg.ensures
    ∙ ap (λ (s : Setup). leg_if_told (leg_entered s.network (texts.leg_told c.args.service.now.leg))) c.setup.view_is)
    (sym c.has_backup_for.ensures ∙ c.if-not-has_backup_for.true)

pub returns : goal.returns
returns c =
    service-told c.args.setup.now.network (texts.service_told c.args.service.now) (told.leg_told c.in-Some.leg)
    (ap (option_map told.leg_told) (sym c.in-Some.is) ∙ c.in_ok-leg.ensures
    ∙ ap (λ (s : Setup). leg_if_told (leg_entered s.network (texts.leg_told c.args.service.now.leg))) c.setup.view_is)
    (sym c.has_backup_for.ensures ∙ c.if-not-has_backup_for.false)
    (network-parts c.args.setup.now.network (setup-network c.args.setup.now c.requires.setup)).few_nodes
    c.requires.in_range (told.enter_told c.service_on.result)
    (ap told.enter_told c.service_on.ensures
    ∙ ap (λ (s : Setup). entered_on s.network (texts.service_told c.args.service.now) (told.leg_told c.in-Some.leg)) c.setup.view_is)
