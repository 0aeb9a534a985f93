use Rattle.std.proofs.Common.{◌∙◌, sym, ap, Option}
use Rattle.std.specs.Option.{option_map}
use Rattle.eon_model.specs.PlanReadings.{path_entered, leg_entered}
use Rattle.journal_record.specs.Told as told
use Rattle.plan_texts.specs.declared.service.PathLine.{PathLine}
use Rattle.plan_texts.specs.ServiceTold as texts
use Rattle.plan_check.proofs.NumberedSteps.{leg-backed, leg-unbacked}
use Rattle.plan_check.proofs.numbered.leg_text.Goals as goal

pub returns-in-Some-2 : goal.returns-in-Some-2
returns-in-Some-2 c =
    leg-backed (leg_entered c.args.net.now (texts.leg_told c.args.leg.now)) (told.path_told c.in-Some.work)
    (ap (option_map told.path_told) (sym c.in-Some.is) ∙ c.in_ok-work.ensures)
    (path_entered c.args.net.now (texts.path_told c.in-Some-back.path))
    (ap (λ (o : Option PathLine). option_map (path_entered c.args.net.now) (option_map texts.path_told o)) c.in-Some-back.is)
    (told.path_told c.in-Some-2.back) (ap (option_map told.path_told) (sym c.in-Some-2.is) ∙ c.in_ok-back.ensures)

pub returns-in-None : goal.returns-in-None
returns-in-None c =
    leg-unbacked (leg_entered c.args.net.now (texts.leg_told c.args.leg.now)) (told.path_told c.in-Some.work)
    (ap (option_map told.path_told) (sym c.in-Some.is) ∙ c.in_ok-work.ensures)
    (path_entered c.args.net.now (texts.path_told c.in-Some-back.path))
    (ap (λ (o : Option PathLine). option_map (path_entered c.args.net.now) (option_map texts.path_told o)) c.in-Some-back.is)
    (ap (option_map told.path_told) (sym c.in-None.is) ∙ c.in_ok-back.ensures)
