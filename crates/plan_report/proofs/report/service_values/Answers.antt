use Rattle.std.proofs.Common.{◌∙◌, sym, subst, ap}
use Rattle.eon_model.specs.Legal.{Setup}
use Rattle.eon_model.specs.Names.{is_name}
use Rattle.eon_model.specs.Network.{Network}
use Rattle.eon_model.specs.Services.{Service}
use Rattle.plan_report.specs.InRange.{ServiceInRange}
use Rattle.plan_report.specs.Reported.{service_data}
use Rattle.plan_report.proofs.InRangeLaws.{service_at-on}
use Rattle.plan_report.proofs.ReportLemmas.{values_more, all_more}
use Rattle.plan_report.proofs.report.service_values.Goals as goal

pub service_value-requires : goal.service_value-requires
service_value-requires c =
    subst (λ (net : Network). ServiceInRange net c.at.result.now)
    (sym (ap (λ (s : Setup). s.network) c.setup.view_is))
    (service_at-on c.args.setup.now c.args.services.now.list c.loop-i.i c.at.result.now c.requires.setup
    c.requires.legal c.at.ensures.service)

pub loop-i-preserved : goal.loop-i-preserved
loop-i-preserved c =
    let list = c.args.services.now.list in
    let service = c.at.result.now in (
      values_more (service_data c.args.setup.now.network) c.loop-i.values.items c.push.new.self.items
          c.in_ok-service_value.field-0 list c.loop-i.i service c.at.ensures.service c.loop-i.invariant.0
          c.in_ok-push.ensures.items
          (c.in_ok-service_value.ensures.value
          ∙ ap (λ (s : Setup). service_data s.network service) c.setup.view_is),
      all_more (λ (s : Service). is_name s.name) list c.loop-i.i service c.at.ensures.service
          c.loop-i.invariant.1 c.in_ok-service_value.ensures.named,
    )
