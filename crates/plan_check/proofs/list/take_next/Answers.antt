use Rattle.std.proofs.Common.{◌∙◌, sym, ap}
use Rattle.std.specs.Option.{option_map}
use Rattle.plan_texts.specs.ServiceTold as texts
use Rattle.plan_check.proofs.ListSteps.{line-in-range}
use Rattle.plan_check.proofs.list.take_next.Goals as goal

pub enter-requires : goal.enter-requires
enter-requires c =
    line-in-range c.args.lines.now.0 (texts.service_told c.in-Some.service)
    (sym c.next_service.ensures.value ∙ ap (option_map texts.service_told) c.in-Some.is)
