use Rattle.std.proofs.Common.{◌∙◌, ap}
use Rattle.std.specs.Option.{option_map}
use Rattle.plan_texts.specs.ServiceTold.{service_told}
use Rattle.plan_texts.specs.Services.{service_at}
use Rattle.plan_texts.proofs.ServiceBack.{service-read}
use Rattle.plan_texts.proofs.service.read_service.Goals as goal

pub returns : goal.returns
returns c =
    ap (option_map service_told) (c.service_fields.ensures ∙ ap service_at c.new-fields.ensures) ∙ service-read c.args.line.now
