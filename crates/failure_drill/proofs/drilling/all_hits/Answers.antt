use Rattle.failure_drill.proofs.NumberLaws.{service_at-numbered}
use Rattle.failure_drill.proofs.drilling.all_hits.Goals as goal

pub list_service-requires-clause-numbered : goal.list_service-requires-clause-numbered
list_service-requires-clause-numbered c =
    let legal = c.requires.legal in
    service_at-numbered legal.0 c.args.services.now.list c.loop-i.i c.at.result.now legal.1 legal.2 c.at.ensures.service
