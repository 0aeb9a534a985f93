use Rattle.plan_core.proofs.EventLaws.{event-numbered}
use Rattle.plan_core.proofs.proposal.enter.Goals as goal

pub enter_text-requires : goal.enter_text-requires
enter_text-requires c = event-numbered c.args.service c.requires
