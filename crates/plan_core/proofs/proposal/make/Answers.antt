use Rattle.plan_core.proofs.EventLaws.{make-numbered}
use Rattle.plan_core.proofs.proposal.make.Goals as goal

pub leg_text-requires : goal.leg_text-requires
leg_text-requires c = make-numbered c.args.name c.args.class c.args.leg c.requires
