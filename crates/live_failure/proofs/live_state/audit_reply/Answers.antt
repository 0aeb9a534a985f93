use Rattle.live_failure.proofs.SaidLaws.{audit_said}
use Rattle.live_failure.proofs.live_state.audit_reply.Goals as goal

pub returns-in-Some : goal.returns-in-Some
returns-in-Some c =
    audit_said c.args.setup.now c.args.services.now.list c.args.order.now c.args.name.now c.in-Some.own.now _
    c.requires.legal c.requires.order c.in-Some.ensures c.audit.ensures
