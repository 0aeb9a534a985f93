use Rattle.std.specs.Option.{option_to_list}
use Rattle.live_failure.proofs.SaidLaws.{weak_said}
use Rattle.live_failure.proofs.live_state.exposed_reply.Goals as goal

pub returns : goal.returns
returns c =
    weak_said c.args.setup.now c.args.services.now.list c.args.order.now (option_to_list c.args.failed) _
    c.requires.legal c.requires.order c.in_ok-weak.ensures
