use Rattle.eon_model.proofs.ListReads.{list-is-legal}
use Rattle.plan_check.proofs.list.read_list.Goals as goal

pub returns-clause-rest : goal.returns-clause-rest
returns-clause-rest c =
    (list-is-legal c.in_ok-core.core.setup c.args.bytes.now c.take_all.new.core.state c.in_ok-take_all.ensures.list).1
