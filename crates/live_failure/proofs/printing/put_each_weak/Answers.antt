use Rattle.live_failure.proofs.TextLaws.{next_weak}
use Rattle.live_failure.proofs.printing.put_each_weak.Goals as goal

pub loop-one-preserved : goal.loop-one-preserved
loop-one-preserved g c =
    next_weak c.args.net.now c.args.weak.now c.loop-one.one-index c.one-item.result _ _ _
    c.loop-one-test.true c.one-item.is c.loop-one.invariant c.put_weak.ensures
