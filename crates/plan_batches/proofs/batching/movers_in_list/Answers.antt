use Rattle.std.proofs.Common.{sym, subst, List, ◌+◌}
use Rattle.plan_batches.specs.declared.mover.Mover.{Mover}
use Rattle.plan_batches.proofs.MoverSteps.{AreMoversTo, more_movers, mover_read}
use Rattle.plan_batches.proofs.batching.movers_in_list.Goals as goal

pub loop-i-preserved : goal.loop-i-preserved
loop-i-preserved c =
    subst (λ (ms : List Mover). AreMoversTo c.args.services.now.list c.args.moves.now ms (c.loop-i.i + 1))
    (sym c.in_ok-push.ensures.items)
    (more_movers c.args.services.now.list c.args.moves.now c.loop-i.movers.items c.loop-i.i c.mover_of.result c.loop-i.invariant
    (mover_read c.args.services.now.list c.args.moves.now c.loop-i.i c.index-moves-i.result
    c.in-Some.service.now c.mover_of.result c.loop-i-test.true c.index-moves-i.is (sym c.in-Some.ensures) c.mover_of.ensures.at c.mover_of.ensures.mover)
    c.mover_of.ensures.at)
