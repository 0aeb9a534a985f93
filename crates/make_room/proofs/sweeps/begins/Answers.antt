use Rattle.std.proofs.Common.{sym, subst, ℕ, ◌+◌, List}
use Rattle.make_room.specs.Sweeps.{IsEach, Begins}
use Rattle.make_room.proofs.EachLaws.{each_more}
use Rattle.make_room.proofs.sweeps.begins.Goals as goal

pub loop-i-preserved : goal.loop-i-preserved
loop-i-preserved c =
    let state = c.args.services.now.list in
    subst (λ (xs : List ℕ). IsEach (λ j. Begins c.args.from) state (c.loop-i.i + 1) xs)
    (sym c.in_ok-push.ensures.items)
    (each_more (λ j. Begins c.args.from) state c.loop-i.i c.loop-i.begins.items c.channel_begin.result
    c.at.result.now c.at.ensures.service c.channel_begin.ensures c.loop-i.invariant)
