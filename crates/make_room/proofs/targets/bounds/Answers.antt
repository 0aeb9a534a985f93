use Rattle.std.proofs.Common.{sym, subst, ℕ, ◌+◌, List}
use Rattle.make_room.specs.Sweeps.{IsEach, BeginsWithin}
use Rattle.make_room.proofs.EachLaws.{each_more}
use Rattle.make_room.proofs.targets.bounds.Goals as goal

pub loop-i-preserved : goal.loop-i-preserved
loop-i-preserved c =
    let state = c.args.services.now.list in
    subst (λ (xs : List ℕ). IsEach (BeginsWithin c.args.heights.now) state (c.loop-i.i + 1) xs)
    (sym c.in_ok-push.ensures.items)
    (each_more (BeginsWithin c.args.heights.now) state c.loop-i.i c.loop-i.begins.items c.bound.result
    c.at.result.now c.at.ensures.service (c.bound.ensures.value, c.bound.ensures.small) c.loop-i.invariant)
