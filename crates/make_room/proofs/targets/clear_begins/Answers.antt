use Rattle.std.proofs.Common.{sym, subst, ℕ, ◌+◌, List}
use Rattle.eon_model.specs.Grid.{units_of}
use Rattle.make_room.specs.Sweeps.{IsEach, BeginsClear}
use Rattle.make_room.specs.Sides.{goes_so}
use Rattle.make_room.proofs.EachLaws.{each_more}
use Rattle.make_room.proofs.targets.clear_begins.Goals as goal

pub loop-i-preserved : goal.loop-i-preserved
loop-i-preserved c =
    let state = c.args.services.now.list in
    let block = c.args.block.now in
    subst (λ (xs : List ℕ). IsEach (BeginsClear c.args.from (units_of block.slot)
    (goes_so c.args.from block c.args.lows.now c.args.highs.now)) state (c.loop-i.i + 1) xs)
    (sym c.in_ok-push.ensures.items)
    (each_more (BeginsClear c.args.from (units_of block.slot)
    (goes_so c.args.from block c.args.lows.now c.args.highs.now)) state c.loop-i.i c.loop-i.begins.items
    c.channel_clear.result c.at.result.now c.at.ensures.service c.channel_clear.ensures c.loop-i.invariant)
