use Rattle.std.proofs.Common.{◌≤◌, length, arith}
use Rattle.compact_plan.specs.Told.{channels}
use Rattle.compact_plan.proofs.TellLaws.{channels_long, told_at, told_end}
use Rattle.compact_plan.proofs.telling.tell.Goals as goal

pub loop-i-preserved : goal.loop-i-preserved
loop-i-preserved c =
    let count = c.len-i-end.ensures.count in
    let test = c.loop-i-test.true in
    told_at c.loop-i.moves.items c.tell_channel.new.moves.items c.args.band.now c.args.services.now.list c.args.lows.now
    c.loop-i.i c.requires.long (omega arith) c.in_ok-tell_channel.ensures c.loop-i.invariant

pub returns : goal.returns
returns c =
    let long = channels_long c.args.services.now.list c.args.lows.now c.requires.long in
    let count = c.len-i-end.ensures.count in
    let test = c.loop-i-test.false in
    let past : length (channels c.args.services.now.list c.args.lows.now) ≤ c.loop-i.i = omega arith in
    told_end c.loop-i.moves.items c.args.band.now (channels c.args.services.now.list c.args.lows.now) c.loop-i.i past
    c.loop-i.invariant
