use Rattle.std.proofs.Common.{arith}
use Rattle.compact_plan.proofs.BlockLaws.{listed_more, listed_all}
use Rattle.compact_plan.proofs.block.all_blocks.Goals as goal

pub returns : goal.returns
returns c =
    let count = c.len-i-end.ensures.count in
    let past = c.loop-i-test.false in
    listed_all c.loop-i.blocks.items c.args.services.now.list c.loop-i.i (omega arith) c.loop-i.invariant

pub loop-i-preserved : goal.loop-i-preserved
loop-i-preserved c =
    listed_more c.loop-i.blocks.items c.list_service.new.blocks.items c.args.services.now.list c.loop-i.i c.at.result.now
    _ c.at.ensures.service c.in_ok-list_service.ensures c.loop-i.invariant
