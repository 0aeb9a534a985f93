use Rattle.std.proofs.Common.{◌≤◌, arith}
use Rattle.block_fit.proofs.RunLaws.{starts-more}
use Rattle.block_fit.proofs.runs.mark_starts.Goals as goal

pub loop-done-preserved : goal.loop-done-preserved
loop-done-preserved c =
    let most = c.loop-done.invariant.most in
    let least = c.min-by.ensures in
    let near : c.min-by.result ≤ c.loop-done.done = omega arith in
    record {
      most = omega arith;
      starts = starts-more c.args.words.now c.loop-done.words c.loop-done.done c.loop-done.invariant.starts
          c.min-by.result c.widen.new.words near c.widen.ensures.len c.widen.ensures.bits;
    }
