use Rattle.std.proofs.Common.{arith}
use Rattle.live_failure.proofs.lighting.light_count.Goals as goal

pub overflow_add-count : goal.overflow_add-count
overflow_add-count c = record {
  fits = omega (arith, c.loop-i.invariant.few, c.service_count.ensures.few, c.loop-i-test.true, c.len-i-end.ensures.count, c.requires);
}
