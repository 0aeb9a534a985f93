-- The lights so far and those of the rest are all.
use Rattle.std.proofs.Common.{◌≡◌, ◌+◌, ◌*◌, ◌≤◌, length, drop}
use Rattle.eon_model.specs.LiveFailure.{lit_now}
use Rattle.live_failure.proofs.lighting.light_count.Given as goal

abbrev pub invariant-loop-i : goal.invariant-loop-i
invariant-loop-i l = record {
  all : l.count + length (lit_now l.failed (drop l.i l.services.list)) ≡ length (lit_now l.failed l.services.list);
  few : l.count ≤ 2 * l.i;
}
