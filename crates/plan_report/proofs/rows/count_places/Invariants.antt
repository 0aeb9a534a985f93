use Rattle.std.proofs.Common.{◌≡◌, ℕ, ◌+◌, ◌<◌, nat_le, nat_lt, ◌&&◌, length, slice_index}
use Rattle.plan_report.specs.Counted.{one_if}
use Rattle.plan_report.proofs.rows.count_places.Given as goal

abbrev pub invariant-loop-k : goal.invariant-loop-k
invariant-loop-k l = record {
  same_length : length l.counts ≡ length l.fn.counts;
  none_between : l.to < l.from → l.k ≡ l.from;
  each : (j : ℕ) → j < length l.fn.counts →
      slice_index l.counts j ≡ slice_index l.fn.counts j + one_if (nat_le l.from j && nat_lt j l.k);
}
