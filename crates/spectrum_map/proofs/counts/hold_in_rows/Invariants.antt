use Rattle.std.proofs.Common.{◌≡◌, ◌+◌, length, get_or}
use Rattle.spectrum_map.specs.Bits.{AreHeld}
use Rattle.spectrum_map.proofs.RangeLaws.{RowsCounted}
use Rattle.spectrum_map.proofs.counts.hold_in_rows.Given as goal

-- the rows so far were counted once more
abbrev pub invariant-loop-row : goal.invariant-loop-row
invariant-loop-row l = record {
  len : length l.counts ≡ length l.initial.counts;
  words : length l.held ≡ length l.initial.held;
  counts : RowsCounted (λ n. n + 1) (λ k. get_or l.initial.counts k 0) (λ k. get_or l.counts k 0) l.rows
      l.row-index l.first l.end;
  held : AreHeld l.held l.counts;
}
