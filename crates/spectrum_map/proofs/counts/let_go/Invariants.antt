use Rattle.std.proofs.Common.{◌≡◌, ◌-◌, length, get_or}
use Rattle.spectrum_map.specs.Bits.{AreHeld}
use Rattle.spectrum_map.proofs.CountSteps.{Changed}
use Rattle.spectrum_map.proofs.counts.let_go.Given as goal

-- the places so far were counted once less
abbrev pub invariant-loop-i : goal.invariant-loop-i
invariant-loop-i l = record {
  len : length l.counts ≡ length l.initial.counts;
  words : length l.held ≡ length l.initial.held;
  counts : Changed (λ n. n - 1) (λ k. get_or l.initial.counts k 0) (λ k. get_or l.counts k 0) l.first l.i;
  held : AreHeld l.held l.counts;
}
