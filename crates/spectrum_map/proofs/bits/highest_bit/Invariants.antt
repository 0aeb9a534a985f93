use Rattle.std.proofs.Common.{◌≡◌, ℕ, ◌*◌, ◌<◌, ◌≤◌, false, length}
use Rattle.spectrum_map.specs.Bits.{bit_of}
use Rattle.spectrum_map.proofs.bits.highest_bit.Given as goal

-- no bit of the range in this word or a later one is 1
abbrev pub invariant-loop-word : goal.invariant-loop-word
invariant-loop-word l = record {
  within : l.word ≤ length l.words;
  none : (i : ℕ) → 64 * l.word ≤ i → l.first ≤ i → i < l.end → bit_of l.words i ≡ false;
}

abbrev pub decreases-loop-word : goal.decreases-loop-word
decreases-loop-word l = l.word
