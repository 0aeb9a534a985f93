use Rattle.std.proofs.Common.{◌≡◌, length}
use Rattle.spectrum_map.specs.Bits.{is_between}
use Rattle.spectrum_map.proofs.WordLaws.{SetTo}
use Rattle.spectrum_map.proofs.bits.set_bits.Given as goal

-- the words so far have the bits of the range set
abbrev pub invariant-loop-word : goal.invariant-loop-word
invariant-loop-word l = record {
  len : length l.words ≡ length l.initial.words;
  bits : SetTo l.initial.words l.words l.word (is_between l.first l.end);
}
