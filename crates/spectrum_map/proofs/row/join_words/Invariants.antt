use Rattle.std.proofs.Common.{◌≡◌, length}
use Rattle.spectrum_map.specs.Bits.{bit_of}
use Rattle.spectrum_map.proofs.WordLaws.{SetTo}
use Rattle.spectrum_map.proofs.row.join_words.Given as goal

-- the words so far have the bits of the others
abbrev pub invariant-loop-word : goal.invariant-loop-word
invariant-loop-word l = record {
  len : length l.words ≡ length l.initial.words;
  bits : SetTo l.initial.words l.words l.word (bit_of l.others);
}
