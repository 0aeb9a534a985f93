use Rattle.std.proofs.Common.{◌≡◌, ◌+◌, length}
use Rattle.spectrum_map.proofs.WordLaws.{SetTo}
use Rattle.block_fit.specs.Runs.{is_marked}
use Rattle.block_fit.proofs.runs.widen.Given as goal

-- the words so far have the marks that lie above
abbrev pub invariant-loop-word : goal.invariant-loop-word
invariant-loop-word l = record {
  len : length l.words ≡ length l.initial.words;
  bits : SetTo l.initial.words l.words l.word (λ i. is_marked l.initial.words (i + l.by));
}
