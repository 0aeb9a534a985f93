use Rattle.std.proofs.Common.{◌≡◌, ℕ, ◌*◌, ◌<◌, true}
use Rattle.block_fit.specs.Runs.{is_marked}
use Rattle.block_fit.proofs.runs.lowest_unmarked_place.Given as goal

-- each place of the words so far is marked
abbrev pub invariant-loop-word : goal.invariant-loop-word
invariant-loop-word l = (i : ℕ) → i < 64 * l.word → is_marked l.words i ≡ true
