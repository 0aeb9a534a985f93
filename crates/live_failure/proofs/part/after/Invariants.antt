use Rattle.std.proofs.Common.{◌≡◌, drop}
use Rattle.command_text.specs.Reading.{after}
use Rattle.live_failure.proofs.part.after.Given as goal

abbrev pub invariant-loop-expected : goal.invariant-loop-expected
invariant-loop-expected l = after (drop l.expected-index l.word) l.rest ≡ after l.word l.bytes
