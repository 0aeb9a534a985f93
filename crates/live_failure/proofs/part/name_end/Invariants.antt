use Rattle.std.proofs.Common.{◌≡◌, ◌+◌, length}
use Rattle.command_text.specs.Reading.{munch}
use Rattle.command_text.specs.Parts.{name_scan}
use Rattle.live_failure.proofs.part.name_end.Given as goal

abbrev pub invariant-loop-byte : goal.invariant-loop-byte
invariant-loop-byte l =
    record { read : munch name_scan l.len l.rest ≡ munch name_scan 0 l.bytes; count : l.len + length l.rest ≡ length l.bytes }

abbrev pub decreases-loop-byte : goal.decreases-loop-byte
decreases-loop-byte l = length l.rest
