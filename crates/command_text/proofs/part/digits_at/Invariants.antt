use Rattle.std.proofs.Common.{◌≡◌, ◌≤◌, length}
use Rattle.command_text.specs.Reading.{munch}
use Rattle.command_text.specs.Parts.{positive_scan}
use Rattle.command_text.proofs.part.digits_at.Given as goal

abbrev pub invariant-loop-byte : goal.invariant-loop-byte
invariant-loop-byte l =
    record {
      read : munch (positive_scan l.most) l.number l.rest ≡ munch
          (positive_scan l.most) 0 l.bytes;
      few : l.number ≤ l.most;
    }

abbrev pub decreases-loop-byte : goal.decreases-loop-byte
decreases-loop-byte l = length l.rest
