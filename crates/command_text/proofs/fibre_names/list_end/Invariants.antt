use Rattle.std.proofs.Common.{◌≡◌, ◌≤◌, length}
use Rattle.command_text.specs.Reading.{munch}
use Rattle.command_text.specs.Parts.{fibre_scan}
use Rattle.command_text.proofs.fibre_names.list_end.Given as goal

abbrev pub invariant-loop-byte : goal.invariant-loop-byte
invariant-loop-byte l =
    record { read : munch fibre_scan l.name_len l.rest ≡ munch fibre_scan 0 l.bytes; few : length l.rest ≤ length l.bytes }

abbrev pub decreases-loop-byte : goal.decreases-loop-byte
decreases-loop-byte l = length l.rest
