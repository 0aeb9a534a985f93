use Rattle.std.proofs.Common.{◌≡◌, ◌*◌, ◌^◌, ◌<◌, ◌≤◌, true, take}
use Rattle.std.specs.List.{list_all}
use Rattle.eon_model.specs.Numerals.{is_digit, number_value}
use Rattle.eon_base.proofs.number.read_digits.Given as goal

-- digits so far, and their number, or one beyond 64 bits where theirs is too
abbrev pub invariant-loop-byte : goal.invariant-loop-byte
invariant-loop-byte l = record {
  digits : list_all is_digit (take l.byte-index l.bytes) ≡ true;
  same : l.value < 2 ^ 64 → l.value ≡ number_value (take l.byte-index l.bytes);
  beyond : 2 ^ 64 ≤ l.value → 2 ^ 64 ≤ number_value (take l.byte-index l.bytes);
  room : l.value < 10 * 2 ^ 64;
}
