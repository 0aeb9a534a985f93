use Rattle.std.proofs.Common.{◌≡◌, length}
use Rattle.spectrum_map.specs.Bits.{bit_of}
use Rattle.spectrum_map.proofs.RangeLaws.{RowsCleared}
use Rattle.spectrum_map.proofs.bits.clear_in_rows.Given as goal

-- the rows so far are done
abbrev pub invariant-loop-row : goal.invariant-loop-row
invariant-loop-row l = record {
  len : length l.words ≡ length l.initial.words;
  bits : RowsCleared (bit_of l.initial.words) (bit_of l.words) l.rows l.row-index l.first l.end;
}
