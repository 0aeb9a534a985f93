use Rattle.spectrum_map.specs.Kept.{rows_in}
use Rattle.spectrum_rows.specs.Sheets.{PassTo}
use Rattle.spectrum_rows.proofs.sheet.Sheet.each_is_lit.Given as goal

-- the units so far pass
abbrev pub invariant-loop-i : goal.invariant-loop-i
invariant-loop-i l = PassTo ((rows_in l.self.maps).lit l.fibre) l.units l.i
