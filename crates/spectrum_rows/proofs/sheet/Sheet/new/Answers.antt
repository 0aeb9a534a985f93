use Rattle.spectrum_rows.proofs.SheetLaws.{new_sheet}
use Rattle.spectrum_rows.proofs.sheet.Sheet.new.Goals as goal

pub invariant_of-result : goal.invariant_of-result
invariant_of-result c = record {
  kept = new_sheet c.in_ok-new.field-0 c.args.band c.args.fibres c.in_ok-new.ensures;
  suited = record { band_is = c.in_ok-new-2.ensures.band; count = c.in_ok-new-2.ensures.fibres };
}
