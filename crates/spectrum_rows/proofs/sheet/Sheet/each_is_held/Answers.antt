use Rattle.spectrum_map.specs.Kept.{rows_in}
use Rattle.spectrum_rows.proofs.SheetLaws.{pass_more}
use Rattle.spectrum_rows.proofs.sheet.Sheet.each_is_held.Goals as goal

pub loop-i-preserved : goal.loop-i-preserved
loop-i-preserved c =
    pass_more ((rows_in c.args.self.now.maps).held c.args.fibre) c.args.units.now c.loop-i.i c.loop-i.invariant
    (c.is_held_at.ensures c.if-not-is_held_at.false)
