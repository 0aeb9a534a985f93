use Rattle.std.proofs.Common.{◌∙◌, sym}
use Rattle.spectrum_map.specs.Kept.{rows_in}
use Rattle.spectrum_rows.proofs.SheetLaws.{unit_inside, one_passes}
use Rattle.spectrum_rows.proofs.sheet.Sheet.is_held_at.Goals as goal

pub held-requires-clause-units : goal.held-requires-clause-units
held-requires-clause-units c =
    unit_inside c.args.self.now.maps c.args.self.now.band c.args.self.now.fibres c.args.self.now.holds c.args.units.now
    c.in-Some.unit c.args.i c.args.self.now.kept c.requires.units c.in-Some.ensures

pub returns-in-Some : goal.returns-in-Some
returns-in-Some c h =
    one_passes ((rows_in c.args.self.now.maps).held c.args.fibre) c.args.units.now c.in-Some.unit c.args.i
    c.in-Some.ensures (sym c.held.ensures ∙ h)
