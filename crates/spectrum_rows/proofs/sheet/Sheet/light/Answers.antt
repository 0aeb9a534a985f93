use Rattle.std.proofs.Common.{◌∙◌, sym}
use Rattle.spectrum_map.specs.Kept.{rows_in}
use Rattle.spectrum_rows.proofs.SheetLaws.{dark_one, sheet-kept}
use Rattle.spectrum_rows.proofs.sheet.Sheet.light.Goals as goal

pub add_lit-requires-clause-dark : goal.add_lit-requires-clause-dark
add_lit-requires-clause-dark c =
    dark_one (rows_in c.args.self.now.maps) c.args.fibre c.args.units (sym c.lit.ensures ∙ c.if-lit.false)

pub invariant_of-self : goal.invariant_of-self
invariant_of-self c =
    let s = c.args.self.now.kept in
    record { kept = sheet-kept _ _ _ _ _ c.args.self.now.kept _ _ c.add_lit.ensures s.few; suited = c.args.self.now.suited }
