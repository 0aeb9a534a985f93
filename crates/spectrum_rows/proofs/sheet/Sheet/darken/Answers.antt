use Rattle.spectrum_map.specs.Kept.{lit_in}
use Rattle.spectrum_rows.proofs.SheetLaws.{each_one, sheet-kept}
use Rattle.spectrum_rows.proofs.sheet.Sheet.darken.Goals as goal

pub take_lit-requires-clause-lit : goal.take_lit-requires-clause-lit
take_lit-requires-clause-lit c =
    each_one (lit_in c.args.self.now.maps) c.args.fibre c.args.units (c.each_is_lit.ensures c.if-not-each_is_lit.false)

pub invariant_of-self : goal.invariant_of-self
invariant_of-self c =
    let s = c.args.self.now.kept in
    record { kept = sheet-kept _ _ _ _ _ c.args.self.now.kept _ _ c.take_lit.ensures s.few; suited = c.args.self.now.suited }
