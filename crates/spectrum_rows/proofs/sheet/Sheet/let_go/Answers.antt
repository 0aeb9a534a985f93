use Rattle.std.proofs.Common.{[], ◌∷◌}
use Rattle.spectrum_map.specs.Kept.{holders_in}
use Rattle.spectrum_rows.proofs.SheetLaws.{some_one, sheet-kept, let_go_few}
use Rattle.spectrum_rows.proofs.sheet.Sheet.let_go.Goals as goal

pub take_held-requires-clause-some : goal.take_held-requires-clause-some
take_held-requires-clause-some c =
    some_one (holders_in c.args.self.now.maps) c.args.fibre c.args.units
    (c.each_is_held.ensures c.if-not-each_is_held.false)

pub invariant_of-self : goal.invariant_of-self
invariant_of-self c =
    let s = c.args.self.now.kept in
    record {
      kept = sheet-kept _ _ _ _ _ c.args.self.now.kept _ _ c.take_held.ensures
          (let_go_few c.args.units (c.args.fibre ∷ []) (holders_in c.args.self.now.maps) c.args.self.now.holds s.few);
      suited = c.args.self.now.suited;
    }
