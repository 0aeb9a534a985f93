use Rattle.std.proofs.Common.{[], ◌∷◌, arith}
use Rattle.spectrum_map.specs.Kept.{holders_in}
use Rattle.spectrum_rows.proofs.SheetLaws.{room_one, sheet-more, held_few}
use Rattle.spectrum_rows.proofs.sheet.Sheet.hold.Goals as goal

pub add_held-requires-clause-room : goal.add_held-requires-clause-room
add_held-requires-clause-room c =
    let s = c.args.self.now.kept in
    let few = c.if-self-ge-MOST_HOLDS.false in
    room_one (holders_in c.args.self.now.maps) c.args.self.now.holds c.args.fibre c.args.units s.few (omega (arith, few))

pub invariant_of-self : goal.invariant_of-self
invariant_of-self c =
    let s = c.args.self.now.kept in
    record {
      kept = sheet-more _ _ _ _ _ c.args.self.now.kept _ _ c.add_held.ensures
          (held_few c.args.units (c.args.fibre ∷ []) (holders_in c.args.self.now.maps) c.args.self.now.holds s.few);
      suited = c.args.self.now.suited;
    }
