use Rattle.std.proofs.Common.{pos, ◌+ℤ◌, ◌-ℤ◌, to_z, of_z, w16, arith}
use Rattle.std.proofs.lemmas.Int.{ints}
use Rattle.eon_model.specs.Grid.{Slot}
use Rattle.flex_grid.proofs.GridFacts.{slot-facts, units_made}
use Rattle.flex_grid.proofs.units.Units.of_slot.Goals as goal

pub invariant_of-result : goal.invariant_of-result
invariant_of-result c =
    let s : Slot = record { n = c.args.n; m = c.args.m } in
    let f = slot-facts s c.requires in
    let lo = to_z w16 (of_z w16 (to_z w16 (of_z w16 c.args.n) -ℤ to_z w16 c.args.m)) in
    let top = to_z w16 (of_z w16 (to_z w16 (of_z w16 c.args.n) +ℤ to_z w16 c.args.m)) in
    let hi = to_z w16 (of_z w16 (top -ℤ pos 1)) in
    (units_made s lo hi c.requires (omega (arith, ints)) (omega (arith, ints))).0

pub returns : goal.returns
returns c =
    let s : Slot = record { n = c.args.n; m = c.args.m } in
    let f = slot-facts s c.requires in
    let lo = to_z w16 (of_z w16 (to_z w16 (of_z w16 c.args.n) -ℤ to_z w16 c.args.m)) in
    let top = to_z w16 (of_z w16 (to_z w16 (of_z w16 c.args.n) +ℤ to_z w16 c.args.m)) in
    let hi = to_z w16 (of_z w16 (top -ℤ pos 1)) in
    (units_made s lo hi c.requires (omega (arith, ints)) (omega (arith, ints))).1
