use Rattle.std.proofs.Common.{◌≡◌, ◌≤ℤ◌, ◌+ℤ◌, pos, arith, to_z, of_z, w16, w32}
use Rattle.std.proofs.lemmas.Int.{ints}
use Rattle.spectrum_rows.proofs.SheetLaws.{units_bounds, unit_made}
use Rattle.spectrum_rows.proofs.sheet.unit_of.Goals as goal

pub returns : goal.returns
returns c =
    let bounds = units_bounds c.args.units.now c.lo.ensures.valid in
    let low = bounds.0 in
    let some = bounds.1 in
    let high = bounds.2 in
    let at = c.lo.ensures.value in
    let near = c.requires in
    let within : (c.args.units.now.lo +ℤ pos c.args.i) ≤ℤ c.args.units.now.hi = omega (arith, ints) in
    let same : to_z w16 (of_z w16 (to_z w32 (of_z w32 (to_z w32 (of_z w32 c.from.result) +ℤ to_z w32 (of_z w32 c.from-2.result)))))
    ≡ (c.args.units.now.lo +ℤ pos c.args.i) = omega (arith, ints) in
    unit_made c.args.units.now c.args.i _ c.make.result c.make.ensures.value same (omega (arith, ints))
