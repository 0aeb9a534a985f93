use Rattle.std.proofs.Common.{arith}
use Rattle.std.proofs.lemmas.Int.{ints}
use Rattle.spectrum_rows.proofs.SheetLaws.{units_bounds}
use Rattle.spectrum_rows.proofs.sheet.count_of.Goals as goal

pub overflow_cast-result : goal.overflow_cast-result
overflow_cast-result c =
    let bounds = units_bounds c.args.units.now c.hi.ensures.valid in
    let low = bounds.0 in
    let some = bounds.1 in
    let high = bounds.2 in
    let lo = c.lo.ensures.value in
    let hi = c.hi.ensures.value in
    (omega (arith, ints), omega (arith, ints))
