use Rattle.std.proofs.Common.{negsuc, ◌≤ℤ◌, arith}
use Rattle.std.proofs.lemmas.Int.{ints}
use Rattle.eon_model.specs.Grid.{Slot}
use Rattle.flex_grid.proofs.GridFacts.{slot-facts}
use Rattle.flex_grid.proofs.slot.Slot.centre_mhz.Goals as goal

pub overflow_cast-result : goal.overflow_cast-result
overflow_cast-result c =
    let s : Slot = record { n = c.self.inside.n; m = c.self.inside.m } in
    let f = slot-facts s c.self.invariant in
    let low : negsuc 4095 ≤ℤ c.from.result = omega (arith, ints) in
    (omega (arith, ints), omega (arith, ints))
