use Rattle.std.proofs.Common.{pos, negsuc, ◌≤ℤ◌, to_z, of_z, w16, arith}
use Rattle.std.proofs.lemmas.Int.{ints, clamps}
use Rattle.eon_model.specs.Grid.{Units}
use Rattle.flex_grid.proofs.GridFacts.{units-facts, facts-units}
use Rattle.flex_grid.proofs.units.Units.hull.Goals as goal

pub invariant_of-result : goal.invariant_of-result
invariant_of-result c =
    let a : Units = record { lo = c.self.inside.lo; hi = c.self.inside.hi } in
    let b : Units = record { lo = c.other.inside.lo; hi = c.other.inside.hi } in
    let f = units-facts a c.self.invariant in
    let g = units-facts b c.other.invariant in
    let lo = to_z w16 (of_z w16 c.min.result) in
    let hi = to_z w16 (of_z w16 c.max.result) in
    let low : negsuc 4095 ≤ℤ lo = omega (arith, ints, clamps) in
    let order : lo ≤ℤ hi = omega (arith, ints, clamps) in
    let high : hi ≤ℤ pos 4095 = omega (arith, ints, clamps) in
    facts-units (record { lo = lo; hi = hi }) (record { low = low; order = order; high = high })
