-- Places in a span of units.
use Rattle.std.specs.Prelude.{nat_abs}
use Rattle.std.proofs.Common.{ℕ, ◌<◌, ℤ, pos, ◌+ℤ◌, ◌-ℤ◌, ◌≤ℤ◌, arith}
use Rattle.std.proofs.lemmas.Int.{ints}

-- a place below the number of units lies in the span
pub within : (lo hi : ℤ) (place : ℕ) → lo ≤ℤ hi → place < nat_abs ((hi -ℤ lo) +ℤ pos 1) → (lo +ℤ pos place) ≤ℤ hi
within lo hi place order h = omega (arith, ints)
