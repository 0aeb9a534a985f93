use Rattle.std.proofs.Common.{◌≡◌, arith}
use Rattle.std.proofs.lemmas.Int.{ints}
use Rattle.eon_model.specs.Grid.{Units, units_of, moved_to}
use Rattle.leg_state.proofs.holding.Span.around.Goals as goal

same_units : (a b : Units) → a.lo ≡ b.lo → a.hi ≡ b.hi → a ≡ b
same_units a b p q = λ i. record { lo = p i; hi = q i }

pub returns-clause-units : goal.returns-clause-units
returns-clause-units c =
    let width = c.m.ensures.value in
    same_units _ (units_of (moved_to c.args.slot.now c.args.n)) (omega (arith, ints)) (omega (arith, ints))
