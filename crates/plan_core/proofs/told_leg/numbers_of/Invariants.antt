use Rattle.std.proofs.Common.{◌≡◌, take}
use Rattle.plan_core.proofs.told_leg.numbers_of.Given as goal

-- the numbers before this place
abbrev pub invariant-loop-i : goal.invariant-loop-i
invariant-loop-i l = l.numbers.items ≡ take l.i l.fibres
