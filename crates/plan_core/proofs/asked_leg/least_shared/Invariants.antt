use Rattle.std.proofs.Common.{◌≡◌}
use Rattle.eon_model.specs.Names.{least_name}
use Rattle.plan_core.specs.Placing.{shared_below}
use Rattle.plan_core.proofs.asked_leg.least_shared.Given as goal

-- of the groups before this one
abbrev pub invariant-loop-risk : goal.invariant-loop-risk
invariant-loop-risk l = l.least ≡ least_name (shared_below l.net l.a l.b l.risk)
