use Rattle.std.proofs.Common.{◌≡◌, ℕ, ◌<◌, false}
use Rattle.eon_model.specs.Sets.{has_member}
use Rattle.route_list.specs.Ways.{keeps_to}
use Rattle.route_list.proofs.least.first_keeping.Given as goal

abbrev pub invariant-loop-fibre : goal.invariant-loop-fibre
invariant-loop-fibre l =
    (j : ℕ) → j < l.fibre → keeps_to l.net (has_member l.banned) (has_member l.closed) l.away l.node j ≡ false
