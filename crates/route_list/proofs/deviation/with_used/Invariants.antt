use Rattle.std.proofs.Common.{◌≡◌, ℕ, ◌||◌, [], ◌∷◌, ◌++◌, take}
use Rattle.std.specs.List.{list_any}
use Rattle.eon_model.specs.Sets.{has_member}
use Rattle.eon_model.specs.Deviations.{begins_with}
use Rattle.route_list.proofs.deviation.with_used.Given as goal

abbrev pub invariant-loop-route : goal.invariant-loop-route
invariant-loop-route l =
    (i : ℕ) → has_member l.used i
    ≡ (has_member l.banned i || list_any (λ q. begins_with (l.front ++ i ∷ []) q.fibres) (take l.route-index l.found))
