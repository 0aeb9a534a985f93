-- Fronts of routes: where they end, and what leaves the found routes there.
use Rattle.std.specs.Prelude.{◌≡◌, ℕ, ◌-◌, ◌==◌, ◌<◌, Bool, false, List, take, Option}
use Rattle.std.specs.Option.{option_map_or}
use Rattle.std.specs.List.{AllByRecursion}
use Rattle.eon_model.specs.Lists.{has_number}
use Rattle.eon_model.specs.Network.{Network}
use Rattle.eon_model.specs.Route.{Route, km_of}
use Rattle.eon_model.specs.Sets.{has_member}
use Rattle.eon_model.specs.Deviations as model
use Rattle.eon_model.specs.Deviations.{leads_to, passed}
use Rattle.route_list.specs.declared.deviation.Deviation.{Deviation}
use Rattle.route_list.specs.declared.deviation.Front.{Front}

-- the route, with this front
abbrev pub at_front : List ℕ → Route → model.Deviation
at_front front r = record { front = front; route = r }

-- the deviation of the planning rules that this one stands for
abbrev pub seen : Deviation → model.Deviation
seen d = at_front (take d.shared d.route.fibres) d.route

-- the front ends there
pub record StandsAt (net : Network) (s max_km : ℕ) (front : List ℕ) (f : Front) : Type 0 where
  pub node : f.node ≡ leads_to net.fibres s front
  pub passed : (n : ℕ) → has_member f.passed n ≡ has_number (passed net.fibres s front) n
  pub left : f.left ≡ max_km - km_of net front

-- whether it is this fibre
abbrev pub leads_by : ℕ → Option ℕ → Bool
leads_by i o = option_map_or (λ k. i == k) o false

-- the fibres of the routes have numbers below 128
abbrev pub AreNumbers : List Route → Type 0
AreNumbers routes = AllByRecursion (λ r. AllByRecursion (λ i. i < 128) r.fibres) routes
