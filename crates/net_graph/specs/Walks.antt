-- The route that a list of fibres is, if it is one.
use Rattle.std.specs.Prelude.{ℕ, List, slice_get, Option, Some, None, if◌then◌else◌}
use Rattle.std.specs.Option.{option_and_then}
use Rattle.eon_model.specs.Network.{Network, Fibre}
use Rattle.eon_model.specs.Route.{Route, far_end, walks, route_of}

-- the route of these fibres from s to t, with its length and its risk
abbrev pub route_from : Network → ℕ → ℕ → List ℕ → Option Route
route_from net s t fibres = if walks net.fibres s t fibres then Some (route_of net fibres) else None

-- the node at the far end of the fibre of this number
abbrev pub node_after : List Fibre → ℕ → ℕ → Option ℕ
node_after fibres node i = option_and_then (far_end node) (slice_get fibres i)
