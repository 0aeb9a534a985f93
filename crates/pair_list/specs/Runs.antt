-- How many runs the search for candidates takes, each for one least route.
use Rattle.std.specs.Prelude.{ℕ, ◌+◌, ◌*◌, Bool, List, length, Option}
use Rattle.std.specs.List.{sum_by}
use Rattle.eon_model.specs.declared.Class.{Class}
use Rattle.eon_model.specs.declared.Class.TheVariants.{Bare, Shared, Dual}
use Rattle.eon_model.specs.Routes.{first_routes}
use Rattle.eon_model.specs.Legal.{Setup}
use Rattle.eon_model.specs.Candidates.{SizedRoute, max_reach, is_avoided, fails_with, routes_within_reach}
use Rattle.route_list.specs.Pools.{runs_for}

-- for the first routes without a banned fibre
abbrev pub runs_within : Setup → ℕ → ℕ → (ℕ → Bool) → ℕ
runs_within setup s t banned =
    runs_for setup.k (first_routes setup.network s t banned setup.k (max_reach setup.formats))

-- for the backups of a working route
abbrev pub runs_behind : Setup → ℕ → ℕ → SizedRoute → ℕ
runs_behind setup s t w = runs_within setup s t (fails_with setup.network w.route)

-- for the backups of these working routes, where the class has any
abbrev pub runs_over : Setup → ℕ → ℕ → Class → List SizedRoute → ℕ
runs_over setup s t Bare works = 0
runs_over setup s t Shared works = sum_by (runs_behind setup s t) works
runs_over setup s t Dual works = sum_by (runs_behind setup s t) works

-- for the working routes of a demand, and for the backups of each of them that the rate reaches over
abbrev pub runs_of_demand : Setup → ℕ → ℕ → ℕ → Class → Option ℕ → ℕ
runs_of_demand setup s t rate class avoid =
    runs_within setup s t (is_avoided avoid)
    + runs_over setup s t class (routes_within_reach setup s t rate (is_avoided avoid))

-- at most so many for one list of routes
abbrev pub most_within : Setup → ℕ
most_within setup = 1 + setup.k * length setup.network.nodes

-- for the backups of one working route
abbrev pub most_behind : Setup → Class → ℕ
most_behind setup Bare = 0
most_behind setup Shared = most_within setup
most_behind setup Dual = most_within setup

-- and for a demand, which has at most k working routes
abbrev pub most_for_demand : Setup → Class → ℕ
most_for_demand setup class = most_within setup + setup.k * most_behind setup class
