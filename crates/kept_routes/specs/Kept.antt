-- What is kept of searches.
use Rattle.std.specs.Prelude.{◌≡◌, ℕ, List, [], Option, None, Some, slice_get}
use Rattle.std.specs.List.{AllByRecursion}
use Rattle.eon_model.specs.Legal.{Setup}
use Rattle.eon_model.specs.Route.{Route}
use Rattle.pair_list.specs.Given.{works_of, backups_of}
use Rattle.kept_routes.specs.declared.table.Search.{Search}

-- the backups of a working route, if there is one
abbrev pub backups_at : Setup → ℕ → ℕ → Option Route → List Route
backups_at setup s t None = []
backups_at setup s t (Some work) = backups_of setup s t work

-- the working routes, or the backups behind the one of this rank
abbrev pub found_behind : Setup → ℕ → ℕ → List Route → Option ℕ → List Route
found_behind setup s t works None = works
found_behind setup s t works (Some rank) = backups_at setup s t (slice_get works rank)

-- what the search gives
abbrev pub found_by : Setup → Search → List Route
found_by setup search =
    found_behind setup search.s search.t (works_of setup search.s search.t search.avoid) search.behind

-- with each search is kept what it gives
abbrev pub AreFound : Setup → List (Search × List Route) → Type 0
AreFound setup entries = AllByRecursion (λ e. e.1 ≡ found_by setup e.0) entries
