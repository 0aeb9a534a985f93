-- The routes that the candidates of a demand are made of.
use Rattle.std.specs.Prelude.{ℕ, List, [], Option}
use Rattle.eon_model.specs.declared.Class.{Class}
use Rattle.eon_model.specs.declared.Class.TheVariants.{Bare, Shared, Dual}
use Rattle.eon_model.specs.Route.{Route}
use Rattle.eon_model.specs.Routes.{first_routes}
use Rattle.eon_model.specs.Legal.{Setup}
use Rattle.eon_model.specs.Candidates.{max_reach, is_avoided, fails_with}

-- the first working routes within the greatest reach, which leave out the fibre to avoid
abbrev pub works_of : Setup → ℕ → ℕ → Option ℕ → List Route
works_of setup s t avoid =
    first_routes setup.network s t (is_avoided avoid) setup.k (max_reach setup.formats)

-- the first routes within the greatest reach that share no group with the working route
abbrev pub backups_of : Setup → ℕ → ℕ → Route → List Route
backups_of setup s t work =
    first_routes setup.network s t (fails_with setup.network work) setup.k (max_reach setup.formats)

-- those that a demand of this class is tried with: a bare one has no backup
abbrev pub backups_for : Setup → ℕ → ℕ → Class → Route → List Route
backups_for setup s t Bare work = []
backups_for setup s t Shared work = backups_of setup s t work
backups_for setup s t Dual work = backups_of setup s t work
