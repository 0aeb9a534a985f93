-- What is known of each candidate.
use Rattle.std.specs.Prelude.{ℕ, nat_le, Bool, ◌&&◌}
use Rattle.std.specs.List.{list_all}
use Rattle.std.specs.Option.{option_to_list}
use Rattle.eon_model.specs.Route.{is_route}
use Rattle.eon_model.specs.Legal.{Setup, need_of, is_exactly}
use Rattle.eon_model.specs.Candidates.{SizedRoute, Candidate}

-- a route between the nodes with the width that the rate needs on it, which is 1 to 60,064 times 12.5 GHz
abbrev pub is_sized : Setup → ℕ → ℕ → ℕ → SizedRoute → Bool
is_sized setup s t rate r =
    is_route setup.network s t r.route && is_exactly (need_of setup rate r.route.km) r.m && nat_le 1 r.m
    && nat_le r.m 60064

-- so is the working route, and so is the backup route, if there is one
abbrev pub is_sized_candidate : Setup → ℕ → ℕ → ℕ → Candidate → Bool
is_sized_candidate setup s t rate c =
    is_sized setup s t rate c.work && list_all (is_sized setup s t rate) (option_to_list c.back)
