-- What is lit of one path.
use Rattle.std.specs.Prelude.{ℕ, Bool, true, List, [], ◌∷◌, Option}
use Rattle.std.specs.Option.{option_to_list}
use Rattle.eon_model.specs.LiveFailure.{Light, still_up, as_lights}
use Rattle.eon_model.specs.Names.{Name}
use Rattle.eon_model.specs.Services.{Path}

-- the path, where it is up
abbrev pub lit_path : List ℕ → Name → Bool → Path → List Light
lit_path failed name is_backup p = as_lights name is_backup (still_up failed (p ∷ []))

-- the backup, where it is there and up
abbrev pub lit_back : List ℕ → Name → Option Path → List Light
lit_back failed name back = as_lights name true (still_up failed (option_to_list back))
