-- The list of live services, with room for more.
use Rattle.std.specs.Prelude.{◌≡◌, ℕ, List, map, refl}
use Rattle.std.specs.List.{AllByRecursion}
use Rattle.std.specs.Coded.{Coded, code_by, coded×, coded_ℕ}
use Rattle.eon_model.specs.Names.{Name}
use Rattle.eon_model.specs.Services.{Service, State}
use Rattle.eon_model.specs.Codes.{state_code}

-- The services in order of admission, and how many more can enter without memory.
pub record ServicesSeen : Type 0 where
  pub list : State
  pub spare : ℕ

-- by its list and its room
abbrev pub seen_code : Coded ServicesSeen
seen_code = code_by (State × ℕ) (coded× state_code coded_ℕ)
    (λ s. (s.list, s.spare)) (λ p. record { list = p.0; spare = p.1 }) (λ _. refl)

-- the names of the services, in order
abbrev pub service_names : State → List Name
service_names state = map (λ s. s.name) state

-- each service stands under its own name
abbrev pub IsNamed : List (Name × Service) → Type 0
IsNamed entries = AllByRecursion (λ e. e.0 ≡ e.1.name) entries
