-- Codes of the candidates that a pair stands for, and which numbers are kept in a fixed buffer.
use Rattle.std.specs.Prelude.{ℕ, ◌≤◌, ◌<◌, All, List, length, Option, refl}
use Rattle.std.specs.Coded.{Coded, code_by, coded×, coded_ℕ, coded_option}
use Rattle.eon_model.specs.Route.{Route}
use Rattle.eon_model.specs.Codes.{route_code}
use Rattle.eon_model.specs.Candidates.{SizedRoute, Candidate}

-- by its route and its width
abbrev pub sized_code : Coded SizedRoute
sized_code = code_by (Route × ℕ) (coded× route_code coded_ℕ)
    (λ r. (r.route, r.m)) (λ p. record { route = p.0; m = p.1 }) (λ _. refl)

-- by its two routes
abbrev pub candidate_code : Coded Candidate
candidate_code = code_by (SizedRoute × Option SizedRoute) (coded× sized_code (coded_option sized_code))
    (λ c. (c.work, c.back)) (λ p. record { work = p.0; back = p.1 }) (λ _. refl)

-- at most 63 numbers, each below 128
pub record AreFibreNumbers (numbers : List ℕ) : Type 0 where
  pub few : length numbers ≤ 63
  pub below : All (λ n. n < 128) numbers
