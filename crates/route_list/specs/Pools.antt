-- The deviations from the found routes, and how many runs a search takes.
use Rattle.std.specs.Prelude.{◌≡◌, ℕ, zero, suc, ◌+◌, Bool, false, List, [], filter, take, length, Option, None, Some}
use Rattle.std.specs.List.{sum_by}
use Rattle.std.specs.declared.cmp.Ordering.{Ordering}
use Rattle.std.specs.Ordering.{nat_cmp, ordering_then, is_lt}
use Rattle.std.specs.Cmp.Lexicographic.{slice_cmp}
use Rattle.eon_model.specs.Lists.{IsAmong}
use Rattle.eon_model.specs.Route.{Route}
use Rattle.eon_model.specs.Deviations.{Deviation}

-- the shorter first; of one length, the one whose list of numbers is less
abbrev pub numbers_cmp : Route → Route → Ordering
numbers_cmp p q = ordering_then (nat_cmp p.km q.km) (slice_cmp nat_cmp p.fibres q.fibres)

-- The route of one of them was taken, before which none of them comes; or there was none.
pub record IsTakenOf (old fresh : List Deviation) (r : Route) : Type 0 where
  pub deviation : Deviation
  pub among : IsAmong deviation old
  pub route : deviation.route ≡ r
  pub first : (d : Deviation) → IsAmong d old → is_lt (numbers_cmp d.route r) ≡ false
  pub others : (keep : Deviation → Bool) → keep deviation ≡ false → filter keep fresh ≡ filter keep old

abbrev pub IsTaken : List Deviation → List Deviation → Option Route → Type 0
IsTaken old fresh None = old ≡ []
IsTaken old fresh (Some r) = IsTakenOf old fresh r

-- the fibres of these routes together
abbrev pub fibres_in : List Route → ℕ
fibres_in routes = sum_by (λ r. length r.fibres) routes

-- how many runs find these routes, where k were asked for: one, and one for each fibre of all but the last of k
abbrev pub runs_for : ℕ → List Route → ℕ
runs_for zero routes = 0
runs_for (suc k) routes = 1 + fibres_in (take k routes)
