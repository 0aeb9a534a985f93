-- The rivals of a service by their places in the list, and which services one group more makes dark.
use Rattle.std.specs.Prelude.{◌≡◌, ℕ, ◌+◌, Bool, false, ◌&&◌, List, [], ◌∷◌, map, take, Option, Some, None, find, slice_get, if◌then◌else◌}
use Rattle.std.specs.Option.{option_or, option_to_list}
use Rattle.std.specs.List.{list_any}
use Rattle.eon_model.specs.LiveFailure.{Weak, GroupPair, Audit}
use Rattle.eon_model.specs.Services.{Service, State}
use Rattle.live_failure.specs.Parts.{is_rival, has_switched, is_lost}

-- whether a service stands at the place that passes
abbrev pub passes_at : State → (Service → Bool) → ℕ → Bool
passes_at state test place = elim (slice_get state place) [ Some t ↦ test t | None ↦ false ]

-- the place, where a rival of the service stands there
abbrev pub rival_at : State → Service → ℕ → List ℕ
rival_at state s place = if passes_at state (is_rival s) place then place ∷ [] else []

-- What passes at some of these places passes at some rival among the first n services, and the other way round.
abbrev pub AreRivals : State → ℕ → Service → List ℕ → Type 0
AreRivals state n s places =
    (test : Service → Bool) → list_any (passes_at state test) places ≡ list_any (λ t. test t && is_rival s t) (take n state)

-- whether the backup of a service at one of the places has taken over
abbrev pub crossed_at : State → List ℕ → List ℕ → Bool
crossed_at state places failed = list_any (passes_at state (has_switched failed)) places

-- the first of these groups that makes the service dark, where it is not dark already
abbrev pub threat_by : List ℕ → State → List ℕ → Service → Option ℕ
threat_by order state failed s =
    if is_lost state failed s then None else find (λ g. is_lost state (g ∷ failed) s) order

-- with that group
abbrev pub weak_by : List ℕ → State → List ℕ → Service → List Weak
weak_by order state failed s =
    map (λ g. record { name = s.name; group = g }) (option_to_list (threat_by order state failed s))

-- ---- pairs of groups

-- what an audit has found, and one pair more
abbrev pub with_pair : Audit → Bool → GroupPair → Audit
with_pair a dark p = if dark then record { pairs = a.pairs + 1; first = option_or a.first (Some p) } else a

-- and these pairs more
abbrev pub with_pairs : State → Service → Audit → List GroupPair → Audit
with_pairs state s a [] = a
with_pairs state s a (p ∷ ps) = with_pairs state s (with_pair a (is_lost state (p.one ∷ p.two ∷ []) s) p) ps

-- the group with each of these
abbrev pub pairs_with : ℕ → List ℕ → List GroupPair
pairs_with g later = map (λ h. record { one = g; two = h }) later

-- nothing found yet
abbrev pub no_audit : Audit
no_audit = record { pairs = 0; first = None }
