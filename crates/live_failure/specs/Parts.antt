-- What is told of one service, and how its backup stands in the way of others.
use Rattle.std.specs.Prelude.{ℕ, Bool, false, ◌&&◌, ◌||◌, not, List, [], ◌∷◌, Option, Some, None, if◌then◌else◌}
use Rattle.std.specs.List.{list_any}
use Rattle.eon_model.specs.declared.Class.{Class}
use Rattle.eon_model.specs.Names.{Name, same_name}
use Rattle.eon_model.specs.Route.{hits}
use Rattle.eon_model.specs.Services.{Path, Service, State}
use Rattle.eon_model.specs.Legal.{is_shared, is_dual}
use Rattle.eon_model.specs.Moments.{paths_collide}
use Rattle.eon_model.specs.LiveFailure.{Fate, Keeps, Switches, GoesDark, is_down, fate_with}

-- ---- what becomes of a service that is hit

-- with this backup, by its name and its class
abbrev pub fate_by : Name → Class → Option Path → Fate
fate_by name class None = GoesDark name
fate_by name class (Some back) =
    if is_dual class then Keeps name back else if is_shared class then Switches name back else GoesDark name

-- what becomes of the service, where the group hits its old leg's working route
abbrev pub fates_by : ℕ → Service → List Fate
fates_by g s = if hits g s.leg.work.route then fate_with s s.leg.back ∷ [] else []

-- ---- which services are dark

-- whether the backup is there and no failed group hits it
abbrev pub backup_up : List ℕ → Option Path → Bool
backup_up failed None = false
backup_up failed (Some p) = not (is_down failed p.route)

-- whether both are there and overlap on a common fibre
abbrev pub backs_overlap : Option Path → Option Path → Bool
backs_overlap None other = false
backs_overlap (Some p) None = false
backs_overlap (Some p) (Some q) = paths_collide p q

-- whether it is another shared service, the backup of which overlaps this one's
abbrev pub is_rival : Service → Service → Bool
is_rival s t = is_shared t.class && not (same_name t.name s.name) && backs_overlap s.leg.back t.leg.back

-- whether its backup has taken over
abbrev pub has_switched : List ℕ → Service → Bool
has_switched failed t = is_down failed t.leg.work.route && backup_up failed t.leg.back

-- whether a rival's backup has taken over
abbrev pub is_crossed : State → List ℕ → Service → Bool
is_crossed state failed s = list_any (λ t. has_switched failed t && is_rival s t) state

-- The working route is down, and the backup is not lit, or is a shared one that is crossed.
abbrev pub lost_where : Bool → List ℕ → Service → Bool
lost_where crossed failed s =
    is_down failed s.leg.work.route && (not (backup_up failed s.leg.back) || is_shared s.class && crossed)

-- the same, crossed by a rival of the state
abbrev pub is_lost : State → List ℕ → Service → Bool
is_lost state failed s = lost_where (is_crossed state failed s) failed s
