-- The first service with which a leg clashes, where the leg is a live service's own or no one's yet.
use Rattle.std.specs.Prelude.{Bool, ◌&&◌, ◌||◌, not, find, Option, Some, None}
use Rattle.std.specs.List.{list_all}
use Rattle.std.specs.Option.{option_map}
use Rattle.eon_model.specs.declared.Class.{Class}
use Rattle.eon_model.specs.Names.{Name}
use Rattle.eon_model.specs.Route.{share_group}
use Rattle.eon_model.specs.Services.{Leg, Service, State, legs_of, owned}
use Rattle.eon_model.specs.Legal.{is_dual, work_is_clear, backups_collide}
use Rattle.eon_model.specs.Step.{clashes_with, first_clash}

-- whether the backups of a leg of this class and of another service's leg of that class may hold the same
-- units: neither is lit, and their working routes share no group
abbrev pub may_share_apart : Class → Leg → Class → Leg → Bool
may_share_apart class p other q =
    not (is_dual class) && not (is_dual other) && not (share_group p.work.route q.work.route)

-- Clear, for the legs of two services: neither one's working holding overlaps a holding of the other,
-- and their backups overlap only where they may share units.
abbrev pub is_clear_apart : Class → Leg → Class → Leg → Bool
is_clear_apart class p other q =
    work_is_clear p q && work_is_clear q p && (not (backups_collide p q) || may_share_apart class p other q)

-- whether some leg of the service is not clear with this leg, of another service
abbrev pub clashes_apart : Class → Leg → Service → Bool
clashes_apart class l s = not (list_all (is_clear_apart class l s.class) (legs_of s))

-- the name of the first service with a leg that is not clear with this one, the owner left out;
-- without an owner, this one is of no service of the list
abbrev pub first_clash_of : State → Class → Leg → Option Name → Option Name
first_clash_of state class l (Some owner) = first_clash state (owned owner class l)
first_clash_of state class l None = option_map (λ s. s.name) (find (clashes_apart class l) state)

-- whether the service is one with which the leg, of this owner or of no one, clashes
abbrev pub clashes_of : Class → Leg → Option Name → Service → Bool
clashes_of class l (Some owner) s = clashes_with (owned owner class l) s
clashes_of class l None s = clashes_apart class l s
