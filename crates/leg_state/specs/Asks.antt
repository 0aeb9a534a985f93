-- What the changes of one service ask of it.
use Rattle.std.specs.Prelude.{ℤ, Bool, false, ◌&&◌, not, is_some}
use Rattle.std.specs.List.{list_all}
use Rattle.std.specs.Option.{option_map_or, option_to_list}
use Rattle.eon_model.specs.Grid.{moved_to, is_slot}
use Rattle.eon_model.specs.Names.{Name}
use Rattle.eon_model.specs.Services.{Path, Leg, Service, State, is_drifting, is_making, is_moving, service_of}

-- whether a service has the name and passes the test
abbrev pub has_service : (Service → Bool) → State → Name → Bool
has_service test state name = option_map_or test (service_of state name) false

-- whether the path's slot can stand at the centre
abbrev pub can_stand : Path → ℤ → Bool
can_stand p n = is_slot (moved_to p.slot n)

-- whether the channel can stand where it drifts to
abbrev pub target_can_stand : Leg → Bool
target_can_stand l = list_all (can_stand l.work) (option_to_list l.to)

-- whether the backup, if there is one, can stand at the centre
abbrev pub backup_can_stand : Leg → ℤ → Bool
backup_can_stand l n = list_all (λ b. can_stand b n) (option_to_list l.back)

-- it is at rest, and its channel can stand at the centre
abbrev pub may_drift : ℤ → Service → Bool
may_drift n s = not (is_moving s) && can_stand s.leg.work n

-- it moves in one way
abbrev pub may_go_back : Service → Bool
may_go_back s = is_moving s && not (is_drifting s.leg && is_making s)

-- and where it drifts, its channel can stand there
abbrev pub may_finish : Service → Bool
may_finish s = may_go_back s && target_can_stand s.leg

-- it is at rest
abbrev pub may_make : Service → Bool
may_make s = not (is_moving s)

-- it is at rest, with a backup that can stand at the centre
abbrev pub may_refit : ℤ → Service → Bool
may_refit n s = not (is_moving s) && is_some s.leg.back && backup_can_stand s.leg n
