-- What following an event asks, part by part.
use Rattle.std.specs.Prelude.{ℕ, ℤ, nat_le, nat_lt, Bool, true, false, ◌&&◌, ◌||◌, not, length, is_some}
use Rattle.std.specs.Ordering.{int_eq}
use Rattle.std.specs.Option.{option_map_or, option_to_list}
use Rattle.std.specs.List.{list_all}
use Rattle.eon_model.specs.declared.Class.{Class}
use Rattle.eon_model.specs.Grid.{Slot, Band, units_of, lies_in_band}
use Rattle.eon_model.specs.Names.{Name}
use Rattle.eon_model.specs.Route.{Route, is_route, share_group}
use Rattle.eon_model.specs.Services.{Path, Leg, Service, State, service_of, is_moving}
use Rattle.eon_model.specs.Legal.{Setup, need_of, is_exactly, is_protected, is_dual, work_is_clear, backups_collide}
use Rattle.eon_model.specs.Events as events
use Rattle.eon_model.specs.Replay.{same_class}
use Rattle.eon_model.specs.Step.{Outcome, Change}
use Rattle.make_rule.specs.Refits.{may_back}

-- whether the event brings a service or a leg, which only memory can give
abbrev pub brings_leg : events.Event → Bool
brings_leg (events.Event.Enter text) = true
brings_leg (events.Event.Make name class text) = true
brings_leg _ = false

-- whether what a command comes to is a change
abbrev pub is_change : Outcome → Bool
is_change (Change e reply) = true
is_change _ = false

-- whether the backup of this service may go to the centre, which is another one
abbrev pub back_may_move : State → Band → Name → ℤ → Service → Bool
back_may_move state band name n s =
    option_map_or (λ b. not (int_eq n b.slot.n) && may_back state band name s.class s.leg b n) s.leg.back false

-- whether the slot has the width that the rate needs over so many km, and lies in the band
abbrev pub slot_suits : Setup → ℕ → ℕ → Slot → Bool
slot_suits setup rate km slot =
    nat_le 1 slot.m && is_exactly (need_of setup rate km) slot.m && lies_in_band setup.band (units_of slot)

-- whether the path may carry this rate between these nodes
abbrev pub path_suits : Setup → ℕ → ℕ → ℕ → Path → Bool
path_suits setup src dst rate p =
    is_route setup.network src dst p.route && nat_le 1 p.slot.m && is_exactly (need_of setup rate p.route.km) p.slot.m
    && lies_in_band setup.band (units_of p.slot)

-- and beside this working route
abbrev pub backup_suits : Setup → ℕ → ℕ → ℕ → Route → Path → Bool
backup_suits setup src dst rate work b = path_suits setup src dst rate b && not (share_group work b.route)

-- whether a leg that stands still may carry it, in a service of this class
abbrev pub leg_suits : Setup → ℕ → ℕ → ℕ → Class → Leg → Bool
leg_suits setup src dst rate class l =
    (path_suits setup src dst rate l.work && true)
    && (not (is_protected class) && not (is_some l.back)
    || is_protected class && is_some l.back
    && list_all (backup_suits setup src dst rate l.work.route) (option_to_list l.back))

-- whether a service of this name, between these nodes, may be new in the list
abbrev pub may_join : Setup → State → Name → ℕ → ℕ → Bool
may_join setup state name src dst =
    not (is_some (service_of state name)) && nat_lt (length state) setup.services
    && nat_lt src (length setup.network.nodes) && nat_lt dst (length setup.network.nodes)

-- whether the service is at rest and of this class
abbrev pub may_begin : Class → Service → Bool
may_begin class s = not (is_moving s) && same_class class s.class

-- whether a second leg of a service of this class is clear of its first one
abbrev pub is_clear_second : Class → Leg → Leg → Bool
is_clear_second class own l =
    work_is_clear own l && work_is_clear l own && (not (backups_collide own l) || not (is_dual class))
