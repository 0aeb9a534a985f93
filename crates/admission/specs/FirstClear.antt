-- The first placement whose paths lie in the band and whose leg is clear of all services.
use Rattle.std.specs.Prelude.{Bool, false, ◌&&◌, ◌||◌, not, List, ◌∷◌, find, Option, Some, None}
use Rattle.std.specs.List.{list_all}
use Rattle.std.specs.Option.{option_to_list}
use Rattle.eon_model.specs.declared.Class.{Class}
use Rattle.eon_model.specs.Grid.{Slot, Band, units_of, lies_in_band, is_slot}
use Rattle.eon_model.specs.Route.{Route, share_group}
use Rattle.eon_model.specs.Services.{Leg, Service, State, legs_of, collides, working_holding}
use Rattle.eon_model.specs.Legal.{is_dual, work_is_clear, backups_collide}
use Rattle.eon_model.specs.Candidates.{Candidate}
use Rattle.eon_model.specs.FirstFit.{Placement, leg_placed, placements_from}

-- whether the slot is one of the grid and lies in one part of the band
abbrev pub stands_in : Band → Slot → Bool
stands_in band slot = is_slot slot && lies_in_band band (units_of slot)

-- whether the service has the leg beside which the new one comes: their channels overlap, and in a legal list
-- the channels of two services never do
abbrev pub is_beside : Option Leg → Service → Bool
is_beside None s = false
is_beside (Some own) s = collides (working_holding own) (working_holding s.leg)

-- whether the backups of two legs, of one service or not, with these classes and working routes, may hold the same
-- units: neither is lit, and both legs are one service's or their working routes share no group
abbrev pub may_share : Bool → Class → Route → Class → Route → Bool
may_share own class work other q =
    not (is_dual class) && not (is_dual other) && (own || not (share_group work q))

-- whether two legs, of one service or not, with these classes, are clear
abbrev pub are_clear : Bool → Class → Leg → Class → Leg → Bool
are_clear own class p other q =
    work_is_clear p q && work_is_clear q p
    && (not (backups_collide p q) || may_share own class p.work.route other q.work.route)

-- whether the leg, of a service of this class, is clear of the legs of the service
abbrev pub is_clear_with : Class → Option Leg → Leg → Service → Bool
is_clear_with class own l s = list_all (are_clear (is_beside own s) class l s.class) (legs_of s)

-- whether the slots of the leg lie in the band, and it is clear of all services
abbrev pub may_stand : State → Band → Class → Option Leg → Leg → Bool
may_stand list band class own l =
    list_all (λ p. stands_in band p.slot) (l.work ∷ option_to_list l.back)
    && list_all (is_clear_with class own l) list

-- whether the leg of the placement may stand
abbrev pub placement_stands : State → Band → Class → Option Leg → Placement → Bool
placement_stands list band class own p = may_stand list band class own (leg_placed p)

-- the first placement, in order, whose leg may stand
abbrev pub first_clear : State → Band → Class → List Candidate → Option Leg → Option Placement
first_clear list band class pairs own =
    find (placement_stands list band class own) (placements_from band 0 pairs)
