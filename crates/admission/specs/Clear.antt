-- Whether one path of a new leg fits, whatever the other one is.
use Rattle.std.specs.Prelude.{ℤ, Bool, ◌&&◌, ◌||◌, not, ◌∷◌, find, Option, Some, None}
use Rattle.std.specs.Option.{option_map}
use Rattle.std.specs.List.{list_all, list_any}
use Rattle.eon_model.specs.declared.Class.{Class}
use Rattle.eon_model.specs.Grid.{Band}
use Rattle.eon_model.specs.Route.{Route}
use Rattle.eon_model.specs.Services.{Path, Leg, Service, State, Holding, collides, holding_of, working_holding, backup_holdings, legs_of}
use Rattle.eon_model.specs.Candidates.{SizedRoute}
use Rattle.eon_model.specs.FirstFit.{path_at, centres_in}
use Rattle.admission.specs.FirstClear.{stands_in, is_beside, may_share}

-- whether a channel that holds this overlaps no holding of the leg
abbrev pub work_is_clear_of : Holding → Leg → Bool
work_is_clear_of h l = list_all (λ k. not (collides h k)) (working_holding l ∷ backup_holdings l)

-- whether a backup that holds this overlaps the backup of the leg
abbrev pub meets_backup_of : Holding → Leg → Bool
meets_backup_of h l = list_any (collides h) (backup_holdings l)

-- whether a backup that holds this is clear of the leg, where the leg's backup may hold the same units or not
abbrev pub back_clears : Holding → Bool → Leg → Bool
back_clears h shares l = not (collides h (working_holding l)) && (not (meets_backup_of h l) || shares)

-- the same for a backup of this class and working route, and a leg of this class, of one service or not
abbrev pub back_is_clear_of : Bool → Class → Route → Holding → Class → Leg → Bool
back_is_clear_of own class work h other l = back_clears h (may_share own class work other l.work.route) l

-- and of all legs of the service
abbrev pub work_is_clear_of_service : Holding → Service → Bool
work_is_clear_of_service h s = list_all (work_is_clear_of h) (legs_of s)

abbrev pub back_is_clear_of_service : Bool → Class → Route → Holding → Service → Bool
back_is_clear_of_service own class work h s = list_all (back_is_clear_of own class work h s.class) (legs_of s)

-- and of all services
abbrev pub work_is_free : State → Holding → Bool
work_is_free list h = list_all (work_is_clear_of_service h) list

abbrev pub back_is_free : State → Option Leg → Class → Route → Holding → Bool
back_is_free list own class work h =
    list_all (λ s. back_is_clear_of_service (is_beside own s) class work h s) list

-- whether the working path lies in the band and is clear
abbrev pub work_fits : State → Band → Path → Bool
work_fits list band p = stands_in band p.slot && work_is_free list (holding_of p)

-- whether the backup, of this class and working route, does
abbrev pub back_fits : State → Band → Option Leg → Class → Route → Path → Bool
back_fits list band own class work p = stands_in band p.slot && back_is_free list own class work (holding_of p)

-- the least centre of the working path
abbrev pub work_found : State → Band → SizedRoute → Option ℤ
work_found list band r = find (λ n. work_fits list band (path_at r n)) (centres_in band)

-- the least centre of a backup of this class beside a working path
abbrev pub spare_found : State → Band → Class → Option Leg → Route → SizedRoute → Option ℤ
spare_found list band class own work b =
    find (λ n. back_fits list band own class work (path_at b n)) (centres_in band)

-- the same where there is a backup
abbrev pub back_found : State → Band → Class → Option Leg → Route → Option SizedRoute → Option (Option ℤ)
back_found list band class own work None = Some None
back_found list band class own work (Some b) = option_map (λ n. Some n) (spare_found list band class own work b)
