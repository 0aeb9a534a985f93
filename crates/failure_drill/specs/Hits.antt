-- Hits in order, what a list of them tells, and which routes can be listed.
use Rattle.std.specs.Prelude.{ℕ, List, [], ◌++◌, IfSome, Option, refl}
use Rattle.std.specs.Option.{option_to_list}
use Rattle.std.specs.List.{flat_map}
use Rattle.std.specs.Coded.{Coded, code_by, coded×, coded_ℕ, coded_list, coded_option}
use Rattle.eon_model.specs.Codes.{path_code}
use Rattle.eon_model.specs.Grid.{Slot}
use Rattle.eon_model.specs.Legal.{Setup, Legal}
use Rattle.eon_model.specs.Listings.{hit_by}
use Rattle.eon_model.specs.MomentLaws.{TellsFailure}
use Rattle.eon_model.specs.Moments.{Moment, IsMoment}
use Rattle.eon_model.specs.Names.{Name}
use Rattle.eon_model.specs.Replies.{Hit}
use Rattle.eon_model.specs.Route.{Route}
use Rattle.eon_model.specs.Services.{Path, Service, State}
use Rattle.eon_model.specs.Sets.{set_of}
use Rattle.leg_state.specs.Parts.{AreFibreNumbers}

-- ---- values

-- a hit is told apart by its service, its leg and its backup
abbrev pub hit_code : Coded Hit
hit_code = code_by (Name × (ℕ × Option Path)) (coded× (coded_list coded_ℕ) (coded× coded_ℕ (coded_option path_code)))
    (λ h. (h.name, (h.leg, h.back))) (λ p. record { name = p.0; leg = p.1.0; back = p.1.1 }) (λ _. refl)

-- the path of these fibres and this slot, with the length and the risk of a route that is noted
abbrev pub path_seen : List ℕ → Slot → Route → Path
path_seen fibres slot noted =
    record { route = record { fibres = fibres; km = noted.km; risk = noted.risk }; slot = slot }

-- the route of no fibre
abbrev pub no_route : Route
no_route = record { fibres = []; km = 0; risk = set_of [] }

-- ---- hits

-- the hits of one service, the old leg first
abbrev pub hits_by : ℕ → Service → List Hit
hits_by g s = hit_by g s 1 s.leg ++ flat_map (hit_by g s 2) (option_to_list s.next)

-- at every moment, on each network on which the state is legal, these hits tell what is lit after the failure
abbrev pub TellsFailures : ℕ → State → List Hit → Type 0
TellsFailures g state hits =
    (setup : Setup) (moment : Moment) → Legal setup state → IsMoment state moment → TellsFailure g hits moment

-- ---- routes that can be listed

-- the numbers of the path's fibres can be kept
abbrev pub IsNumbered : Path → Type 0
IsNumbered p = AreFibreNumbers p.route.fibres

-- those of the backups of the service
pub record IsNumberedService (s : Service) : Type 0 where
  pub first : IfSome s.leg.back IsNumbered
  pub second : IfSome s.next (λ l. IfSome l.back IsNumbered)
