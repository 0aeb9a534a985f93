-- The parts of the answer to `place`.
use Rattle.std.specs.Prelude.{ℕ, ◌≤◌, ℤ, nat_le, ◌&&◌, not, List, ◌∷◌, ◌++◌, [], length, map, filter, Option, Some, None, is_some, IfSome, Result, Ok, Err, if◌then◌else◌}
use Rattle.std.specs.Option.{option_map, option_or, option_and_then, option_to_list, unwrap_or}
use Rattle.std.specs.List.{range_with_len}
use Rattle.eon_model.specs.declared.Part.TheVariants.{Work, Backup}
use Rattle.eon_model.specs.Names.{Name, is_above}
use Rattle.eon_model.specs.Sets.{NumberSet, has_member}
use Rattle.eon_model.specs.Network.{Network, risk_name}
use Rattle.eon_model.specs.Services.{Path, Leg, Service, State, service_of}
use Rattle.eon_model.specs.Legal.{Setup, need_of}
use Rattle.eon_model.specs.Commands.{Demand, PathWords}
use Rattle.eon_model.specs.Replies.{Reply}
use Rattle.eon_model.specs.Step as step
use Rattle.eon_model.specs.Step.{AskedPath, Change, or_else, clash, enters, ◌when◌, asked, path_asked, asked_leg, is_node, is_fibre, unknown_in, fault_in, walks_between, reaches_end, is_in_band, risk_between, new_service}
use Rattle.eon_model.specs.Grid.{Slot, Band, units_of, lies_in_band}
use Rattle.plan_core.specs.declared.demand.AskedPaths.{AskedPaths}
use Rattle.plan_core.specs.declared.demand.SizedPath.{SizedPath}
use Rattle.plan_core.specs.declared.demand.SizedPaths.{SizedPaths}
use Rattle.eon_model.specs.Events.{Event, enter_text_of}
use Rattle.reply_text.specs.declared.reply.Reply as code
use Rattle.reply_text.specs.Replied.{reply_told}

-- the names of the fibres of all paths, as written
abbrev pub fibres_written : List Name → Option PathWords → List Name
fibres_written work None = work
fibres_written work (Some back) = work ++ back.fibres

-- the reply for a name that is taken, or else for a full list
abbrev pub no_room : Setup → State → Name → Option Reply
no_room setup state name =
    option_or (Reply.Taken name when is_some (service_of state name))
    (Reply.FullServices when nat_le setup.services (length state))

-- the reply before a path is looked at: an unknown name, a name that is taken, or a full list
abbrev pub refusal : Setup → State → Demand → List Name → Option Reply
refusal setup state d fibres =
    option_or (unknown_in (is_node setup.network) (d.src ∷ d.dst ∷ []))
    (option_or (unknown_in (is_fibre setup.network) fibres) (no_room setup state d.name))

-- the paths that these words ask for
abbrev pub paths_asked : Network → PathWords → Option PathWords → AskedPaths
paths_asked net work back = record { work = asked net Work work; back = option_map (asked net Backup) back }

-- the working path, and then the backup path
abbrev pub paths_listed : AskedPaths → List AskedPath
paths_listed p = p.work ∷ option_to_list p.back

-- the path that these words ask for, where it is a route
abbrev pub path_if_walks : Network → Demand → AskedPath → Option AskedPath
path_if_walks net d p = if walks_between net d p then Some p else None

abbrev pub path_fault : Network → Demand → AskedPaths → Option Reply
path_fault net d p = fault_in Reply.Path (λ p. not (walks_between net d p)) (paths_listed p)

abbrev pub reach_fault : Setup → Demand → AskedPaths → Option Reply
reach_fault setup d p = fault_in Reply.Reach (λ p. not (reaches_end setup d p)) (paths_listed p)

abbrev pub risk_fault : Network → AskedPaths → Option Reply
risk_fault net p = risk_between net p.work.route p.back

abbrev pub band_fault : Setup → Demand → AskedPaths → Option Reply
band_fault setup d p = fault_in Reply.Band (λ p. not (is_in_band setup d p)) (paths_listed p)

-- the reply for paths that are routes, before other services are looked at
abbrev pub fault_of : Setup → Demand → AskedPaths → Option Reply
fault_of setup d p =
    option_or (reach_fault setup d p) (option_or (risk_fault setup.network p) (band_fault setup d p))

-- the slot with this centre and width, where it lies in the band
abbrev pub slot_in_band : Band → ℤ → ℕ → Option Slot
slot_in_band band n m =
    let s : Slot = record { n = n; m = m } in if lies_in_band band (units_of s) then Some s else None

-- ---- path by path

-- the first fault of the working path, and then of the backup path
abbrev pub first_fault : {P : Type 0} → (P → Option Reply) → P → Option P → Option Reply
first_fault fault work back = option_or (fault work) (option_and_then fault back)

-- no format reaches so far
abbrev pub reach_fault_of : Setup → Demand → AskedPath → Option Reply
reach_fault_of setup d p = Reply.Reach p.part when not (reaches_end setup d p)

-- the path with the width that the rate needs on it
abbrev pub sized : Setup → Demand → AskedPath → SizedPath
sized setup d p = record { path = p; m = unwrap_or (need_of setup d.rate p.route.km) 0 }

abbrev pub sized_paths : Setup → Demand → AskedPaths → SizedPaths
sized_paths setup d p = record { work = sized setup d p.work; back = option_map (sized setup d) p.back }

-- no width is 0
pub record AreWide (s : SizedPaths) : Type 0 where
  pub work : 1 ≤ s.work.m
  pub back : IfSome s.back (λ p. 1 ≤ p.m)

-- the path on its slot
abbrev pub path_of : SizedPath → Path
path_of s = record { route = s.path.route; slot = record { n = s.path.n; m = s.m } }

-- the leg that stands on these paths
abbrev pub leg_of : SizedPaths → Leg
leg_of s = record { work = path_of s.work; to = None; back = option_map path_of s.back }

-- the slot does not lie in the band
abbrev pub band_fault_of : Band → SizedPath → Option Reply
band_fault_of band s = Reply.Band s.path.part when not (lies_in_band band (units_of (path_of s).slot))

-- the least group that both paths have
abbrev pub sized_risk : Network → SizedPaths → Option Reply
sized_risk net s = risk_between net s.work.path.route (option_map (λ (b : SizedPath). b.path) s.back)

-- ---- shared groups

-- the lesser of a name and another one, if there is one
abbrev pub lesser : Option Name → Name → Name
lesser None a = a
lesser (Some b) a = if is_above b a then a else b

-- the names of the groups below this number that are in both sets
abbrev pub shared_below : Network → NumberSet → NumberSet → ℕ → List Name
shared_below net s t n =
    map (risk_name net) (filter (λ i. has_member s i && has_member t i) (range_with_len 0 n))

-- the least name so far, and that of the group of this number, where it is in both sets
abbrev pub least_with : Network → NumberSet → NumberSet → ℕ → Option Name → Option Name
least_with net s t i least =
    if has_member s i && has_member t i then Some (lesser least (risk_name net i)) else least

-- ---- what enters

-- what it comes to that this service enters, with this reply, or that another reply refuses it
abbrev pub entering : Reply → Result Service code.Reply → step.Outcome
entering reply (Ok s) = Change (Event.Enter (enter_text_of s)) reply
entering reply (Err refused) = step.Say (reply_told refused)

-- the service that `place` asks for
abbrev pub service_asked : Setup → Demand → AskedPaths → Service
service_asked setup d p = new_service setup.network d (asked_leg setup d p.work p.back)

-- the answer where there is room for a service and its paths are routes
abbrev pub placed_on : Setup → State → Demand → AskedPaths → step.Outcome
placed_on setup state d p =
    or_else (fault_of setup d p)
    (or_else (clash state d.name d.class (asked_leg setup d p.work p.back))
    (Change (enters setup.network d (asked_leg setup d p.work p.back)) (Reply.Placed d.name)))
