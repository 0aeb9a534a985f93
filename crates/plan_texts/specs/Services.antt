-- What the fields of a service's line are read as.
use Rattle.std.specs.Prelude.{ℕ, ℤ, List, codes, bytes_eq, drop, Option, Some, None, if◌then◌else◌}
use Rattle.std.specs.Option.{option_map}
use Rattle.eon_model.specs.declared.Class.{Class}
use Rattle.eon_model.specs.declared.Class.TheVariants.{Bare, Shared, Dual}
use Rattle.eon_model.specs.Names.{Name}
use Rattle.eon_model.specs.NetworkFault.{Fields}
use Rattle.eon_base.specs.Names.{name_of}
use Rattle.command_text.specs.Parts.{fibre_names_of}
use Rattle.net_file.specs.Readings.{first_read, is_nil}
use Rattle.plan_texts.specs.Fields.{◌>>=◌, guarded, number_within, centre_of, is_first}
use Rattle.plan_texts.specs.declared.service.PathLine.{PathLine}
use Rattle.plan_texts.specs.declared.service.LegLine.{LegLine}
use Rattle.plan_texts.specs.declared.service.Demand.{Demand}
use Rattle.plan_texts.specs.declared.service.ServiceLine.{ServiceLine}

-- the class that the bytes spell
abbrev pub class_of : List ℕ → Option Class
class_of field =
    if bytes_eq field (codes "bare") then Some Bare
    else if bytes_eq field (codes "shared") then Some Shared
    else if bytes_eq field (codes "dual") then Some Dual
    else None

-- ---- what a service carries

abbrev pub demand_of : Name → Name → Name → ℕ → Class → Option Demand
demand_of name src dst rate class =
    Some (record { name = name; src = src; dst = dst; rate = rate; class = class })

abbrev pub by_class : Name → Name → Name → Fields → ℕ → Option Demand
by_class name src dst fields rate = first_read class_of (drop 1 fields) >>= demand_of name src dst rate

abbrev pub by_rate : Name → Name → Fields → Name → Option Demand
by_rate name src fields dst = first_read (number_within 1 60000) (drop 1 fields) >>= by_class name src dst (drop 1 fields)

abbrev pub by_dst : Name → Fields → Name → Option Demand
by_dst name fields src = first_read name_of (drop 1 fields) >>= by_rate name src (drop 1 fields)

abbrev pub by_src : Fields → Name → Option Demand
by_src fields name = first_read name_of (drop 1 fields) >>= by_dst name (drop 1 fields)

-- the word of the line, and what the service carries
unfoldable pub demand_at : Fields → Option Demand
demand_at fields = guarded (is_first (codes "service") fields)
    (first_read name_of (drop 1 fields) >>= by_src (drop 1 fields))

-- the fields behind them
abbrev pub behind_demand : Fields → Fields
behind_demand fields = drop 1 (drop 1 (drop 1 (drop 1 (drop 1 (drop 1 fields)))))

-- ---- paths and legs

abbrev pub path_of : List Name → ℤ → ℕ → Option PathLine
path_of fibres n m = Some (record { fibres = fibres; n = n; m = m })

abbrev pub by_width : List Name → Fields → ℤ → Option PathLine
by_width fibres fields n = first_read (number_within 1 512) (drop 1 fields) >>= path_of fibres n

abbrev pub by_centre : Fields → List Name → Option PathLine
by_centre fields fibres = first_read centre_of (drop 1 fields) >>= by_width fibres (drop 1 fields)

-- a path
unfoldable pub path_at : Fields → Option PathLine
path_at fields = first_read fibre_names_of fields >>= by_centre fields

-- the fields behind it
abbrev pub behind_path : Fields → Fields
behind_path fields = drop 1 (drop 1 (drop 1 fields))

-- a backup, where one stands there
unfoldable pub back_at : Fields → Option (Option PathLine)
back_at fields = if is_first (codes "b") fields then option_map Some (path_at (drop 1 fields)) else Some None

-- the fields behind it
abbrev pub behind_back : Option PathLine → Fields → Fields
behind_back None fields = fields
behind_back (Some back) fields = behind_path (drop 1 fields)

abbrev pub leg_of : PathLine → Option PathLine → Option LegLine
leg_of work back = Some (record { work = work; back = back })

abbrev pub by_back : Fields → PathLine → Option LegLine
by_back fields work = back_at fields >>= leg_of work

-- a leg
unfoldable pub leg_at : Fields → Option LegLine
leg_at fields = guarded (is_first (codes "w") fields) (path_at (drop 1 fields) >>= by_back (behind_path (drop 1 fields)))

-- the fields behind it
abbrev pub behind_leg : LegLine → Fields → Fields
behind_leg l fields = behind_back l.back (behind_path (drop 1 fields))

-- ---- what moves

-- a centre to drift to, where one stands there
unfoldable pub target_at : Fields → Option (Option ℤ)
target_at fields = if is_first (codes "to") fields then option_map Some (first_read centre_of (drop 1 fields)) else Some None

-- the fields behind it
abbrev pub behind_target : Option ℤ → Fields → Fields
behind_target None fields = fields
behind_target (Some n) fields = drop 1 (drop 1 fields)

-- the leg, where nothing stands behind it
abbrev pub last_leg : Fields → LegLine → Option (Option LegLine)
last_leg fields l = if is_nil (behind_leg l fields) then Some (Some l) else None

-- nothing, or a new leg, and no more
unfoldable pub next_at : Fields → Option (Option LegLine)
next_at fields =
    if is_nil fields then Some None
    else guarded (is_first (codes "and") fields) (leg_at (drop 1 fields) >>= last_leg (drop 1 fields))

-- ---- the service

abbrev pub service_of : Demand → LegLine → Option ℤ → Option LegLine → Option ServiceLine
service_of demand leg to next = Some (record { demand = demand; leg = leg; to = to; next = next })

abbrev pub by_next : Demand → LegLine → Fields → Option ℤ → Option ServiceLine
by_next demand leg fields to = next_at (behind_target to fields) >>= service_of demand leg to

abbrev pub by_target : Demand → Fields → LegLine → Option ServiceLine
by_target demand fields leg = target_at (behind_leg leg fields) >>= by_next demand leg (behind_leg leg fields)

abbrev pub by_leg : Fields → Demand → Option ServiceLine
by_leg fields demand = leg_at (behind_demand fields) >>= by_target demand (behind_demand fields)

-- the service
unfoldable pub service_at : Fields → Option ServiceLine
service_at fields = demand_at fields >>= by_leg fields
