-- How many holdings take each unit of a band on a fibre.
use Rattle.std.specs.Prelude.{◌≡◌, ℕ, ◌+◌, ◌<◌, ◌≤◌, ℤ, pos, ◌+ℤ◌, Bool, List, [], ◌∷◌, length, count_by, slice_index, if◌then◌else◌}
use Rattle.std.specs.List.{flat_map}
use Rattle.eon_model.specs.declared.Class.{Class}
use Rattle.eon_model.specs.Grid.{Units}
use Rattle.eon_model.specs.Legal.{is_shared, is_dual}
use Rattle.eon_model.specs.Route.{Route}
use Rattle.eon_model.specs.Services.{Leg, Service, State, Holding, OwnedLeg, owned_legs, working_holding, backup_holdings}
use Rattle.eon_model.specs.Listings.{holds}
use Rattle.plan_report.specs.declared.rows.Kind.{Kind}
use Rattle.plan_report.specs.declared.rows.Kind.TheVariants.{Lit, Held}

-- these units on each fibre of the route
abbrev pub over : Route → Units → Holding
over route units = record { route = route; units = units }

-- the backup, where it counts
abbrev pub backups_if : Bool → Leg → List Holding
backups_if counts l = if counts then backup_holdings l else []

-- what a leg of a service of this class takes in this way
abbrev pub taken : Kind → Class → Leg → List Holding
taken Lit class l = working_holding l ∷ backups_if (is_dual class) l
taken Held class l = backups_if (is_shared class) l

abbrev pub taken_by : Kind → OwnedLeg → List Holding
taken_by kind l = taken kind l.class l.leg

-- what a service takes in this way
abbrev pub service_holdings : Kind → Service → List Holding
service_holdings kind s = flat_map (taken_by kind) (owned_legs s)

-- what these services take in this way
abbrev pub state_holdings : Kind → State → List Holding
state_holdings kind state = flat_map (service_holdings kind) state

-- 1 where the test passes
abbrev pub one_if : Bool → ℕ
one_if b = if b then 1 else 0

-- how many of these take the unit on the fibre
abbrev pub holders : ℕ → List Holding → ℤ → ℕ
holders fibre hs u = count_by (holds fibre u) hs

-- The counts of the units from the lowest on: that of each unit has grown by this.
pub record Grows (lowest : ℤ) (by : ℤ → ℕ) (old new : List ℕ) : Type 0 where
  pub same_length : length new ≡ length old
  pub each : (k : ℕ) → k < length old → slice_index new k ≡ slice_index old k + by (lowest +ℤ pos k)

-- No count is above the bound.
pub record AtMost (most : ℕ) (counts : List ℕ) : Type 0 where
  pub each : (k : ℕ) → k < length counts → slice_index counts k ≤ most
