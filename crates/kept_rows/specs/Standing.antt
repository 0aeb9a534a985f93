-- Rows and counts that are kept of a list of services, and how a change of the list changes them.
use Rattle.std.specs.Prelude.{◌≡◌, ℕ, ◌+◌, ◌≤◌, ℤ, Bool, false, ◌&&◌, not, IsTrue, List, [], ◌∷◌, length, map, count_by, Option, None, if◌then◌else◌}
use Rattle.std.specs.Option.{option_to_list}
use Rattle.std.specs.List.{AllByRecursion}
use Rattle.eon_model.specs.declared.Class.{Class}
use Rattle.eon_model.specs.Grid.{Units, is_units}
use Rattle.eon_model.specs.Services.{Path, Leg, State, Holding, OwnedLeg, holding_of, working_holding, owned}
use Rattle.eon_model.specs.Legal.{Setup, is_dual, is_shared}
use Rattle.eon_model.specs.Rows.{Taken, Reserved, changed_by, with_lit, without_lit, with_held, without_held}
use Rattle.eon_model.specs.Occupied.{Reserve, is_taken, takers_of, holders_among, reserves, taken_of, reserved_of, rows_of, holders_of}
use Rattle.eon_model.specs.Turnover.{Turnover, Turns}
use Rattle.spectrum_map.specs.Kept.{Kept, Becomes, IsKeptThere, lit_in, holders_in, rows_in}
use Rattle.backup_sharing.specs.Shared.{Sharers, IsThere}
use Rattle.kept_rows.specs.declared.rows.KeptRows.{KeptRows}

-- ---- what they stand for

-- The rows are those of the state: its lit units, and the number of its shared backups that hold each unit. The backups
-- that are counted by groups are those of the state, in whatever order.
pub record StandsFor (setup : Setup) (state : State) (r : KeptRows) : Type 0 where
  pub band : r.maps.band ≡ setup.band
  pub fibres : r.maps.fibres ≡ length setup.network.fibres
  pub sharing_band : r.sharing.band ≡ setup.band
  pub sharing_fibres : r.sharing.fibres ≡ length setup.network.fibres
  pub groups : r.sharing.groups ≡ length setup.network.fibres + length setup.network.groups
  pub lit : lit_in r.maps ≡ (rows_of state).lit
  pub holders : holders_in r.maps ≡ holders_of state
  pub reserves : (test : Reserved → Bool) →
      count_by test r.sharing.reserves ≡ count_by test (map reserved_of (reserves state))

-- ---- a leg

-- the backup of a leg, if it is always lit
abbrev pub lit_backup : Class → Leg → Option Path
lit_backup class l = if is_dual class then l.back else None

-- the backup of a leg, if others may share its units
abbrev pub shared_backup : Class → Leg → Option Path
shared_backup class l = if is_shared class then l.back else None

-- what the path takes, if there is one
abbrev pub holdings_of : Option Path → List Holding
holdings_of p = map holding_of (option_to_list p)

-- and what it reserves for this working route
abbrev pub reserves_on : Leg → Option Path → List Reserve
reserves_on l p = map (λ h. record { work = l.work.route; backup = h }) (holdings_of p)

-- what a backup on these units of a path reserves for the leg's working route
abbrev pub reserve_at : Leg → Path → Units → Reserve
reserve_at l p units = record { work = l.work.route; backup = record { route = p.route; units = units } }

-- a leg of a service of this class, whatever its name
abbrev pub of_class : Class → Leg → OwnedLeg
of_class = owned []

-- a channel that takes other units
abbrev pub channel_takes : Leg → Units → Turnover
channel_takes l units = record {
  lit_out = working_holding l ∷ [];
  lit_in = record { route = l.work.route; units = units } ∷ [];
  held_out = [];
  held_in = [];
}

-- a backup that takes other units
abbrev pub backup_takes : Leg → Units → Turnover
backup_takes l units = record {
  lit_out = [];
  lit_in = [];
  held_out = reserves_on l l.back;
  held_in = map (λ p. reserve_at l p units) (option_to_list l.back);
}

-- ---- what can be changed

-- Units of the grid and the band, on fibres that are kept.
pub record IsPlace (k : Kept) (t : Taken) : Type 0 where
  pub there : IsKeptThere k t
  pub grid : IsTrue (is_units t.units)

-- These can be lit, one after the other: all is dark, and no unit is taken twice.
pub record CanBeLit (k : Kept) (hs : List Holding) : Type 0 where
  pub places : AllByRecursion (λ h. IsPlace k (taken_of h)) hs
  pub dark : (fibre : ℕ) (u : ℤ) → IsTrue (is_taken hs fibre u) → lit_in k fibre u ≡ false
  pub once : (fibre : ℕ) (u : ℤ) → takers_of hs fibre u ≤ 1

-- These can be made dark, one after the other.
pub record CanGoDark (k : Kept) (hs : List Holding) : Type 0 where
  pub places : AllByRecursion (λ h. IsPlace k (taken_of h)) hs
  pub lit : (fibre : ℕ) (u : ℤ) → IsTrue (is_taken hs fibre u) → IsTrue (lit_in k fibre u)
  pub once : (fibre : ℕ) (u : ℤ) → takers_of hs fibre u ≤ 1

-- These backups can be added.
pub record CanBeHeld (r : KeptRows) (xs : List Reserve) : Type 0 where
  pub places : AllByRecursion (λ x. IsPlace r.maps (taken_of x.backup)) xs
  pub there : AllByRecursion (λ x. IsThere r.sharing (reserved_of x)) xs
  pub few : length r.sharing.reserves + length xs ≤ 8192
  pub room : (fibre : ℕ) (u : ℤ) → holders_in r.maps fibre u + holders_among xs fibre u ≤ 8192

-- These backups can be taken: they were added.
pub record CanGoFree (r : KeptRows) (xs : List Reserve) : Type 0 where
  pub places : AllByRecursion (λ x. IsPlace r.maps (taken_of x.backup)) xs
  pub there : AllByRecursion (λ x. IsThere r.sharing (reserved_of x)) xs
  pub some : (fibre : ℕ) (u : ℤ) → holders_among xs fibre u ≤ holders_in r.maps fibre u
  pub among : (test : Reserved → Bool) → count_by test (map reserved_of xs) ≤ count_by test r.sharing.reserves

-- What goes out is there, and what comes in has room by then.
pub record MayTurn (r : KeptRows) (t : Turnover) : Type 0 where
  pub lit_out : CanGoDark r.maps t.lit_out
  pub places : AllByRecursion (λ h. IsPlace r.maps (taken_of h)) t.lit_in
  pub dark : (fibre : ℕ) (u : ℤ) → IsTrue (is_taken t.lit_in fibre u) →
      (lit_in r.maps fibre u && not (is_taken t.lit_out fibre u)) ≡ false
  pub once : (fibre : ℕ) (u : ℤ) → takers_of t.lit_in fibre u ≤ 1
  pub held_out : CanGoFree r t.held_out
  pub held_places : AllByRecursion (λ x. IsPlace r.maps (taken_of x.backup)) t.held_in
  pub there : AllByRecursion (λ x. IsThere r.sharing (reserved_of x)) t.held_in
  pub few : length r.sharing.reserves + length t.held_in ≤ 8192 + length t.held_out
  pub room : (fibre : ℕ) (u : ℤ) → holders_in r.maps fibre u + holders_among t.held_in fibre u
      ≤ 8192 + holders_among t.held_out fibre u

-- ---- what was changed

-- These were lit, and no count changed.
abbrev pub IsLitBy : Kept → Kept → List Holding → Type 0
IsLitBy before after hs =
    Becomes before after (changed_by with_lit (map taken_of hs) (rows_in before)).lit (holders_in before)

-- These were made dark.
abbrev pub IsDarkBy : Kept → Kept → List Holding → Type 0
IsDarkBy before after hs =
    Becomes before after (changed_by without_lit (map taken_of hs) (rows_in before)).lit (holders_in before)

-- The backups that are counted by groups have turned over.
pub record Reserves (before after : Sharers) (out new : List Reserved) : Type 0 where
  pub band : after.band ≡ before.band
  pub fibres : after.fibres ≡ before.fibres
  pub groups : after.groups ≡ before.groups
  pub turns : Turns before.reserves after.reserves out new

-- These backups were added, and no light changed.
pub record IsHeldBy (before after : KeptRows) (xs : List Reserve) : Type 0 where
  pub maps : Becomes before.maps after.maps (lit_in before.maps)
      (changed_by with_held (map (λ x. taken_of x.backup) xs) (holders_in before.maps))
  pub sharing : Reserves before.sharing after.sharing [] (map reserved_of xs)

-- These backups were taken.
pub record IsFreeBy (before after : KeptRows) (xs : List Reserve) : Type 0 where
  pub maps : Becomes before.maps after.maps (lit_in before.maps)
      (changed_by without_held (map (λ x. taken_of x.backup) xs) (holders_in before.maps))
  pub sharing : Reserves before.sharing after.sharing (map reserved_of xs) []

-- All that goes out was taken, and then all that comes in added.
pub record HasTurned (before after : KeptRows) (t : Turnover) : Type 0 where
  pub maps : Becomes before.maps after.maps
      (changed_by with_lit (map taken_of t.lit_in)
      (changed_by without_lit (map taken_of t.lit_out) (rows_in before.maps))).lit
      (changed_by with_held (map (λ x. taken_of x.backup) t.held_in)
      (changed_by without_held (map (λ x. taken_of x.backup) t.held_out) (holders_in before.maps)))
  pub sharing : Reserves before.sharing after.sharing (map reserved_of t.held_out) (map reserved_of t.held_in)
