-- Shared backups that were added and not taken since, and what one that comes to them may hold.
use Rattle.std.specs.Prelude.{◌≡◌, ℕ, ◌-◌, ◌<◌, ◌≤◌, nat_lt, ℤ, Bool, ◌&&◌, not, ◌==◌, IsTrue, IfSome, List, [], ◌∷◌, ◌++◌, length, slice_index_or, Option, Some, None, if◌then◌else◌, refl}
use Rattle.std.specs.Coded.{Coded, code_by, coded×, coded_ℕ, coded_ℤ, coded_list}
use Rattle.std.specs.List.{AllByRecursion, list_any}
use Rattle.std.specs.Ordering.{int_eq, is_eq, nat_cmp}
use Rattle.std.specs.Cmp.Lexicographic.{slice_cmp}
use Rattle.eon_model.specs.Grid.{Band, Units, has_unit, lies_in, span_of}
use Rattle.eon_model.specs.Lists.{has_number, numbers_differ}
use Rattle.eon_model.specs.Sets.{NumberSet, has_member, members, same_members, set_code}
use Rattle.eon_model.specs.Rows.{Reserved, Counts, Holders, counts_among, without_reserved}
use Rattle.eon_model.specs.RowLaws.{HasUnit}
use Rattle.spectrum_map.specs.Kept.{Kept, holders_in, taken}

-- ---- the list

-- The backups that were added to a band on so many fibres, with so many groups, and not taken since; the last one
-- stands first.
pub record Sharers : Type 0 where
  pub band : Band
  pub fibres : ℕ
  pub groups : ℕ
  pub reserves : List Reserved

abbrev units_code : Coded Units
units_code = code_by (ℤ × ℤ) (coded× coded_ℤ coded_ℤ) (λ a. (a.lo, a.hi)) (λ p. record { lo = p.0; hi = p.1 }) (λ _. refl)

-- a backup is told apart by its risk, its fibres and its units
abbrev pub reserved_code : Coded Reserved
reserved_code = code_by (NumberSet × (List ℕ × Units)) (coded× set_code (coded× (coded_list coded_ℕ) units_code))
    (λ r. (r.risk, (r.taken.fibres, r.taken.units)))
    (λ p. record { risk = p.0; taken = record { fibres = p.1.0; units = p.1.1 } }) (λ _. refl)

abbrev pub sharers_code : Coded Sharers
sharers_code = code_by (Band × (ℕ × (ℕ × List Reserved)))
    (coded× (coded_list units_code) (coded× coded_ℕ (coded× coded_ℕ (coded_list reserved_code))))
    (λ s. (s.band, (s.fibres, (s.groups, s.reserves))))
    (λ p. record { band = p.0; fibres = p.1.0; groups = p.1.1.0; reserves = p.1.1.1 }) (λ _. refl)

-- the backup on these fibres and units, with the groups of the working route that it backs
abbrev pub reserved : NumberSet → List ℕ → Units → Reserved
reserved risk fibres units = record { risk = risk; taken = taken fibres units }

-- whether both back a route of the same risk on the same fibres and units
abbrev pub same_reserved : Reserved → Reserved → Bool
same_reserved r s =
    same_members r.risk s.risk
    && (is_eq (slice_cmp nat_cmp r.taken.fibres s.taken.fibres)
    && (int_eq r.taken.units.lo s.taken.units.lo && int_eq r.taken.units.hi s.taken.units.hi))

-- the list without the first one that is the same
abbrev pub without_one : Reserved → List Reserved → List Reserved
without_one r [] = []
without_one r (s ∷ rs) = if same_reserved r s then rs else s ∷ without_one r rs

-- The groups and fibres are some of those that are there, no fibre twice, and the units lie between the band's lowest
-- and highest.
pub record IsThere (s : Sharers) (r : Reserved) : Type 0 where
  pub groups : (g : ℕ) → IsTrue (has_member r.risk g) → g < s.groups
  pub fibres : AllByRecursion (λ fibre. fibre < s.fibres) r.taken.fibres
  pub once : IsTrue (numbers_differ r.taken.fibres)
  pub units : IsTrue (lies_in (span_of s.band) r.taken.units)

-- It is of this band, on so many fibres and for so many groups, with no backup.
pub record IsNew (band : Band) (fibres groups : ℕ) (s : Sharers) : Type 0 where
  pub band_is : s.band ≡ band
  pub fibres_are : s.fibres ≡ fibres
  pub groups_are : s.groups ≡ groups
  pub none : s.reserves ≡ []

-- The second has the band, fibres and groups of the first, and these backups.
pub record Becomes (before after : Sharers) (reserves : List Reserved) : Type 0 where
  pub band : after.band ≡ before.band
  pub fibres : after.fibres ≡ before.fibres
  pub groups : after.groups ≡ before.groups
  pub reserves_are : after.reserves ≡ reserves

-- ---- the others

-- the counts with the own backup left out, if there is one
abbrev pub counts_beside : Option Reserved → Counts → Counts
counts_beside None counts = counts
counts_beside (Some own) counts = without_reserved own counts

-- These are the others of a list in which the own backup stands.
pub record AreBeside (own : Reserved) (reserves others : List Reserved) : Type 0 where
  pub before : List Reserved
  pub after : List Reserved
  pub around : reserves ≡ before ++ own ∷ after
  pub others_are : others ≡ before ++ after

-- these are all of the list but the own one, if there is one
abbrev pub AreOthers : Option Reserved → List Reserved → List Reserved → Type 0
AreOthers None reserves others = others ≡ reserves
AreOthers (Some own) reserves others = AreBeside own reserves others

-- ---- what is kept

-- a map of no band
abbrev pub blank : Kept
blank = record { band = []; fibres = 0; words = []; counts = [] }

-- the map of the group
abbrev pub map_at : List Kept → ℕ → Kept
map_at maps group = slice_index_or maps group blank

-- A map of this band on so many fibres, in which so many backups hold each unit.
pub record IsHeldBy (band : Band) (fibres : ℕ) (holders : Holders) (kept : Kept) : Type 0 where
  pub band_is : kept.band ≡ band
  pub fibres_are : kept.fibres ≡ fibres
  pub holders_are : holders_in kept ≡ holders

-- A map for each group: in it stand the backups of those working routes that the group hits.
pub record AreCounted (band : Band) (fibres : ℕ) (maps : List Kept) (reserves : List Reserved) : Type 0 where
  pub few : length reserves ≤ 8192
  pub few_groups : length maps ≤ 256
  pub some : AllByRecursion (λ r. HasUnit r.taken) reserves
  pub each : (g : ℕ) → g < length maps →
      IsHeldBy band fibres (λ fibre u. counts_among reserves fibre g u) (map_at maps g)

-- A map that is changed or stays, of the same band on the same fibres.
pub record Goes (is_changed : Bool) (change : Holders → Holders) (before after : Kept) : Type 0 where
  pub band : after.band ≡ before.band
  pub fibres : after.fibres ≡ before.fibres
  pub holders : holders_in after ≡ (if is_changed then change (holders_in before) else holders_in before)

-- Those of the maps before this one that the groups of the risk have are changed, and no others.
abbrev pub GoTo : ℕ → NumberSet → (Holders → Holders) → List Kept → List Kept → Type 0
GoTo n risk change before after =
    (g : ℕ) → Goes (nat_lt g n && has_member risk g) change (map_at before g) (map_at after g)

-- the units of the own backup, if there is one, and it stands on the fibre for the failure of the group
abbrev pub own_on : Option Reserved → ℕ → ℕ → Option Units
own_on None group fibre = None
own_on (Some own) group fibre =
    if has_member own.risk group && has_number own.taken.fibres fibre then Some own.taken.units else None

-- a count of backups that hold a unit, without the own one on these units, if it stands there
abbrev pub but_own : Option Units → ℤ → ℕ → ℕ
but_own None u n = n
but_own (Some own) u n = if has_unit own u then n - 1 else n

-- the own backup lies between the band's lowest unit and its highest, if there is one
abbrev pub IsOwnThere : Band → Option Reserved → Type 0
IsOwnThere band own = IfSome own (λ r. IsTrue (lies_in (span_of band) r.taken.units))

-- whether a backup besides the own one holds the unit on the fibre for the failure of one of the groups
abbrev pub bars : List Kept → NumberSet → Option Reserved → ℕ → ℤ → Bool
bars maps risk own fibre u =
    list_any (λ g. not (but_own (own_on own g fibre) u (holders_in (map_at maps g) fibre u) == 0)) (members risk)
