-- Rows of units, fibre by fibre, and counts of the backups that share a unit: what they tell of a change, whatever they
-- were made of.
use Rattle.std.specs.Prelude.{◌≡◌, ℕ, ◌+◌, ◌-◌, ℤ, ◌<ℤ◌, Bool, false, ◌&&◌, ◌||◌, not, ◌==◌, int_le, IsTrue, List, [], ◌∷◌, filter, find, count_by, reverse, Option, Some, None, if◌then◌else◌}
use Rattle.std.specs.List.{list_all}
use Rattle.eon_model.specs.declared.Class.{Class}
use Rattle.eon_model.specs.Grid.{Band, Units, has_unit, overlaps, span_of, unit_count}
use Rattle.eon_model.specs.Lists.{has_number, share_number, integers_from}
use Rattle.eon_model.specs.Sets.{NumberSet, has_member, members, meets}
use Rattle.eon_model.specs.Legal.{is_dual}
use Rattle.eon_model.specs.FirstFit.{centres_in}

-- Units on each of these fibres.
pub record Taken : Type 0 where
  pub fibres : List ℕ
  pub units : Units

-- Units that a backup takes on its fibres, with the groups of the working route that it backs.
pub record Reserved : Type 0 where
  pub risk : NumberSet
  pub taken : Taken

-- For each unit of each fibre, whether it is lit and whether a shared backup holds it.
pub record Rows : Type 0 where
  pub lit : ℕ → ℤ → Bool
  pub held : ℕ → ℤ → Bool

-- For each fibre, group and unit, how many shared backups hold the unit there whose working route the group hits.
abbrev pub Counts : Type 0
Counts = ℕ → ℕ → ℤ → ℕ

-- ---- what was taken

-- whether the unit on the fibre is one of these
abbrev pub takes : ℕ → ℤ → Taken → Bool
takes fibre u t = has_number t.fibres fibre && has_unit t.units u

-- whether it is reserved, for the failure of the group
abbrev pub reserves_for : ℕ → ℕ → ℤ → Reserved → Bool
reserves_for fibre group u r = has_member r.risk group && takes fibre u r.taken

-- how many of these reserve it for the failure of the group
abbrev pub counts_among : List Reserved → Counts
counts_among rs fibre group u = count_by (reserves_for fibre group u) rs

-- whether both take a unit on a fibre
abbrev pub overlap_on_fibre : Taken → Taken → Bool
overlap_on_fibre s t = share_number s.fibres t.fibres && overlaps s.units t.units

-- whether a backup of this risk may stand there beside the other one: both take no common unit, or no failure needs both
abbrev pub may_stand_beside : NumberSet → Taken → Reserved → Bool
may_stand_beside risk t r = not (overlap_on_fibre t r.taken) || not (meets risk r.risk)

-- ---- changes of rows and counts

-- the rows, with these units lit
abbrev pub with_lit : Taken → Rows → Rows
with_lit t rows = record { lit = λ fibre u. rows.lit fibre u || takes fibre u t; held = rows.held }

-- the rows, with these units dark
abbrev pub without_lit : Taken → Rows → Rows
without_lit t rows = record { lit = λ fibre u. rows.lit fibre u && not (takes fibre u t); held = rows.held }

-- the counts with one more backup
abbrev pub with_reserved : Reserved → Counts → Counts
with_reserved r counts fibre group u =
    if reserves_for fibre group u r then counts fibre group u + 1 else counts fibre group u

-- the counts with one backup fewer
abbrev pub without_reserved : Reserved → Counts → Counts
without_reserved r counts fibre group u =
    if reserves_for fibre group u r then counts fibre group u - 1 else counts fibre group u

-- For each unit of each fibre, how many shared backups hold it.
abbrev pub Holders : Type 0
Holders = ℕ → ℤ → ℕ

-- with one backup more on these units
abbrev pub with_held : Taken → Holders → Holders
with_held t holders fibre u = if takes fibre u t then holders fibre u + 1 else holders fibre u

-- with one backup fewer
abbrev pub without_held : Taken → Holders → Holders
without_held t holders fibre u = if takes fibre u t then holders fibre u - 1 else holders fibre u

-- the rows in which a unit is held where a backup or more hold it
abbrev pub rows_with : (ℕ → ℤ → Bool) → Holders → Rows
rows_with lit holders = record { lit = lit; held = λ fibre u. not (holders fibre u == 0) }

-- changed once by each of these, in order
abbrev pub changed_by : {X Y : Type 0} → (X → Y → Y) → List X → Y → Y
changed_by change [] y = y
changed_by change (x ∷ xs) y = changed_by change xs (change x y)

-- ---- what is free

-- the units from lo to hi, upwards
abbrev pub units_in : Units → List ℤ
units_in a = integers_from a.lo (unit_count a)

-- whether the test passes at each of the units, on each of the fibres
abbrev pub at_each : (ℕ → ℤ → Bool) → Taken → Bool
at_each test t = list_all (λ fibre. list_all (test fibre) (units_in t.units)) t.fibres

-- whether no backup of a working route that one of the groups hits holds the unit
abbrev pub has_no_sharer : Counts → NumberSet → ℕ → ℤ → Bool
has_no_sharer counts risk fibre u = list_all (λ group. counts fibre group u == 0) (members risk)

-- whether no unit is lit or held: a channel may be lit there
abbrev pub is_free : Rows → Taken → Bool
is_free rows = at_each (λ fibre u. not (rows.lit fibre u) && not (rows.held fibre u))

-- the same, with units that are the channel's own left out of what is lit
abbrev pub is_free_beside : Rows → Taken → Taken → Bool
is_free_beside rows own =
    at_each (λ fibre u. not (rows.lit fibre u && not (takes fibre u own)) && not (rows.held fibre u))

-- whether no unit is lit
abbrev pub is_dark : Rows → Taken → Bool
is_dark rows = at_each (λ fibre u. not (rows.lit fibre u))

-- whether no backup of a working route that one of the groups hits holds a unit
abbrev pub is_unshared : Counts → NumberSet → Taken → Bool
is_unshared counts risk = at_each (has_no_sharer counts risk)

-- whether a backup of this class, whose working route has this risk, may hold the unit: it is not lit, and no backup
-- holds it; where the class shares, others may, but for those whose working route meets the risk
abbrev pub may_reserve_unit : Rows → Counts → Class → NumberSet → ℕ → ℤ → Bool
may_reserve_unit rows counts class risk fibre u =
    not (rows.lit fibre u)
    && (if is_dual class then not (rows.held fibre u) else has_no_sharer counts risk fibre u)

-- whether it may hold these units
abbrev pub may_reserve : Rows → Counts → Class → NumberSet → Taken → Bool
may_reserve rows counts class risk = at_each (may_reserve_unit rows counts class risk)

-- ---- the greatest unit of a band below another one that passes a test

-- or none, where there is none
abbrev pub greatest_below : Band → (ℤ → Bool) → ℤ → Option ℤ
greatest_below band test u = find test (reverse (filter (λ v. not (int_le u v)) (centres_in band)))

-- the greatest unit of the band below u that is lit or held on the fibre; gaps between parts of the band count too
abbrev pub top_below : Band → Rows → ℕ → ℤ → Option ℤ
top_below band rows fibre = greatest_below band (λ v. rows.lit fibre v || rows.held fibre v)

-- The unit is one of the band's span, passes the test and lies below u, and no unit of the span between does.
pub record IsGreatest (band : Band) (test : ℤ → Bool) (u top : ℤ) : Type 0 where
  pub within : IsTrue (has_unit (span_of band) top)
  pub below : top <ℤ u
  pub passes : IsTrue (test top)
  pub highest : (v : ℤ) → IsTrue (has_unit (span_of band) v) → v <ℤ u → top <ℤ v → test v ≡ false

-- it is the greatest such unit, or there is none
abbrev pub IsGreatestBelow : Band → (ℤ → Bool) → ℤ → Option ℤ → Type 0
IsGreatestBelow band test u None =
    (v : ℤ) → IsTrue (has_unit (span_of band) v) → v <ℤ u → test v ≡ false
IsGreatestBelow band test u (Some top) = IsGreatest band test u top
