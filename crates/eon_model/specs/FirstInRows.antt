-- The least centres that rows and counts leave free, and first fit over them: path by path, the least centre at which
-- the path may stand.
use Rattle.std.specs.Prelude.{ℕ, ◌+◌, nat_le, ℤ, int_le, Bool, ◌&&◌, List, [], ◌∷◌, find, Option, Some, None}
use Rattle.std.specs.Option.{option_map, option_or}
use Rattle.eon_model.specs.declared.Class.{Class}
use Rattle.eon_model.specs.Grid.{Band, Slot, units_of, lies_in_band}
use Rattle.eon_model.specs.Sets.{NumberSet}
use Rattle.eon_model.specs.Candidates.{SizedRoute, Candidate}
use Rattle.eon_model.specs.FirstFit.{Placement, centres_in}
use Rattle.eon_model.specs.Rows.{Taken, Rows, Counts, is_free, is_dark, is_unshared, may_reserve}

-- whether the slot has a unit or more, all in one part of the band
abbrev pub stands_in : Band → Slot → Bool
stands_in band slot = nat_le 1 slot.m && lies_in_band band (units_of slot)

-- the units of the slot on these fibres
abbrev pub slot_on : List ℕ → Slot → Taken
slot_on fibres slot = record { fibres = fibres; units = units_of slot }

-- whether a channel may be lit at the centre
abbrev pub channel_stands : Band → Rows → List ℕ → ℕ → ℤ → Bool
channel_stands band rows fibres m n =
    let slot : Slot = record { n = n; m = m } in stands_in band slot && is_free rows (slot_on fibres slot)

-- whether a backup of this class, whose working route has this risk, may hold the slot at the centre
abbrev pub backup_stands : Band → Rows → Counts → Class → NumberSet → List ℕ → ℕ → ℤ → Bool
backup_stands band rows counts class risk fibres m n =
    let slot : Slot = record { n = n; m = m } in
    stands_in band slot && may_reserve rows counts class risk (slot_on fibres slot)

-- the least centre, at least `from`, whose slot lies in one part of the band with no unit lit or held on the fibres
abbrev pub least_free : Rows → List ℕ → ℕ → Band → ℤ → Option ℤ
least_free rows fibres m band from =
    find (λ n. int_le from n && channel_stands band rows fibres m n) (centres_in band)

-- whether the slot lies in one part of the band with no unit lit on the fibres, and none in a backup of a working route
-- that one of the groups hits
abbrev pub shared_stands : Band → Rows → Counts → NumberSet → List ℕ → ℕ → ℤ → Bool
shared_stands band rows counts risk fibres m n =
    let slot : Slot = record { n = n; m = m } in
    stands_in band slot && (is_dark rows (slot_on fibres slot) && is_unshared counts risk (slot_on fibres slot))

-- the least such centre
abbrev pub least_shared : Rows → Counts → NumberSet → List ℕ → ℕ → Band → Option ℤ
least_shared rows counts risk fibres m band =
    find (shared_stands band rows counts risk fibres m) (centres_in band)

-- ---- first fit

-- the least centre of a working path
abbrev pub least_channel : Band → Rows → SizedRoute → Option ℤ
least_channel band rows r = find (channel_stands band rows r.route.fibres r.m) (centres_in band)

-- the least centre of a backup, or none for a candidate without a backup
abbrev pub least_backup : Band → Rows → Counts → Class → NumberSet → Option SizedRoute → Option (Option ℤ)
least_backup band rows counts class risk None = Some None
least_backup band rows counts class risk (Some b) =
    option_map (λ n. Some n)
    (find (backup_stands band rows counts class risk b.route.fibres b.m) (centres_in band))

-- both centres, where both are there
abbrev pub placed_at : ℕ → Candidate → Option ℤ → Option (Option ℤ) → Option Placement
placed_at rank c None back = None
placed_at rank c (Some n) None = None
placed_at rank c (Some n) (Some b) = Some (record { candidate = c; rank = rank; work_n = n; back_n = b })

-- the least placement on a candidate
abbrev pub placement_in_rows : Band → Rows → Counts → Class → ℕ → Candidate → Option Placement
placement_in_rows band rows counts class rank c =
    placed_at rank c (least_channel band rows c.work)
    (least_backup band rows counts class c.work.route.risk c.back)

-- the placement on the first candidate that has one
abbrev pub first_in_rows : Band → Rows → Counts → Class → ℕ → List Candidate → Option Placement
first_in_rows band rows counts class rank [] = None
first_in_rows band rows counts class rank (c ∷ cs) =
    option_or (placement_in_rows band rows counts class rank c)
    (first_in_rows band rows counts class (rank + 1) cs)
