-- The first placement over the rows of a legal state is the first one with which the state is legal.
use Rattle.std.proofs.Common.{◌≡◌, refl, sym, ◌∙◌, ap, ℕ, ◌+◌, ◌<◌, ℤ, arith, Bool, true, false, cond, List, [], ◌∷◌, ◌++◌, map, length, Option, Some, None}
use Rattle.std.specs.Option.{option_map, option_or, option_to_list}
use Rattle.std.specs.List.{flat_map}
use Rattle.std.proofs.lemmas.Bool.{both_ways}
use Rattle.eon_model.specs.declared.Class.{Class}
use Rattle.eon_model.specs.declared.Class.TheVariants.{Bare, Shared, Dual}
use Rattle.eon_model.specs.Grid.{Band, units_of}
use Rattle.eon_model.specs.Names.{Name}
use Rattle.eon_model.specs.Services.{Path, Leg, Service, State, Holding, owned_legs, is_moving, service_of, holding_of}
use Rattle.eon_model.specs.Legal.{Setup, is_shared, is_protected, Legal}
use Rattle.eon_model.specs.Candidates.{SizedRoute, Candidate, candidates}
use Rattle.eon_model.specs.Changes.{change_service, without_service, with_next}
use Rattle.eon_model.specs.FirstByRows.{first_by_rows}
use Rattle.eon_model.specs.FirstFit.{Placement, first_placement}
use Rattle.eon_model.specs.FirstInRows.{least_channel, least_backup, placed_at, first_in_rows}
use Rattle.eon_model.specs.Occupied.{RowsOf, Reserve, sharers_among, sharers_of, reserves_by, rows_of, counts_of, leg_of_service}
use Rattle.eon_model.specs.Rows.{Rows, Counts}
use Rattle.eon_model.specs.Sets.{NumberSet}
use Rattle.eon_model.specs.Commands.{Demand}
use Rattle.eon_model.specs.Step.{node_numbered, new_service}
use Rattle.eon_model.proofs.BackupLaws.{fits-parts, backup-protected}
use Rattle.eon_model.proofs.ChangeLaws.{named_fits}
use Rattle.eon_model.proofs.ClashLaws.{at_rest}
use Rattle.eon_model.proofs.CountLaws.{own_taken_out}
use Rattle.eon_model.proofs.FirstRows.{first_new, first_second}
use Rattle.eon_model.proofs.OwnRows.{own_out}
use Rattle.admission.specs.Told.{answer_for}
use Rattle.admission.specs.declared.placing.Admit.{Admit}
use Rattle.backup_sharing.specs.Shared.{counts_beside, reserved}
use Rattle.row_admission.specs.RowFirst.{backup_of, answer_in_rows, IsFirstForNewService, IsFirstForSecondLeg}

-- ---- a backup that is always lit looks at no count

module _ (band : Band) (rows : Rows) (one other : Counts) where
  dual_back : (risk : NumberSet) (back : Option SizedRoute) →
      least_backup band rows one Dual risk back ≡ least_backup band rows other Dual risk back
  dual_back risk None = refl
  dual_back risk (Some b) = refl

  dual_first : (rank : ℕ) (cs : List Candidate) →
      first_in_rows band rows one Dual rank cs ≡ first_in_rows band rows other Dual rank cs
  dual_first rank [] = refl
  dual_first rank (c ∷ cs) =
      λ i. option_or (placed_at rank c (least_channel band rows c.work) (dual_back c.work.route.risk c.back i))
      (dual_first (rank + 1) cs i)

-- ---- the counts without a service at rest

module _ (setup : Setup) (state : State) (name : Name) (s : Service) (legal : Legal setup state)
    (found : service_of state name ≡ Some s) (rest : is_moving s ≡ false) where
  abbrev reserve : Holding → Reserve
  reserve h = record { work = s.leg.work.route; backup = h }

  no_reserve : s.leg.back ≡ None → flat_map reserves_by (owned_legs s) ≡ []
  no_reserve back =
      ap (λ (o : Option Leg). flat_map reserves_by (map (leg_of_service s) (s.leg ∷ option_to_list o)))
      (at_rest s rest).1
      ∙ ap (λ (o : Option Path). map (λ h. reserve h) (cond (is_shared s.class) (map holding_of (option_to_list o)) []) ++ [])
      back
      ∙ by (is_shared s.class)
    where
      by : (c : Bool) → map (λ h. reserve h) (cond c [] []) ++ [] ≡ []
      by true = refl
      by false = refl

  none_left_out : s.leg.back ≡ None → counts_of state ≡ counts_of (without_service name state)
  none_left_out back = λ i fibre group u. at fibre group u i
    where
      at : (fibre group : ℕ) (u : ℤ) → sharers_of state fibre group u
          ≡ sharers_of (without_service name state) fibre group u
      at fibre group u =
          let e = (own_out setup state name s legal found).shared fibre group u in
          let c = ap (λ (rs : List Reserve). sharers_among rs fibre group u) (no_reserve back) in
          let none : sharers_among [] fibre group u ≡ 0 = refl in
          omega arith

  beside : (band : Band) (cs : List Candidate) (class : Class) (back : Option Path) → s.class ≡ class →
      s.leg.back ≡ back →
      first_in_rows band (rows_of state)
      (counts_beside (option_map (λ b. reserved s.leg.work.route.risk b.route.fibres (units_of b.slot)) back)
      (counts_of state)) class 0 cs
      ≡ first_in_rows band (rows_of state) (counts_of (without_service name state)) class 0 cs
  beside band cs class None e f =
      ap (λ (k : Counts). first_in_rows band (rows_of state) k class 0 cs) (none_left_out f)
  beside band cs Bare (Some b) e f =
      absurd (both_ways (is_protected s.class) (ap is_protected e)
      (backup-protected setup s s.leg b (fits-parts setup s s.leg (named_fits setup state name s legal found)).back f))
  beside band cs Shared (Some b) e f =
      ap (λ (k : Counts). first_in_rows band (rows_of state) k Shared 0 cs)
      (sym (own_taken_out setup state name s b legal found rest f (ap is_shared e)))
  beside band cs Dual (Some b) e f =
      dual_first band (rows_of state)
      (counts_beside (Some (reserved s.leg.work.route.risk b.route.fibres (units_of b.slot))) (counts_of state))
      (counts_of (without_service name state)) 0 cs

-- ---- what is found, and the answers

module _ (rows : Rows) (counts : Counts) (band : Band) (class : Class) (own : Option Leg) (pairs : List Candidate) where
  abbrev pub found_first : Option Placement
  found_first = first_in_rows band rows (counts_beside (backup_of own) counts) class 0 pairs

  module _ (setup : Setup) (state : State) (avoid : Option ℕ) (same : RowsOf state rows counts)
      (band_is : setup.band ≡ band) (legal : Legal setup state) where
    pub new-is : (d : Demand) → d.class ≡ class → own ≡ None → length state < setup.services →
        service_of state d.name ≡ None →
        pairs ≡ candidates setup (node_numbered setup.network d.src) (node_numbered setup.network d.dst) d.rate d.class avoid →
        found_first ≡ first_placement setup pairs (λ l. state ++ new_service setup.network d l ∷ [])
    new-is d class_is none room fresh these =
        let net = setup.network in
        (λ i. first_in_rows (sym band_is i) (same.rows_are i) (counts_beside (backup_of (none i)) (same.counts_are i))
        (sym class_is i) 0 pairs)
        ∙ ap (first_by_rows setup.band state state d.class 0) these
        ∙ sym (first_new setup state legal d avoid room fresh)
        ∙ ap (λ (cs : List Candidate). first_placement setup cs (λ l. state ++ new_service net d l ∷ [])) (sym these)

    pub second-is : (name : Name) (s : Service) → s.class ≡ class → own ≡ Some s.leg → service_of state name ≡ Some s →
        is_moving s ≡ false → pairs ≡ candidates setup s.src s.dst s.rate s.class avoid →
        found_first ≡ first_placement setup pairs (λ l. change_service name (with_next l) state)
    second-is name s class_is own_is found rest these =
        (λ i. first_in_rows (sym band_is i) (same.rows_are i) (counts_beside (backup_of (own_is i)) (same.counts_are i))
        (sym class_is i) 0 pairs)
        ∙ beside setup state name s legal found rest setup.band pairs s.class s.leg.back refl refl
        ∙ ap (first_by_rows setup.band state (without_service name state) s.class 0) these
        ∙ sym (first_second setup state legal name s avoid found rest)
        ∙ ap (λ (cs : List Candidate). first_placement setup cs (λ l. change_service name (with_next l) state)) (sym these)

  module _ (answer : Admit) (is : answer ≡ answer_in_rows rows counts band class own pairs) where
    pub first-new : IsFirstForNewService rows counts band class own pairs answer
    first-new = λ setup state d avoid same band_is class_is none legal room fresh these.
        is ∙ ap (answer_for (length pairs)) (new-is setup state avoid same band_is legal d class_is none room fresh these)

    pub first-second : IsFirstForSecondLeg rows counts band class own pairs answer
    first-second = λ setup state name s avoid same band_is class_is own_is legal found rest these.
        is ∙ ap (answer_for (length pairs))
        (second-is setup state avoid same band_is legal name s class_is own_is found rest these)
