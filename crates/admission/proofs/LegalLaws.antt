-- A legal state with a new service, or with a second leg, is legal exactly where that leg may stand.
use Rattle.std.proofs.Common.{◌≡◌, refl, sym, ◌∙◌, ap, subst, ℕ, ◌<◌, Bool, true, false, ◌&&◌, ◌||◌, not, List, [], ◌∷◌, ◌++◌, length, Option, Some, None}
use Rattle.std.specs.Prelude.{nat_le}
use Rattle.std.specs.List.{list_all}
use Rattle.std.specs.Cmp.{nat_eq_equiv}
use Rattle.std.proofs.lemmas.Bool.{and_parts, and_from, not-true, lt-ltb}
use Rattle.std.proofs.lemmas.List.Folds.{list_all-map}
use Rattle.eon_model.specs.declared.Class.{Class}
use Rattle.eon_model.specs.Grid.{units_of, lies_in_band, is_band}
use Rattle.eon_model.specs.Names.{Name, same_name}
use Rattle.eon_model.specs.Lists.{has_number, share_number}
use Rattle.eon_model.specs.Network.{Fibre}
use Rattle.eon_model.specs.Route.{walks, is_route}
use Rattle.eon_model.specs.Services.{Leg, Service, State, owned, legs_of, owned_legs, all_legs, is_moving, service_of, collides, working_holding}
use Rattle.eon_model.specs.Legal.{Setup, need_of, is_exactly, fits, work_is_clear, is_clear, is_legal, Legal}
use Rattle.eon_model.specs.Candidates.{Candidate}
use Rattle.eon_model.specs.FirstFit.{Placement, leg_placed, placements_from, first_placement}
use Rattle.eon_model.specs.Changes.{change_service, without_service, with_next}
use Rattle.eon_model.specs.Occupied as rows
use Rattle.eon_model.proofs.OrderLaws.{AllOf}
use Rattle.eon_model.proofs.ListLaws.{AllOf-more, AllOf-append}
use Rattle.eon_model.proofs.UnitLaws.{all_flat}
use Rattle.eon_model.proofs.PairLaws.{all_across}
use Rattle.eon_model.proofs.NameLaws.{names_equal}
use Rattle.eon_model.proofs.NumberLaws.{same-name}
use Rattle.eon_model.proofs.GridLaws.{facts-overlaps}
use Rattle.eon_model.proofs.FirstRoutesLaws.{is_route-route_of}
use Rattle.eon_model.proofs.BackupLaws.{fits-parts}
use Rattle.eon_model.proofs.ClashLaws.{Others, NamedIn, service-named, no_service-others}
use Rattle.eon_model.proofs.ChangeLaws.{named_fits}
use Rattle.eon_model.proofs.FreeLaws.{IsKept, clear-stands}
use Rattle.eon_model.proofs.GoodLaws.{fits-kept, legal-kept, legal-good, without_others}
use Rattle.eon_model.proofs.RowRules.{entered-stands, made-stands}
use Rattle.eon_model.proofs.OwnFirst.{find-agree}
use Rattle.eon_model.proofs.SuitLaws.{Suits, HasBack, IsPlacementOf, placements-all}
use Rattle.admission.specs.FirstClear.{is_beside, are_clear, is_clear_with, may_stand, first_clear}
use Rattle.admission.proofs.FitLaws.{fits-stands}

-- ---- legal, by what the new leg owes

-- a leg that fits may stand beside rows and counts exactly where it is clear of all legs
fit_clear : (setup : Setup) (s : Service) (l : Leg) (state : State) → AllOf IsKept (all_legs state) →
    (fits setup s l && rows.may_stand state (without_service s.name state) (owned s.name s.class l))
    ≡ (fits setup s l && list_all (is_clear (owned s.name s.class l)) (all_legs state))
fit_clear setup s l state all = by (fits setup s l) refl
  where
    by : (b : Bool) → fits setup s l ≡ b →
        (b && rows.may_stand state (without_service s.name state) (owned s.name s.class l))
        ≡ (b && list_all (is_clear (owned s.name s.class l)) (all_legs state))
    by true e = sym (clear-stands (owned s.name s.class l) state (fits-kept setup s l e) all)
    by false e = refl

entered-clear : (setup : Setup) (state : State) (s : Service) → Legal setup state →
    length state < setup.services → service_of state s.name ≡ None → s.next ≡ None →
    is_legal setup (state ++ s ∷ [])
    ≡ (fits setup s s.leg && list_all (is_clear (owned s.name s.class s.leg)) (all_legs state))
entered-clear setup state s legal room fresh alone =
    entered-stands setup state s legal fresh alone
    ∙ (λ i. lt-ltb (length state) setup.services room i && (fits setup s s.leg
    && rows.may_stand state (sym (without_others s.name state (no_service-others state s.name fresh)) i)
    (owned s.name s.class s.leg)))
    ∙ fit_clear setup s s.leg state (legal-kept setup state legal)

made-clear : (setup : Setup) (state : State) (name : Name) (s : Service) → Legal setup state →
    service_of state name ≡ Some s → is_moving s ≡ false → s.name ≡ name → (l : Leg) → l.to ≡ None →
    is_legal setup (change_service name (with_next l) state)
    ≡ (fits setup s l && list_all (is_clear (owned s.name s.class l)) (all_legs state))
made-clear setup state name s legal found rest is l still =
    made-stands setup state name s legal found rest l still
    ∙ ap (λ n. fits setup s l && rows.may_stand state (without_service n state) (owned s.name s.class l)) (sym is)
    ∙ fit_clear setup s l state (legal-kept setup state legal)

-- ---- clear of all legs, service by service

-- the service beside whose leg the new one comes is the one of this name
abbrev pub IsOwn : Name → Option Leg → Service → Type 0
IsOwn name own s = same_name name s.name ≡ is_beside own s

clear-by_service : (name : Name) (class : Class) (own : Option Leg) (l : Leg) (state : State) →
    AllOf (IsOwn name own) state →
    list_all (is_clear (owned name class l)) (all_legs state) ≡ list_all (is_clear_with class own l) state
clear-by_service name class own l state all =
    all_flat (is_clear (owned name class l)) owned_legs state ∙ each state all
  where
    each : (ss : State) → AllOf (IsOwn name own) ss →
        list_all (λ s. list_all (is_clear (owned name class l)) (owned_legs s)) ss
        ≡ list_all (is_clear_with class own l) ss
    each [] a = refl
    each (s ∷ ss) a =
        λ i. (list_all-map (is_clear (owned name class l)) (owned s.name s.class) (legs_of s)
        ∙ ap (λ same. list_all (are_clear same class l s.class) (legs_of s)) a.0) i && each ss a.1 i

new_is_beside_none : (name : Name) (state : State) → Others name state → AllOf (IsOwn name None) state
new_is_beside_none name [] o = tt
new_is_beside_none name (s ∷ state) o =
    (names_equal.symm name s.name ∙ o.0, new_is_beside_none name state o.1)

-- ---- the channels of a legal list

has_own : (i : ℕ) (is : List ℕ) → share_number (i ∷ is) (i ∷ is) ≡ true
has_own i is = λ j. (nat_eq_equiv.refl i j || rest) || more
  where
    rest : Bool
    rest = has_number is i

    more : Bool
    more = share_number is (i ∷ is)

shares_itself : (fibres : List Fibre) (s t : ℕ) (is : List ℕ) → walks fibres s t is ≡ true →
    share_number is is ≡ true
shares_itself fibres s t [] h = cc
shares_itself fibres s t (i ∷ is) h = has_own i is

meets_itself : (setup : Setup) (s : Service) (l : Leg) → fits setup s l ≡ true →
    collides (working_holding l) (working_holding l) ≡ true
meets_itself setup s l h =
    let net = setup.network in
    let p = l.work in
    let some = (fits-kept setup s l h).channel in
    let a = and_parts (is_route net s.src s.dst p.route && nat_le 1 p.slot.m
    && is_exactly (need_of setup s.rate p.route.km) p.slot.m) (lies_in_band setup.band (units_of p.slot))
    (fits-parts setup s l h).work in
    let b = and_parts (is_route net s.src s.dst p.route && nat_le 1 p.slot.m)
    (is_exactly (need_of setup s.rate p.route.km) p.slot.m) a.0 in
    let route = is_route-route_of net s.src s.dst p.route
    (and_parts (is_route net s.src s.dst p.route) (nat_le 1 p.slot.m) b.0).0 in
    and_from _ _ (shares_itself net.fibres s.src s.dst l.work.route.fibres route.1)
    (facts-overlaps _ _ some some)

module _ (setup : Setup) (state : State) (name : Name) (s : Service) (legal : Legal setup state)
    (found : service_of state name ≡ Some s) where
  named : NamedIn state name s
  named = service-named setup state name s legal found

  pub name_is : s.name ≡ name
  name_is = same-name s.name name named.named

  others_clear : list_all (is_clear (owned s.name s.class s.leg)) (all_legs (named.before ++ named.after)) ≡ true
  others_clear =
      let good = legal-good setup named.before s named.after (subst (Legal setup) named.is legal) in
      (and_parts (list_all (is_clear (owned s.name s.class s.leg)) (all_legs (named.before ++ named.after)))
      (all_across is_clear _ (all_legs (named.before ++ named.after))) (and_parts _ _ good).1).0

  other_is_apart : (x : Service) → same_name x.name name ≡ false →
      list_all (is_clear (owned s.name s.class s.leg)) (owned_legs x) ≡ true → IsOwn s.name (Some s.leg) x
  other_is_apart x other h =
      let clear = (and_parts (is_clear (owned s.name s.class s.leg) (owned x.name x.class x.leg)) _ h).0 in
      let work = (and_parts (work_is_clear s.leg x.leg) (work_is_clear x.leg s.leg)
      (and_parts (work_is_clear s.leg x.leg && work_is_clear x.leg s.leg) _ clear).0).0 in
      ap (λ n. same_name n x.name) name_is ∙ names_equal.symm name x.name ∙ other
      ∙ sym (not-true _ (and_parts (not (collides (working_holding s.leg) (working_holding x.leg))) _ work).0)

  others_are_apart : (xs : State) → Others name xs →
      list_all (λ x. list_all (is_clear (owned s.name s.class s.leg)) (owned_legs x)) xs ≡ true →
      AllOf (IsOwn s.name (Some s.leg)) xs
  others_are_apart [] o h = tt
  others_are_apart (x ∷ xs) o h =
      let parts = and_parts (list_all (is_clear (owned s.name s.class s.leg)) (owned_legs x)) _ h in
      (other_is_apart x o.0 parts.0, others_are_apart xs o.1 parts.1)

  itself_is : IsOwn s.name (Some s.leg) s
  itself_is = names_equal.refl s.name
      ∙ sym (meets_itself setup s s.leg (named_fits setup state name s legal found))

  pub own_is : AllOf (IsOwn s.name (Some s.leg)) state
  own_is =
      let all = others_are_apart (named.before ++ named.after)
      (AllOf-append (λ x. same_name x.name name ≡ false) named.before named.after named.others_before
      named.others_after)
      (sym (all_flat (is_clear (owned s.name s.class s.leg)) owned_legs (named.before ++ named.after))
      ∙ others_clear) in
      subst (AllOf (IsOwn s.name (Some s.leg))) (sym named.is) (among named.before all)
    where
      among : (before : State) → AllOf (IsOwn s.name (Some s.leg)) (before ++ named.after) →
          AllOf (IsOwn s.name (Some s.leg)) (before ++ s ∷ named.after)
      among [] a = (itself_is, a)
      among (x ∷ xs) a = (a.0, among xs a.1)

-- ---- a placement that may stand

module _ (setup : Setup) (state : State) (s : Service) (band : is_band setup.band ≡ true) (own : Option Leg)
    (p : Placement) (suits : Suits setup s.src s.dst s.rate s.class p.candidate)
    (has : HasBack p.candidate.back p.back_n) (all : AllOf (IsOwn s.name own) state) where
  placed-stands : (fits setup s (leg_placed p)
      && list_all (is_clear (owned s.name s.class (leg_placed p))) (all_legs state))
      ≡ may_stand state setup.band s.class own (leg_placed p)
  placed-stands =
      λ i. fits-stands setup s band p suits has i
      && clear-by_service s.name s.class own (leg_placed p) state all i

pub entered-legal : (setup : Setup) (state : State) (s : Service) → is_band setup.band ≡ true →
    Legal setup state → length state < setup.services → service_of state s.name ≡ None → s.next ≡ None →
    (p : Placement) → s.leg ≡ leg_placed p → Suits setup s.src s.dst s.rate s.class p.candidate →
    HasBack p.candidate.back p.back_n →
    is_legal setup (state ++ s ∷ []) ≡ may_stand state setup.band s.class None (leg_placed p)
entered-legal setup state s band legal room fresh alone p is suits has =
    entered-clear setup state s legal room fresh alone
    ∙ ap (λ (l : Leg). fits setup s l && list_all (is_clear (owned s.name s.class l)) (all_legs state)) is
    ∙ placed-stands setup state s band None p suits has
    (new_is_beside_none s.name state (no_service-others state s.name fresh))

pub made-legal : (setup : Setup) (state : State) (name : Name) (s : Service) → is_band setup.band ≡ true →
    Legal setup state → service_of state name ≡ Some s → is_moving s ≡ false →
    (p : Placement) → Suits setup s.src s.dst s.rate s.class p.candidate → HasBack p.candidate.back p.back_n →
    is_legal setup (change_service name (with_next (leg_placed p)) state)
    ≡ may_stand state setup.band s.class (Some s.leg) (leg_placed p)
made-legal setup state name s band legal found rest p suits has =
    made-clear setup state name s legal found rest (name_is setup state name s legal found) (leg_placed p) refl
    ∙ placed-stands setup state s band (Some s.leg) p suits has (own_is setup state name s legal found)

-- ---- the first placement

module _ (setup : Setup) (state : State) (cs : List Candidate) (class : Class) (own : Option Leg)
    (state_with : Leg → State) (P : Candidate → Type 0) (all_suit : AllOf P cs)
    (same : (p : Placement) → P p.candidate → HasBack p.candidate.back p.back_n →
    is_legal setup (state_with (leg_placed p)) ≡ may_stand state setup.band class own (leg_placed p)) where
  pub first-same : first_clear state setup.band class cs own ≡ first_placement setup cs state_with
  first-same =
      sym (find-agree (λ p. is_legal setup (state_with (leg_placed p)))
      (λ p. may_stand state setup.band class own (leg_placed p)) (placements_from setup.band 0 cs)
      (AllOf-more (IsPlacementOf P setup.band) _ (λ p h. same p h.suits h.back) (placements_from setup.band 0 cs)
      (placements-all P setup.band 0 cs all_suit)))
