-- Whatever a legal state takes is in range: fibres of the network, none twice, and units of one part of the band.
use Rattle.std.proofs.Common.{◌≡◌, refl, sym, ◌∙◌, ap, subst, ℕ, ◌+◌, ◌<◌, arith, inl, inr, Bool, true, false, cond, not, List, [], ◌∷◌, length, map, nat_eq, Option, Some, None}
use Rattle.std.specs.Prelude.{◌==◌}
use Rattle.std.specs.Option.{option_to_list}
use Rattle.std.specs.Cmp.{nat_eq_equiv}
use Rattle.std.specs.FinSet.{contains-from_list_nat}
use Rattle.std.specs.List.{AllByRecursion, list_all, flat_map}
use Rattle.std.proofs.lemmas.Bool.{and_parts, and_from, both_ways, not-true, not_from_false, false_from_ne_true, eqb-true}
use Rattle.eon_model.specs.Grid.{lies_in_band}
use Rattle.eon_model.specs.Lists.{numbers_differ, has_number}
use Rattle.eon_model.specs.Sets.{NumberSet, has_member}
use Rattle.eon_model.specs.Network.{Network, Fibre, Group, groups_with, risks_of_fibre}
use Rattle.eon_model.specs.Route.{Route, risk_of, nodes_along, ends_at, visits_once, walks}
use Rattle.eon_model.specs.Services.{Path, Leg, Service, State, OwnedLeg, Holding, all_legs, drift_units, holding_of, working_holding, backup_holdings, owned}
use Rattle.eon_model.specs.Legal.{Setup, is_shared, is_dual, path_fits, target_fits, fits, Legal}
use Rattle.eon_model.specs.Listings.{lit_by, held_by, lit_holdings, shared_backups}
use Rattle.eon_model.specs.NetworkText.{is_setup}
use Rattle.eon_model.specs.Occupied.{Reserve, reserves_by, reserves, taken_of, reserved_of}
use Rattle.eon_model.specs.RowLaws.{TakenInRange, ReservedInRange}
use Rattle.eon_model.proofs.OrderLaws.{IsIn, AllOf, AllOf-at}
use Rattle.eon_model.proofs.ListLaws.{AllOf-map, all_flat}
use Rattle.eon_model.proofs.Members.{list_all-at, list_all-of, any-member}
use Rattle.eon_model.proofs.RouteLaws.{far_end_cases, walks-IsListed}
use Rattle.eon_model.proofs.DeviationWalks.{nodes_of_walk}
use Rattle.eon_model.proofs.DeviationFibres.{step-of, ends-visited}
use Rattle.eon_model.proofs.FirstRoutesLaws.{is_route-route_of, all_of}
use Rattle.eon_model.proofs.SetupLaws.{setup-EndsAreNodes}
use Rattle.eon_model.proofs.ToldLaws.{path_fits-route}
use Rattle.eon_model.proofs.BackupLaws.{LegFits, fits-parts, backup-path}
use Rattle.eon_model.proofs.RangeLaws.{path-range}
use Rattle.eon_model.proofs.GoodLaws.{some_units, legal-legs}
use Rattle.eon_model.proofs.FirstRoutesFacts.{by_recursion}

-- ---- a walk uses no fibre twice

module _ (fibres : List Fibre) where
  -- both ends of a fibre that comes later are visited later, and its near end is not
  not_again : (node : ℕ) (i : ℕ) (is ns : List ℕ) → nodes_along fibres node (i ∷ is) ≡ Some ns →
      numbers_differ ns ≡ true → IsIn i is → ⊥
  not_again node i is ns e d k =
      let s = step-of fibres node i is ns e in
      let ends = ends-visited fibres s.next is s.rest i s.along k in
      let same : ends.fibre ≡ s.fibre = let a = ends.is in let b = s.known in cc in
      let row = (and_parts (list_all (λ b. not (nat_eq node b)) s.rest) (numbers_differ s.rest)
      (ap numbers_differ (sym s.nodes) ∙ d)).0 in
      let not_in : IsIn node s.rest → ⊥ = λ j. both_ways (nat_eq node node)
      (not-true _ (list_all-at (λ b. not (nat_eq node b)) s.rest node row j)) (nat_eq_equiv.refl node) in
      elim (far_end_cases node s.next s.fibre (nat_eq s.fibre.a node) (nat_eq s.fibre.b node) refl refl s.far) [
        | inl one ↦ not_in (subst (λ (n : ℕ). IsIn n s.rest) (ap (λ (g : Fibre). g.a) same ∙ one.0) ends.a)
        | inr two ↦ not_in (subst (λ (n : ℕ). IsIn n s.rest) (ap (λ (g : Fibre). g.b) same ∙ two.0) ends.b)
      ]

  differ_along : (node : ℕ) (is ns : List ℕ) → nodes_along fibres node is ≡ Some ns → numbers_differ ns ≡ true →
      numbers_differ is ≡ true
  differ_along node [] ns e d = refl
  differ_along node (i ∷ is) ns e d =
      let s = step-of fibres node i is ns e in
      let rest = (and_parts (list_all (λ b. not (nat_eq node b)) s.rest) (numbers_differ s.rest)
      (ap numbers_differ (sym s.nodes) ∙ d)).1 in
      and_from _ _
      (list_all-of (λ j. not (nat_eq i j)) is (λ j k. not_from_false _ (false_from_ne_true (nat_eq i j) λ same.
      not_again node i is ns e d (subst (λ (n : ℕ). IsIn n is) (sym (eqb-true i j same)) k))))
      (differ_along s.next is s.rest s.along rest)

  pub walk_differs : (s t : ℕ) (is : List ℕ) → walks fibres s t is ≡ true → numbers_differ is ≡ true
  walk_differs s t [] h = refl
  walk_differs s t (i ∷ is) h =
      let whole = nodes_of_walk fibres s t (i ∷ is) h in
      differ_along s (i ∷ is) whole.0 whole.1
      (and_parts (ends_at t whole.0) (numbers_differ whole.0)
      (subst (λ (o : Option (List ℕ)). visits_once o t ≡ true) whole.1 h)).1

-- ---- the groups of a route

named_below : (n fibre most : ℕ) (gs : List Group) → n + length gs < most + 1 →
    AllOf (λ g. g < most) (groups_with n fibre gs)
named_below n fibre most [] h = tt
named_below n fibre most (g ∷ gs) h =
    by (has_number g.fibres fibre) (named_below (n + 1) fibre most gs (omega arith))
  where
    by : (b : Bool) → AllOf (λ g. g < most) (groups_with (n + 1) fibre gs) →
        AllOf (λ g. g < most) (cond b (n ∷ groups_with (n + 1) fibre gs) (groups_with (n + 1) fibre gs))
    by true more = (omega (arith, h), more)
    by false more = more

risk_below : (net : Network) (r : Route) (g : ℕ) → AllOf (λ i. i < length net.fibres) r.fibres →
    r.risk ≡ risk_of net r.fibres → has_member r.risk g ≡ true →
    g < length net.fibres + length net.groups
risk_below net r g below is h =
    let most = length net.fibres + length net.groups in
    let found = any-member (λ k. k == g) (flat_map (risks_of_fibre net) r.fibres)
    (sym (contains-from_list_nat (flat_map (risks_of_fibre net) r.fibres) g)
    ∙ ap (λ (set : NumberSet). has_member set g) (sym is) ∙ h) in
    let all = all_flat (λ k. k < most) (risks_of_fibre net) (λ i. i < length net.fibres)
    (λ i l. (omega (arith, l), named_below (length net.fibres) i most net.groups (omega arith))) r.fibres below in
    let l = AllOf-at (λ k. k < most) (flat_map (risks_of_fibre net) r.fibres) found.0 all found.1.0 in
    let same = eqb-true found.0 g found.1.1 in
    omega arith

-- ---- a leg that fits

module _ (setup : Setup) (ok : is_setup setup ≡ true) where
  path_taken : (s : Service) (p : Path) (to : Option _) → path_fits setup s p ≡ true →
      lies_in_band setup.band (drift_units p.slot to) ≡ true →
      TakenInRange setup (record { fibres = p.route.fibres; units = drift_units p.slot to })
  path_taken s p to h lies =
      let net = setup.network in
      let walk = (is_route-route_of net s.src s.dst p.route (path_fits-route setup s p h)).1 in
      record {
        fibres = (walks-IsListed net s.src s.dst p.route.fibres (setup-EndsAreNodes setup ok) walk).fibres;
        once = walk_differs net.fibres s.src s.dst p.route.fibres walk;
        some = some_units p.slot to (path-range setup s p ok h).one;
        within = lies;
      }

  groups_in : (s : Service) (p : Path) → path_fits setup s p ≡ true → (g : ℕ) → has_member p.route.risk g ≡ true →
      g < length setup.network.fibres + length setup.network.groups
  groups_in s p h g k =
      let net = setup.network in
      let route = is_route-route_of net s.src s.dst p.route (path_fits-route setup s p h) in
      let listed = walks-IsListed net s.src s.dst p.route.fibres (setup-EndsAreNodes setup ok) route.1 in
      risk_below net p.route g (all_of (λ i. i < length net.fibres) p.route.fibres listed.fibres)
      (ap (λ (r : Route). r.risk) route.0) k

  abbrev IsInRange : Holding → Type 0
  IsInRange h = TakenInRange setup (taken_of h)

  abbrev IsReservedInRange : Reserve → Type 0
  IsReservedInRange r = ReservedInRange setup (reserved_of r)

  -- what a leg takes
  record LegTakes (q : OwnedLeg) : Type 0 where
    channel : IsInRange (working_holding q.leg)
    backup : AllOf IsInRange (backup_holdings q.leg)
    groups : (g : ℕ) → has_member q.leg.work.route.risk g ≡ true →
        g < length setup.network.fibres + length setup.network.groups

  drift_lies : (s : Service) (l : Leg) (to : Option _) → path_fits setup s l.work ≡ true →
      target_fits setup l.work to ≡ true → lies_in_band setup.band (drift_units l.work.slot to) ≡ true
  drift_lies s l None h t = (path-range setup s l.work ok h).band
  drift_lies s l (Some n) h t = t

  leg_takes : (s : Service) (l : Leg) → fits setup s l ≡ true → LegTakes (owned s.name s.class l)
  leg_takes s l h =
      let parts = fits-parts setup s l h in
      record {
        channel = path_taken s l.work l.to parts.work (drift_lies s l l.to parts.work parts.to);
        backup = spare parts l.back refl;
        groups = groups_in s l.work parts.work;
      }
    where
      spare : LegFits setup s l → (back : Option Path) → l.back ≡ back →
          AllOf IsInRange (map holding_of (option_to_list back))
      spare parts None e = tt
      spare parts (Some b) e =
          let fit = backup-path setup s l b parts.back e in
          (path_taken s b None fit (path-range setup s b ok fit).band, tt)

  lit_taken : (q : OwnedLeg) → LegTakes q → AllOf IsInRange (lit_by q)
  lit_taken q k = (k.channel, by (is_dual q.class))
    where
      by : (b : Bool) → AllOf IsInRange (cond b (backup_holdings q.leg) [])
      by true = k.backup
      by false = tt

  held_taken : (q : OwnedLeg) → LegTakes q → AllOf IsInRange (held_by q)
  held_taken q k = by (is_shared q.class)
    where
      by : (b : Bool) → AllOf IsInRange (cond b (backup_holdings q.leg) [])
      by true = k.backup
      by false = tt

  reserve_taken : (q : OwnedLeg) → LegTakes q → AllOf IsReservedInRange (reserves_by q)
  reserve_taken q k = AllOf-map IsInRange IsReservedInRange (λ h. record { work = q.leg.work.route; backup = h })
      (λ h t. record { groups = k.groups; taken = t }) (held_by q) (held_taken q k)

  module _ (state : State) (legal : Legal setup state) where
    all_take : AllOf LegTakes (all_legs state)
    all_take = legal-legs setup LegTakes leg_takes state legal

    pub lit_in_range : AllByRecursion IsInRange (lit_holdings state)
    lit_in_range = by_recursion IsInRange (lit_holdings state)
        (all_flat IsInRange lit_by LegTakes lit_taken (all_legs state) all_take)

    pub held_in_range : AllByRecursion IsInRange (shared_backups state)
    held_in_range = by_recursion IsInRange (shared_backups state)
        (all_flat IsInRange held_by LegTakes held_taken (all_legs state) all_take)

    pub reserves_in_range : AllByRecursion IsReservedInRange (reserves state)
    reserves_in_range = by_recursion IsReservedInRange (reserves state)
        (all_flat IsReservedInRange reserves_by LegTakes reserve_taken (all_legs state) all_take)
