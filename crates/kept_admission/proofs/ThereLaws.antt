-- What candidates and legs take is on fibres and in groups that the rows have.
use Rattle.std.proofs.Common.{◌≡◌, refl, sym, ◌∙◌, ap, subst, ℕ, ◌+◌, ◌<◌, arith, Bool, true, false, cond, List, [], ◌∷◌, length, Option, Some, None}
use Rattle.std.specs.Prelude.{◌==◌, IfSome}
use Rattle.std.specs.FinSet.{contains-from_list_nat}
use Rattle.std.specs.List.{AllByRecursion, flat_map}
use Rattle.std.specs.Option.{option_map}
use Rattle.std.proofs.lemmas.Bool.{eqb-true}
use Rattle.eon_model.specs.declared.Class.{Class}
use Rattle.eon_model.specs.declared.Class.TheVariants.{Bare, Shared, Dual}
use Rattle.eon_model.specs.Grid.{Band, units_of, lies_in, span_of}
use Rattle.eon_model.specs.Lists.{has_number}
use Rattle.eon_model.specs.Sets.{NumberSet, has_member}
use Rattle.eon_model.specs.Network.{Network, Group, groups_with, risks_of_fibre}
use Rattle.eon_model.specs.Route.{Route, risk_of, is_route}
use Rattle.eon_model.specs.Services.{Path, Leg, Service, State}
use Rattle.eon_model.specs.Legal.{Setup, path_fits, fits}
use Rattle.eon_model.specs.Candidates.{SizedRoute, Candidate, candidates}
use Rattle.eon_model.specs.NetworkText.{is_setup}
use Rattle.eon_model.proofs.OrderLaws.{AllOf, AllOf-at}
use Rattle.eon_model.proofs.ListLaws.{AllOf-more, all_flat}
use Rattle.eon_model.proofs.Members.{any-member}
use Rattle.eon_model.proofs.BandLaws.{in_span}
use Rattle.eon_model.proofs.RouteLaws.{walks-IsListed}
use Rattle.eon_model.proofs.RowRanges.{walk_differs}
use Rattle.eon_model.proofs.FirstRoutesLaws.{is_route-route_of, all_of}
use Rattle.eon_model.proofs.FirstRoutesFacts.{by_recursion}
use Rattle.eon_model.proofs.SetupFacts.{setup-facts}
use Rattle.eon_model.proofs.SetupLaws.{setup-EndsAreNodes}
use Rattle.eon_model.proofs.SuitLaws.{SuitsBack, Suits, candidates-suit}
use Rattle.eon_model.proofs.ToldLaws.{path_fits-route}
use Rattle.eon_model.proofs.BackupLaws.{fits-parts, backup-path}
use Rattle.eon_model.proofs.RangeLaws.{path-range}
use Rattle.backup_sharing.specs.Shared.{IsThere, reserved}
use Rattle.row_admission.specs.RowFirst.{backup_of, IsRouteThere, IsPairThere}
use Rattle.kept_rows.specs.declared.rows.KeptRows.{KeptRows}
use Rattle.kept_rows.specs.Standing.{StandsFor}

-- ---- the groups of a route

named_below : (n fibre most : ℕ) (gs : List Group) → n + length gs < most + 1 →
    AllOf (λ g. g < most) (groups_with n fibre gs)
named_below n fibre most [] h = tt
named_below n fibre most (g ∷ gs) h =
    by (has_number g.fibres fibre) (named_below (n + 1) fibre most gs (omega arith))
  where
    by : (b : Bool) → AllOf (λ g. g < most) (groups_with (n + 1) fibre gs) →
        AllOf (λ g. g < most) (cond b (n ∷ groups_with (n + 1) fibre gs) (groups_with (n + 1) fibre gs))
    by true more = (omega (arith, h), more)
    by false more = more

risk_below : (net : Network) (r : Route) (g : ℕ) → AllOf (λ i. i < length net.fibres) r.fibres →
    r.risk ≡ risk_of net r.fibres → has_member r.risk g ≡ true →
    g < length net.fibres + length net.groups
risk_below net r g below is h =
    let most = length net.fibres + length net.groups in
    let found = any-member (λ k. k == g) (flat_map (risks_of_fibre net) r.fibres)
    (sym (contains-from_list_nat (flat_map (risks_of_fibre net) r.fibres) g)
    ∙ ap (λ (set : NumberSet). has_member set g) (sym is) ∙ h) in
    let all = all_flat (λ k. k < most) (risks_of_fibre net) (λ i. i < length net.fibres)
    (λ i l. (omega (arith, l), named_below (length net.fibres) i most net.groups (omega arith))) r.fibres below in
    let l = AllOf-at (λ k. k < most) (flat_map (risks_of_fibre net) r.fibres) found.0 all found.1.0 in
    let same = eqb-true found.0 g found.1.1 in
    omega arith

-- ---- over the rows of a state

module _ (setup : Setup) (ok : is_setup setup ≡ true) (state : State) (rows : KeptRows) (stands : StandsFor setup state rows) where
  route-there : (s t : ℕ) (r : Route) → is_route setup.network s t r ≡ true → IsRouteThere rows.sharing r
  route-there s t r h =
      let net = setup.network in
      let route = is_route-route_of net s t r h in
      let listed = walks-IsListed net s t r.fibres (setup-EndsAreNodes setup ok) route.1 in
      record {
        groups = λ g k. subst (λ (n : ℕ). g < n) (sym stands.groups)
            (risk_below net r g (all_of (λ i. i < length net.fibres) r.fibres listed.fibres)
            (ap (λ (q : Route). q.risk) route.0) k);
        fibres = subst (λ (n : ℕ). AllByRecursion (λ f. f < n) r.fibres) (sym stands.sharing_fibres) listed.fibres;
      }

  -- ---- candidates

  module _ (s t rate : ℕ) where
    back-there : (class : Class) (w : SizedRoute) (back : Option SizedRoute) → SuitsBack setup s t rate class w back →
        IfSome back (λ b. IsRouteThere rows.sharing b.route)
    back-there class w None h = tt
    back-there Bare w (Some b) h = absurd h
    back-there Shared w (Some b) h = route-there s t b.route h.0.route
    back-there Dual w (Some b) h = route-there s t b.route h.0.route

    pair-there : (class : Class) (c : Candidate) → Suits setup s t rate class c → IsPairThere rows.sharing c
    pair-there class c h = record {
      work = route-there s t c.work.route h.work.route;
      back = back-there class c.work c.back h.back;
    }

    pub pairs-there : (class : Class) (avoid : Option ℕ) →
        AllByRecursion (IsPairThere rows.sharing) (candidates setup s t rate class avoid)
    pairs-there class avoid =
        by_recursion (IsPairThere rows.sharing) (candidates setup s t rate class avoid)
        (AllOf-more (Suits setup s t rate class) (IsPairThere rows.sharing) (pair-there class)
        (candidates setup s t rate class avoid) (candidates-suit setup s t rate class avoid))

  -- ---- the routes and the backup of a leg

  pub path_route-there : (s : Service) (p : Path) → path_fits setup s p ≡ true → IsRouteThere rows.sharing p.route
  path_route-there s p h = route-there s.src s.dst p.route (path_fits-route setup s p h)

  module _ (s : Service) (l : Leg) (fit : fits setup s l ≡ true) where
    path-there : (p : Path) → path_fits setup s p ≡ true →
        IsThere rows.sharing (reserved l.work.route.risk p.route.fibres (units_of p.slot))
    path-there p h =
        let net = setup.network in
        let work = route-there s.src s.dst l.work.route (path_fits-route setup s l.work (fits-parts setup s l fit).work) in
        let walk = (is_route-route_of net s.src s.dst p.route (path_fits-route setup s p h)).1 in
        record {
          groups = work.groups;
          fibres = (route-there s.src s.dst p.route (path_fits-route setup s p h)).fibres;
          once = walk_differs net.fibres s.src s.dst p.route.fibres walk;
          units = subst (λ (band : Band). lies_in (span_of band) (units_of p.slot) ≡ true) (sym stands.sharing_band)
              (in_span setup.band (setup-facts setup ok).parts (units_of p.slot) (path-range setup s p ok h).band);
        }

    pub leg-there : IfSome (backup_of (Some l)) (IsThere rows.sharing)
    leg-there = by l.back refl
      where
        by : (back : Option Path) → l.back ≡ back →
            IfSome (option_map (λ b. reserved l.work.route.risk b.route.fibres (units_of b.slot)) back)
            (IsThere rows.sharing)
        by None e = tt
        by (Some b) e = path-there b (backup-path setup s l b (fits-parts setup s l fit).back e)
