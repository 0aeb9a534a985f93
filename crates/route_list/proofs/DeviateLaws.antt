-- One run from the end of a front: what it needs, and that it gives the deviation there.
use Rattle.std.proofs.Common.{◌≡◌, refl, sym, ◌∙◌, ap, subst, ℕ, zero, suc, ◌+◌, ◌-◌, ◌<◌, ◌≤◌, Bool, true, cond, ◌||◌, List, [], ◌∷◌, ◌++◌, length, map, take, get_or, Option, Some, None, arith}
use Rattle.std.specs.Option.{option_map, option_to_list}
use Rattle.std.specs.List.{list_all, filter_map, AllByRecursion}
use Rattle.std.specs.Cmp.{nat_eq_equiv}
use Rattle.std.proofs.lemmas.Bool.{and_parts, and_from}
use Rattle.std.proofs.lemmas.List.{take_all, take_more, take-append-le}
use Rattle.std.proofs.lemmas.List.Elements.{filter_map-append}
use Rattle.eon_model.specs.Lists.{has_number}
use Rattle.eon_model.specs.Network.{Network}
use Rattle.eon_model.specs.Route.{Route, route_of, km_of, walks, is_route}
use Rattle.eon_model.specs.Routes.{is_open, is_open_route, least_route}
use Rattle.eon_model.specs.Sets.{NumberSet, has_member}
use Rattle.eon_model.specs.Deviations.{leads_to, passed, goes_on, is_front, is_front_of, fronts_of, deviation, deviations_at}
use Rattle.eon_model.specs.DeviationLaws.{MayRun, IsLeastLeaving}
use Rattle.eon_model.proofs.DeviationClass.{deviations-least}
use Rattle.eon_model.proofs.DeviationSearch.{length_fronts}
use Rattle.eon_model.proofs.ListTests.{cons-option}
use Rattle.eon_model.proofs.DeviationFronts.{fronts-may-run}
use Rattle.eon_model.proofs.FirstRoutesLaws.{is_route-route_of}
use Rattle.eon_model.proofs.RouteLaws.{walks-IsListed}
use Rattle.net_graph.specs.Graph.{is_graph}
use Rattle.net_graph.specs.Walks.{route_from}
use Rattle.net_graph.proofs.GraphParts.{parts_of}
use Rattle.net_graph.proofs.RouteSums.{graph-ends}
use Rattle.route_list.specs.declared.deviation.Front.{Front}
use Rattle.route_list.specs.Fronts.{StandsAt, AreNumbers, at_front}
use Rattle.route_list.proofs.LeastLaws.{graph-fibres}

below : (n : ℕ) (is : List ℕ) → n ≤ 128 → AllByRecursion (λ i. i < n) is → AllByRecursion (λ i. i < 128) is
below n [] l a = tt
below n (i ∷ is) l a = let h = a.0 in (omega (arith, l, h), below n is l a.1)

take_front : (front rest : List ℕ) → take (length front) (front ++ rest) ≡ front
take_front front rest =
    take-append-le (length front) front rest (omega arith) ∙ take_all (length front) front (omega arith)

module _ (net : Network) (ok : is_graph net ≡ true) (s t : ℕ) (banned : ℕ → Bool) (max_km : ℕ) where
  pub open-walks : (r : Route) → is_open_route net s t banned max_km r ≡ true →
      (r ≡ route_of net r.fibres) × (walks net.fibres s t r.fibres ≡ true)
  open-walks r h =
      is_route-route_of net s t r (and_parts (is_route net s t r) (is_open banned max_km r) h).0

  pub open-numbers : (found : List Route) → list_all (is_open_route net s t banned max_km) found ≡ true →
      AreNumbers found
  open-numbers [] h = tt
  open-numbers (r ∷ rs) h =
      let p = and_parts (is_open_route net s t banned max_km r) _ h in (
        below (length net.fibres) r.fibres (parts_of net ok).fibres_few
            (walks-IsListed net s t r.fibres (graph-ends net ok) (open-walks r p.0).1).fibres,
        open-numbers rs p.1,
      )

  module _ (found : List Route) (opened : list_all (is_open_route net s t banned max_km) found ≡ true)
      (front : List ℕ) (shares : is_front_of found front ≡ true) where
    pub may-run : s < length net.nodes → MayRun net s t max_km front
    may-run here = fronts-may-run net s t banned max_km found front (graph-fibres net ok) here opened shares

    dev_walks : (o : Option Route) (r : Route) → deviation net s t banned max_km found front ≡ o → o ≡ Some r →
        walks net.fibres s t r.fibres ≡ true
    dev_walks o r e h =
        let l = deviations-least net s t banned max_km found front (graph-fibres net ok) opened shares in
        let k = subst (IsLeastLeaving net s t banned max_km found front) (e ∙ h) l in (open-walks r k.0).1

    module _ (f : Front) (h : StandsAt net s max_km front f) (used : NumberSet)
        (u : (i : ℕ) → has_member used i ≡ (banned i || goes_on found front i)) where
      run : least_route net f.node t (has_member used) (has_member f.passed) f.left
          ≡ least_route net (leads_to net.fibres s front) t (λ i. banned i || goes_on found front i)
          (has_number (passed net.fibres s front)) (max_km - km_of net front)
      run = λ k. least_route net (h.node k) t (λ i. u i k) (λ n. h.passed n k) (h.left k)

      run_gives : (o : Option Route) → o ≡ least_route net f.node t (has_member used) (has_member f.passed) f.left →
          option_map (λ rest. route_of net (front ++ rest.fibres)) o ≡ deviation net s t banned max_km found front
      run_gives o e = ap (option_map (λ (rest : Route). route_of net (front ++ rest.fibres))) (e ∙ run)

      pub no-deviation : None ≡ least_route net f.node t (has_member used) (has_member f.passed) f.left →
          None ≡ option_map (at_front front) (deviation net s t banned max_km found front)
      no-deviation e = ap (option_map (at_front front)) (run_gives None e)

      some_walks : (rest : Route) → Some rest ≡ least_route net f.node t (has_member used) (has_member f.passed) f.left →
          walks net.fibres s t (front ++ rest.fibres) ≡ true
      some_walks rest e =
          dev_walks (Some (route_of net (front ++ rest.fibres))) (route_of net (front ++ rest.fibres))
          (sym (run_gives (Some rest) e)) refl

      made : (rest : Route) → Some rest ≡ least_route net f.node t (has_member used) (has_member f.passed) f.left →
          (p : List ℕ) → p ≡ front ++ rest.fibres → route_from net s t p ≡ Some (route_of net (front ++ rest.fibres))
      made rest e p is =
          ap (route_from net s t) is
          ∙ ap (λ b. cond b (Some (route_of net (front ++ rest.fibres))) None) (some_walks rest e)

      pub is-made : (rest : Route) → Some rest ≡ least_route net f.node t (has_member used) (has_member f.passed) f.left →
          (p : List ℕ) → p ≡ front ++ rest.fibres → None ≡ route_from net s t p → ⊥
      is-made rest e p is none = let both = none ∙ made rest e p is in cc

      pub is-deviation : (rest : Route) →
          Some rest ≡ least_route net f.node t (has_member used) (has_member f.passed) f.left →
          (p : List ℕ) → p ≡ front ++ rest.fibres → (r : Route) → Some r ≡ route_from net s t p →
          (n : ℕ) → n ≡ length front →
          Some (at_front (take n r.fibres) r)
          ≡ option_map (at_front front) (deviation net s t banned max_km found front)
      is-deviation rest e p is r some n long =
          let both : Some r ≡ Some (route_of net (front ++ rest.fibres)) = some ∙ made rest e p is in
          let same : r ≡ route_of net (front ++ rest.fibres) = cc in
          ap (λ q. Some (at_front (take n q.fibres) q)) same
          ∙ ap (λ fs. Some (at_front fs (route_of net (front ++ rest.fibres))))
          (ap (λ k. take k (front ++ rest.fibres)) long ∙ take_front front rest.fibres)
          ∙ ap (option_map (at_front front)) (run_gives (Some rest) e)

-- ---- front by front

map_at : {X Y : Type 0} (f : X → Y) (xs : List X) (i : ℕ) (d : Y) (e : X) → i < length xs →
    get_or (map f xs) i d ≡ f (get_or xs i e)
map_at f [] i d e l = absurd (omega (arith, l))
map_at f (x ∷ xs) zero d e l = refl
map_at f (x ∷ xs) (suc i) d e l = map_at f xs i d e (omega (arith, l))

front_at : (fibres : List ℕ) (i : ℕ) (d : List ℕ) → i < length fibres → get_or (fronts_of fibres) i d ≡ take i fibres
front_at [] i d l = absurd (omega (arith, l))
front_at (x ∷ xs) zero d l = refl
front_at (x ∷ xs) (suc i) d l =
    map_at (λ front. x ∷ front) (fronts_of xs) i d [] (omega (arith, l, length_fronts xs))
    ∙ ap (λ front. x ∷ front) (front_at xs i [] (omega (arith, l)))

pub front-taken : (fibres : List ℕ) (i : ℕ) → i < length fibres → is_front (take i fibres) fibres ≡ true
front-taken [] i l = absurd (omega (arith, l))
front-taken (x ∷ xs) zero l = refl
front-taken (x ∷ xs) (suc i) l = and_from _ _ (nat_eq_equiv.refl x) (front-taken xs i (omega (arith, l)))

-- one front more
pub devs-more : (net : Network) (s t : ℕ) (banned : ℕ → Bool) (max_km : ℕ) (found : List Route) (fibres : List ℕ)
    (i : ℕ) → i < length fibres →
    deviations_at net s t banned max_km found (take i (fronts_of fibres))
    ++ option_to_list (option_map (at_front (take i fibres)) (deviation net s t banned max_km found (take i fibres)))
    ≡ deviations_at net s t banned max_km found (take (i + 1) (fronts_of fibres))
devs-more net s t banned max_km found fibres i l =
    let run = λ (front : List ℕ). option_map (at_front front) (deviation net s t banned max_km found front) in
    let fronts = fronts_of fibres in
    sym (ap (filter_map run) (take_more fronts i [] (omega (arith, l, length_fronts fibres))
    ∙ ap (λ f. take i fronts ++ f ∷ []) (front_at fibres i [] l))
    ∙ filter_map-append run (take i fronts) (take i fibres ∷ [])
    ∙ ap (λ ds. filter_map run (take i fronts) ++ ds) (cons-option (run (take i fibres))))
