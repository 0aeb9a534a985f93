-- The least route around closed nodes: what settled distances and a least way say of it.
use Rattle.std.proofs.Common.{◌≡◌, refl, sym, ◌∙◌, ap, subst, inl, inr, ◌⊎◌, ℕ, ◌<◌, ◌≤◌, Bool, true, false, cond, not, List, [], ◌∷◌, get_or, Option, Some, None, arith}
use Rattle.std.specs.Option.{unwrap_or}
use Rattle.std.specs.List.{list_any}
use Rattle.std.specs.declared.cmp.Ordering.TheVariants.{Less, Equal}
use Rattle.std.specs.Ordering.{nat_cmp, ordering_then}
use Rattle.std.specs.Cmp.{nat_cmp_is}
use Rattle.std.specs.Cmp.Lexicographic.{slice_cmp}
use Rattle.std.proofs.lemmas.Bool.{and_parts, and_from, cases_lt, false≢true, not-true, not_from_false, leb-true, le-leb}
use Rattle.eon_model.specs.Lists.{numbers_differ}
use Rattle.eon_model.specs.Network.{Network}
use Rattle.eon_model.specs.NetworkText.{has_fibres}
use Rattle.eon_model.specs.Route.{Route, km_of, route_of, nodes_along, ends_at, visits_once, walks, is_route}
use Rattle.eon_model.specs.Routes.{route_cmp, is_open, is_route_around, least_route, IsLeastRoute}
use Rattle.eon_model.proofs.OrderLaws.{IsIn}
use Rattle.eon_model.proofs.NumberLaws.{route_cmp-numbers}
use Rattle.eon_model.proofs.FirstRoutesFacts.{least-is}
use Rattle.eon_model.proofs.FirstRoutesLaws.{is_route-route_of, route_of-is_route}
use Rattle.eon_model.proofs.RouteLaws.{walks-IsListed}
use Rattle.eon_model.proofs.DeviationClass.{none-at}
use Rattle.eon_model.proofs.DeviationLeave.{ends_in}
use Rattle.eon_model.proofs.DeviationWalks.{first-node, nodes_of_walk}
use Rattle.net_graph.specs.Graph.{is_graph}
use Rattle.net_graph.specs.Walks.{route_from}
use Rattle.net_graph.proofs.GraphParts.{parts_of}
use Rattle.net_graph.proofs.RouteSums.{graph-ends}
use Rattle.net_graph.proofs.StandLaws.{walks-back}
use Rattle.route_list.specs.Distance.{Settled}
use Rattle.route_list.specs.Ways.{IsLeastWay}
use Rattle.route_list.proofs.WayLaws.{not-shorter, not-before, way-km, way-nodes}

pub graph-fibres : (net : Network) → is_graph net ≡ true → has_fibres net ≡ true
graph-fibres net ok = (and_parts _ (has_fibres net) (and_parts _ _ ok).0).1

-- the length first, and then the numbers
pub walk-less : (net : Network) (p q : List ℕ) → km_of net p ≤ km_of net q →
    (km_of net q ≡ km_of net p → slice_cmp nat_cmp p q ≡ Less) →
    ordering_then (nat_cmp (km_of net p) (km_of net q)) (slice_cmp nat_cmp p q) ≡ Less
walk-less net p q most same = elim (cases_lt (km_of net p) (km_of net q)) [
  | inl less ↦ ap (λ o. ordering_then o (slice_cmp nat_cmp p q)) (sym (nat_cmp_is (km_of net p) (km_of net q) Less less))
  | inr more ↦
      let e : km_of net p ≡ km_of net q = omega (arith, most, more) in
      ap (λ o. ordering_then o (slice_cmp nat_cmp p q)) (sym (nat_cmp_is (km_of net p) (km_of net q) Equal e))
      ∙ same (sym e)
]

module _ (net : Network) (ok : is_graph net ≡ true) (s t : ℕ) (banned closed : ℕ → Bool) (max_km : ℕ) where
  abbrev Least : Option Route → Type 0
  Least o = IsLeastRoute net s t banned closed max_km o

  told : (o : Option Route) → Least o → o ≡ least_route net s t banned closed max_km
  told o h = (least-is net s t banned closed max_km (graph-fibres net ok)).1 o h

  -- what a route around the closed nodes is
  record Around (r : Route) : Type 0 where
    is : r ≡ route_of net r.fibres
    goes : walks net.fibres s t r.fibres ≡ true
    nodes : List ℕ
    along : nodes_along net.fibres s r.fibres ≡ Some nodes
    ends : ends_at t nodes ≡ true
    around : list_any closed nodes ≡ false
    free : list_any banned r.fibres ≡ false
    within : km_of net r.fibres ≤ max_km

  ends_of : (p ns : List ℕ) → walks net.fibres s t p ≡ true → nodes_along net.fibres s p ≡ Some ns →
      ends_at t ns ≡ true
  ends_of [] ns w e = absurd (false≢true w)
  ends_of (i ∷ is) ns w e =
      (and_parts (ends_at t ns) (numbers_differ ns) (ap (λ o. visits_once o t) (sym e) ∙ w)).0

  around-parts : (r : Route) → is_route_around net s t banned closed max_km r ≡ true → Around r
  around-parts r h =
      let a = and_parts (is_route net s t r) _ h in
      let b = and_parts (is_open banned max_km r) _ a.1 in
      let c = and_parts (not (list_any banned r.fibres)) _ b.0 in
      let w = is_route-route_of net s t r a.0 in
      let n = nodes_of_walk net.fibres s t r.fibres w.1 in
      record {
        is = w.0;
        goes = w.1;
        nodes = n.0;
        along = n.1;
        ends = ends_of r.fibres n.0 w.1 n.1;
        around = ap (λ o. list_any closed (unwrap_or o [])) (sym n.1) ∙ not-true _ b.1;
        free = not-true _ c.0;
        within = let e = ap (λ (q : Route). q.km) w.0 in let m = leb-true r.km max_km c.1 in omega (arith, e, m);
      }

  pub closed-source : closed s ≡ true → None ≡ least_route net s t banned closed max_km
  closed-source c = told None (λ r h.
      let a = around-parts r h in
      let f = first-node net.fibres s r.fibres a.nodes a.along in
      false≢true (sym (none-at closed a.nodes s a.around
      (subst (λ (ns : List ℕ). IsIn s ns) (sym f.1) (inl refl))) ∙ c))

  pub closed-target : closed t ≡ true → None ≡ least_route net s t banned closed max_km
  closed-target c = told None (λ r h.
      let a = around-parts r h in
      false≢true (sym (none-at closed a.nodes t a.around (ends_in t a.nodes a.ends)) ∙ c))

  module _ (away : List ℕ) (h : Settled net banned closed t max_km away) where
    pub too-far : max_km < get_or away s 0 → None ≡ least_route net s t banned closed max_km
    too-far l = told None (λ r k.
        let a = around-parts r k in
        let m = not-shorter net ok banned closed t max_km away h s r.fibres a.nodes a.along a.ends a.around a.free in
        let w = a.within in
        absurd (omega (arith, l, m, w)))

    way-walks : (i : ℕ) (is : List ℕ) → closed s ≡ false →
        IsLeastWay net banned closed away t s (i ∷ is) → walks net.fibres s t (i ∷ is) ≡ true
    way-walks i is free w =
        let n = way-nodes net ok banned closed t max_km away h s (i ∷ is) w free in
        ap (λ o. visits_once o t) n.along ∙ and_from _ _ n.ends n.differ

    least_found : (i : ℕ) (is : List ℕ) → closed s ≡ false → get_or away s 0 ≤ max_km →
        IsLeastWay net banned closed away t s (i ∷ is) → Least (Some (route_of net (i ∷ is)))
    least_found i is free most w =
        let p = i ∷ is in
        let n = way-nodes net ok banned closed t max_km away h s p w free in
        let km = way-km net ok banned closed t max_km away h s p w in
        let goes = way-walks i is free w in
        let known = walks-IsListed net s t p (graph-ends net ok) goes in (
          and_from _ _ (route_of-is_route net s t p goes)
              (and_from _ _ (and_from _ _ (not_from_false _ n.open_fibres)
              (le-leb (km_of net p) max_km (omega (arith, km, most))))
              (not_from_false _ (ap (λ o. list_any closed (unwrap_or o [])) n.along ∙ n.open_nodes))),
          λ r k.
              let a = around-parts r k in
              let m = not-shorter net ok banned closed t max_km away h s r.fibres a.nodes a.along a.ends a.around
              a.free in
              elim (not_same p r.fibres
              (λ e. not-before net ok banned closed t max_km away h s p r.fibres a.nodes w a.along a.ends a.around
              a.free (e ∙ km)) (omega (arith, km, m))) [
                | inl same ↦ inl (a.is ∙ ap (route_of net) same)
                | inr less ↦ inr (ap (route_cmp net (route_of net p)) a.is
                    ∙ route_cmp-numbers net (route_of net p) (route_of net r.fibres) (parts_of net ok).fibres_rise
                    known.fibres (walks-IsListed net s t r.fibres (graph-ends net ok) a.goes).fibres ∙ less)
              ],
        )
      where
        not_same : (p q : List ℕ) → (km_of net q ≡ km_of net p → (q ≡ p) ⊎ (slice_cmp nat_cmp p q ≡ Less)) →
            km_of net p ≤ km_of net q →
            (q ≡ p) ⊎ (ordering_then (nat_cmp (km_of net p) (km_of net q)) (slice_cmp nat_cmp p q) ≡ Less)
        not_same p q by most = elim (cases_lt (km_of net p) (km_of net q)) [
          | inl less ↦ inr (walk-less net p q most (λ e. absurd (omega (arith, less, e))))
          | inr more ↦
              let e : km_of net q ≡ km_of net p = omega (arith, most, more) in
              elim (by e) [ inl same ↦ inl same | inr less ↦ inr (walk-less net p q most (λ k. less)) ]
        ]

    -- the route that is made of the least way
    pub least-made : (p : List ℕ) → closed s ≡ false → get_or away s 0 ≤ max_km →
        IsLeastWay net banned closed away t s p →
        route_from net s t p ≡ least_route net s t banned closed max_km
    least-made [] free most w = told None (λ r k.
        let a = around-parts r k in
        walks-back net.fibres s r.fibres (ap (λ n. walks net.fibres s n r.fibres) w ∙ a.goes))
    least-made (i ∷ is) free most w =
        ap (λ b. cond b (Some (route_of net (i ∷ is))) None) (way-walks i is free w)
        ∙ told (Some (route_of net (i ∷ is))) (least_found i is free most w)
