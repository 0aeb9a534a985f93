-- Least ways: from settled distances one goes on to the target, and no walk is shorter or comes before it.
use Rattle.std.proofs.Common.{◌≡◌, refl, sym, ◌∙◌, ap, inl, inr, ◌⊎◌, ℕ, zero, suc, ◌+◌, ◌<◌, ◌≤◌, nat_le, nat_lt, nat_eq, Bool, true, false, ◌&&◌, not, List, [], ◌∷◌, length, get_or, slice_get, Option, Some, None, arith}
use Rattle.std.specs.Option.{option_map, option_map_or, option_and_then}
use Rattle.std.specs.List.{list_all, list_any}
use Rattle.std.specs.declared.cmp.Ordering.TheVariants.{Less}
use Rattle.std.specs.Ordering.{nat_cmp, ordering_then}
use Rattle.std.specs.Cmp.{nat_cmp_total, nat_cmp_is, tied_itself}
use Rattle.std.specs.Cmp.Lexicographic.{slice_cmp}
use Rattle.std.proofs.lemmas.Bool.{and_parts, and_from, cases_lt, ltb-true, lt-ltb, false≢true, eq-eqb, eqb-true, ne_eqb, leb-true, not-true, or_parts, or_from}
use Rattle.eon_model.specs.Lists.{numbers_differ}
use Rattle.eon_model.specs.Names.{Name}
use Rattle.eon_model.specs.Network.{Network, Fibre, fibre_at}
use Rattle.eon_model.specs.NetworkText.{is_fibre_among}
use Rattle.eon_model.specs.Route.{km_of, far_end, nodes_along, ends_at}
use Rattle.eon_model.proofs.ListLaws.{slice_get_in}
use Rattle.eon_model.proofs.DeviationOrder.{km-append}
use Rattle.eon_model.proofs.DeviationFibres.{step-of}
use Rattle.eon_model.proofs.DeviationWalks.{first-node}
use Rattle.net_graph.specs.Graph.{is_graph}
use Rattle.net_graph.specs.Walks.{node_after}
use Rattle.net_graph.proofs.GraphParts.{parts_of}
use Rattle.net_graph.proofs.RouteSums.{graph-ends, node_after-nodes}
use Rattle.route_list.specs.Distance.{is_free, km_at, Leads, Settled}
use Rattle.route_list.specs.Ways.{keeps_to, IsFirstKeeping, IsLeastWay}
use Rattle.route_list.proofs.DistanceLaws.{ends-of}

-- ---- fibres

some_km : (nodes : List Name) (fs : List Fibre) (i : ℕ) → list_all (is_fibre_among nodes) fs ≡ true →
    i < length fs → 1 ≤ (fibre_at fs i).km
some_km nodes [] i h l = absurd (omega (arith, l))
some_km nodes (f ∷ fs) zero h l =
    let p5 = and_parts (is_fibre_among nodes f) (list_all (is_fibre_among nodes) fs) h in
    let p4 = and_parts _ _ p5.0 in
    leb-true 1 f.km (and_parts (nat_le 1 f.km) (nat_le f.km 100000) p4.1).0
some_km nodes (f ∷ fs) (suc i) h l =
    some_km nodes fs i (and_parts (is_fibre_among nodes f) (list_all (is_fibre_among nodes) fs) h).1 (omega (arith, l))

pub km-some : (net : Network) (i : ℕ) → is_graph net ≡ true → i < length net.fibres → 1 ≤ km_at net i
km-some net i h l = some_km net.nodes net.fibres i (parts_of net h).fibres_good l

pub leads-known : (fibres : List Fibre) (node i next : ℕ) → node_after fibres node i ≡ Some next → i < length fibres
leads-known fibres node i next e = by (slice_get fibres i) refl e
  where
    by : (o : Option Fibre) → slice_get fibres i ≡ o → option_and_then (far_end node) o ≡ Some next →
        i < length fibres
    by None at h = cc
    by (Some f) at h = (slice_get_in fibres i f at).0

module _ (net : Network) (ok : is_graph net ≡ true) (banned closed : ℕ → Bool) (t max_km : ℕ) (away : List ℕ)
    (h : Settled net banned closed t max_km away) where
  abbrev far : ℕ → ℕ
  far n = get_or away n 0

  abbrev To : ℕ → ℕ → ℕ → Type 0
  To node i next = Leads net banned closed node i next

  abbrev Way : ℕ → List ℕ → Type 0
  Way node p = IsLeastWay net banned closed away t node p

  pub record Keeps (node i : ℕ) : Type 0 where
    pub next : ℕ
    pub leads : To node i next
    pub nearer : far next + km_at net i ≡ far node

  pub keeps-parts : (node i : ℕ) → keeps_to net banned closed away node i ≡ true → Keeps node i
  keeps-parts node i k =
      let p = and_parts (is_free net banned closed i) _ k in by (node_after net.fibres node i) refl p.0 p.1
    where
      by : (o : Option ℕ) → node_after net.fibres node i ≡ o → is_free net banned closed i ≡ true →
          option_map_or (λ next. nat_eq (far next + km_at net i) (far node)) o false ≡ true → Keeps node i
      by None e f k = absurd (false≢true k)
      by (Some next) e f k = record { next = next; leads = record { free = f; to = e }; nearer = eqb-true _ _ k }

  pub keeps-from : (node i next : ℕ) → To node i next → far next + km_at net i ≡ far node →
      keeps_to net banned closed away node i ≡ true
  keeps-from node i next to e =
      and_from _ _ to.free (ap (λ o. option_map_or (λ n. nat_eq (far n + km_at net i) (far node)) o false) to.to
      ∙ eq-eqb _ _ e)

  -- from a node within the limit a way goes on
  pub goes-on : (node : ℕ) → node < 64 → (node ≡ t → ⊥) → far node ≤ max_km →
      (i : ℕ) × (i < length net.fibres) × (keeps_to net banned closed away node i ≡ true)
  goes-on node small ne most =
      let g = h.reached.on node small ne most in
      let known = leads-known net.fibres node g.fibre g.next g.leads.to in
      let apart = h.apart g.fibre known node g.next g.leads in
      (g.fibre, known, keeps-from node g.fibre g.next g.leads (omega (arith, apart, g.nearer)))

  pub not-none : (node : ℕ) → node < 64 → (node ≡ t → ⊥) → far node ≤ max_km →
      IsFirstKeeping net banned closed away node None → ⊥
  not-none node small ne most none =
      let g = goes-on node small ne most in false≢true (sym (none g.0 g.1) ∙ g.2)

  -- one fibre of the way
  pub way-step : (node i next : ℕ) → IsFirstKeeping net banned closed away node (Some i) →
      node_after net.fibres node i ≡ Some next →
      (next < length net.nodes) × (far next < far node) × (far next + km_at net i ≡ far node)
      × To node i next
  way-step node i next first to =
      let k = keeps-parts node i first.1 in
      let other : Some k.next ≡ Some next = sym k.leads.to ∙ to in
      let same : k.next ≡ next = cc in
      let d = ap far same in
      let some = km-some net i ok first.0 in (
        (node_after-nodes net (graph-ends net ok) node i next to).1,
        omega (arith, k.nearer, d, some),
        omega (arith, k.nearer, d),
        record { free = k.leads.free; to = to },
      )

  -- ---- no walk is shorter

  km_first : (i : ℕ) (is : List ℕ) → km_of net (i ∷ is) ≡ km_at net i + km_of net is
  km_first i is = let s = km-append net (i ∷ []) is in omega (arith, s)

  -- what a walk says of its first fibre
  pub record First (node i : ℕ) (is ns : List ℕ) : Type 0 where
    pub next : ℕ
    pub leads : To node i next
    pub rest : List ℕ
    pub along : nodes_along net.fibres next is ≡ Some rest
    pub ends : ends_at t rest ≡ true
    pub open_nodes : list_any closed rest ≡ false
    pub open_fibres : list_any banned is ≡ false

  first_of : (node i : ℕ) (is ns : List ℕ) → nodes_along net.fibres node (i ∷ is) ≡ Some ns →
      ends_at t ns ≡ true → list_any closed ns ≡ false → list_any banned (i ∷ is) ≡ false → First node i is ns
  first_of node i is ns e ends around free =
      let s = step-of net.fibres node i is ns e in
      let head = first-node net.fibres s.next is s.rest s.along in
      let c = or_parts (closed node) (list_any closed s.rest) (sym (ap (list_any closed) s.nodes) ∙ around) in
      let d = or_parts (closed s.next) (list_any closed head.0) (sym (ap (list_any closed) head.1) ∙ c.1) in
      let b = or_parts (banned i) (list_any banned is) free in
      let to : node_after net.fibres node i ≡ Some s.next = ap (option_and_then (far_end node)) s.known ∙ s.far in
      let known = leads-known net.fibres node i s.next to in
      record {
        next = s.next;
        leads = record { free = free_by node i s.next known b.0 c.0 d.0 to; to = to };
        rest = s.rest;
        along = s.along;
        ends = ends_later node s.rest head.0 s.next head.1 (sym (ap (ends_at t) s.nodes) ∙ ends);
        open_nodes = c.1;
        open_fibres = b.1;
      }
    where
      ends_later : (node : ℕ) (rest tail : List ℕ) (next : ℕ) → rest ≡ next ∷ tail →
          ends_at t (node ∷ rest) ≡ true → ends_at t rest ≡ true
      ends_later node rest tail next e h =
          ap (ends_at t) e ∙ sym (ap (λ v. ends_at t (node ∷ v)) e) ∙ h

      free_by : (node i next : ℕ) → i < length net.fibres → banned i ≡ false → closed node ≡ false →
          closed next ≡ false → node_after net.fibres node i ≡ Some next → is_free net banned closed i ≡ true
      free_by node i next known b c d to =
          let f = fibre_at net.fibres i in
          elim (ends-of net.fibres node i next known to) [
            | inl x ↦ and_from _ _ (and_from _ _ (ap not b) (ap not (ap closed x.0 ∙ c))) (ap not (ap closed x.1 ∙ d))
            | inr x ↦ and_from _ _ (and_from _ _ (ap not b) (ap not (ap closed x.1 ∙ d))) (ap not (ap closed x.0 ∙ c))
          ]

  pub not-shorter : (node : ℕ) (q ns : List ℕ) → nodes_along net.fibres node q ≡ Some ns → ends_at t ns ≡ true →
      list_any closed ns ≡ false → list_any banned q ≡ false → far node ≤ km_of net q
  not-shorter node [] ns e ends around free =
      let same : (node ∷ []) ≡ ns = cc in
      let there = eqb-true node t (ap (ends_at t) same ∙ ends) in
      let d = ap far there in
      omega (arith, d, h.reached.target)
  not-shorter node (i ∷ is) ns e ends around free =
      let f = first_of node i is ns e ends around free in
      let known = leads-known net.fibres node i f.next f.leads.to in
      let apart = h.apart i known node f.next f.leads in
      let more = not-shorter f.next is f.rest f.along f.ends f.open_nodes f.open_fibres in
      omega (arith, apart, more, km_first i is)

  -- ---- nor comes one of the same length before it

  pub way-km : (node : ℕ) (p : List ℕ) → Way node p → km_of net p ≡ far node
  way-km node [] w = let d = ap far w in omega (arith, d, h.reached.target)
  way-km node (i ∷ is) w =
      let k = keeps-parts node i w.1.1 in
      let more = way-km k.next is (w.2 k.next k.leads.to) in
      omega (arith, more, k.nearer, km_first i is)

  same_first : (i : ℕ) (xs ys : List ℕ) → slice_cmp nat_cmp (i ∷ xs) (i ∷ ys) ≡ slice_cmp nat_cmp xs ys
  same_first i xs ys = ap (λ o. ordering_then o (slice_cmp nat_cmp xs ys)) (tied_itself nat_cmp_total i)

  less_first : (i j : ℕ) (xs ys : List ℕ) → i < j → slice_cmp nat_cmp (i ∷ xs) (j ∷ ys) ≡ Less
  less_first i j xs ys l = ap (λ o. ordering_then o (slice_cmp nat_cmp xs ys)) (sym (nat_cmp_is i j Less l))

  pub not-before : (node : ℕ) (p q ns : List ℕ) → Way node p → nodes_along net.fibres node q ≡ Some ns →
      ends_at t ns ≡ true → list_any closed ns ≡ false → list_any banned q ≡ false → km_of net q ≡ far node →
      (q ≡ p) ⊎ (slice_cmp nat_cmp p q ≡ Less)
  not-before node [] [] ns w e ends around free long = inl refl
  not-before node [] (j ∷ js) ns w e ends around free long =
      let f = first_of node j js ns e ends around free in
      let some = km-some net j ok (leads-known net.fibres node j f.next f.leads.to) in
      let d = ap far w in
      absurd (omega (arith, km_first j js, some, long, d, h.reached.target))
  not-before node (i ∷ is) [] ns w e ends around free long =
      let same : (node ∷ []) ≡ ns = cc in
      absurd (w.0 (eqb-true node t (ap (ends_at t) same ∙ ends)))
  not-before node (i ∷ is) (j ∷ js) ns w e ends around free long =
      let f = first_of node j js ns e ends around free in
      let known = leads-known net.fibres node j f.next f.leads.to in
      let apart = h.apart j known node f.next f.leads in
      let more = not-shorter f.next js f.rest f.along f.ends f.open_nodes f.open_fibres in
      let keeps = keeps-from node j f.next f.leads (omega (arith, apart, more, long, km_first j js)) in
      elim (cases_lt j i) [
        | inl before ↦ absurd (false≢true (sym (w.1.2 j before) ∙ keeps))
        | inr later ↦ elim (cases_lt i j) [
          | inl less ↦ inr (less_first i j is js less)
          | inr no_less ↦
              let same : i ≡ j = omega (arith, later, no_less) in
              let go = w.2 f.next (ap (node_after net.fibres node) same ∙ f.leads.to) in
              elim (not-before f.next is js f.rest go f.along f.ends f.open_nodes f.open_fibres
              (omega (arith, apart, more, long, km_first j js))) [
                | inl equal ↦ inl (λ k. sym same k ∷ equal k)
                | inr less ↦ inr (ap (λ n. slice_cmp nat_cmp (i ∷ is) (n ∷ js)) (sym same)
                    ∙ same_first i is js ∙ less)
              ]
        ]
      ]

  -- ---- and it is a walk

  -- what is known of the nodes of the way
  pub record Nodes (node : ℕ) (p : List ℕ) : Type 0 where
    pub rest : List ℕ
    pub along : nodes_along net.fibres node p ≡ Some (node ∷ rest)
    pub ends : ends_at t (node ∷ rest) ≡ true
    pub nearer : list_all (λ n. nat_lt (far n) (far node)) rest ≡ true
    pub differ : numbers_differ (node ∷ rest) ≡ true
    pub open_nodes : list_any closed (node ∷ rest) ≡ false
    pub open_fibres : list_any banned p ≡ false

  all_nearer : (a b : ℕ) (ns : List ℕ) → a < b → list_all (λ n. nat_lt (far n) a) ns ≡ true →
      list_all (λ n. nat_lt (far n) b) ns ≡ true
  all_nearer a b [] l k = refl
  all_nearer a b (n ∷ ns) l k =
      let p = and_parts (nat_lt (far n) a) _ k in
      let less = ltb-true (far n) a p.0 in
      and_from _ _ (lt-ltb (far n) b (omega (arith, less, l))) (all_nearer a b ns l p.1)

  none_same : (node : ℕ) (ns : List ℕ) → list_all (λ n. nat_lt (far n) (far node)) ns ≡ true →
      list_all (λ n. not (nat_eq node n)) ns ≡ true
  none_same node [] k = refl
  none_same node (n ∷ ns) k =
      let p = and_parts (nat_lt (far n) (far node)) _ k in
      let less = ltb-true (far n) (far node) p.0 in
      and_from _ _ (ap not (ne_eqb node n (λ e. let d = ap far e in omega (arith, less, d)))) (none_same node ns p.1)

  next_open : (node i next : ℕ) → To node i next → i < length net.fibres → (closed next ≡ false) × (banned i ≡ false)
  next_open node i next to known =
      let a = and_parts (not (banned i) && not (closed (fibre_at net.fibres i).a)) _ to.free in
      let b = and_parts (not (banned i)) _ a.0 in
      elim (ends-of net.fibres node i next known to.to) [
        | inl x ↦ (ap closed (sym x.1) ∙ not-true _ a.1, not-true _ b.0)
        | inr x ↦ (ap closed (sym x.1) ∙ not-true _ b.1, not-true _ b.0)
      ]

  pub way-nodes : (node : ℕ) (p : List ℕ) → Way node p → closed node ≡ false → Nodes node p
  way-nodes node [] w free = record {
    rest = [];
    along = refl;
    ends = eq-eqb node t w;
    nearer = refl;
    differ = refl;
    open_nodes = or_from (closed node) false free refl;
    open_fibres = refl;
  }
  way-nodes node (i ∷ is) w free =
      let k = keeps-parts node i w.1.1 in
      let o = next_open node i k.next k.leads w.1.0 in
      let n = way-nodes k.next is (w.2 k.next k.leads.to) o.0 in
      let some = km-some net i ok w.1.0 in
      let less : far k.next < far node = omega (arith, k.nearer, some) in
      let all = and_from _ _ (lt-ltb (far k.next) (far node) less)
      (all_nearer (far k.next) (far node) n.rest less n.nearer) in
      record {
        rest = k.next ∷ n.rest;
        along = ap (option_and_then (λ next. option_map (λ nodes. node ∷ nodes) (nodes_along net.fibres next is)))
            k.leads.to ∙ ap (option_map (λ nodes. node ∷ nodes)) n.along;
        ends = n.ends;
        nearer = all;
        differ = and_from _ _ (none_same node (k.next ∷ n.rest) all) n.differ;
        open_nodes = or_from (closed node) _ free n.open_nodes;
        open_fibres = or_from (banned i) _ o.1 n.open_fibres;
      }
