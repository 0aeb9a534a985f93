-- How many rounds over all fibres it takes until no distance gets shorter: no more than there are nodes.
use Rattle.std.proofs.Common.{◌≡◌, refl, sym, ◌∙◌, ap, subst, inl, inr, ℕ, zero, suc, ◌+◌, ◌<◌, ◌≤◌, nat_lt, Bool, true, false, cond, List, [], ◌∷◌, length, take, get_or, set, arith, get_or-set_other, get_or-set_same}
use Rattle.std.proofs.lemmas.List.{get_or-take, length-take-le}
use Rattle.std.proofs.lemmas.Bool.{cases_lt, ltb-true, ltb-false, lt-ltb, cases_eq, false≢true}
use Rattle.eon_model.specs.Network.{Network, Fibre, fibre_at}
use Rattle.net_graph.specs.Graph.{is_graph}
use Rattle.net_graph.proofs.GraphParts.{parts_of}
use Rattle.net_graph.proofs.RouteSums.{graph-ends, node_after-nodes}
use Rattle.route_list.specs.Distance.{is_free, km_at, shortened, Leads, Reached, Settled, Lowers}
use Rattle.route_list.proofs.DistanceLaws.{leads-ends}
use Rattle.route_list.proofs.WayLaws.{km-some, leads-known}

-- ---- how many are less than a number

abbrev ranked : ℕ → List ℕ → ℕ
ranked x [] = 0
ranked x (y ∷ ys) = cond (nat_lt y x) 1 0 + ranked x ys

one_if : (y x z : ℕ) → x ≤ z → cond {A = ℕ} (nat_lt y x) 1 0 ≤ cond {A = ℕ} (nat_lt y z) 1 0
one_if y x z l = by (nat_lt y x) (nat_lt y z) refl refl
  where
    by : (b c : Bool) → nat_lt y x ≡ b → nat_lt y z ≡ c → cond {A = ℕ} b 1 0 ≤ cond {A = ℕ} c 1 0
    by false c e f = omega arith
    by true true e f = omega arith
    by true false e f = let a = ltb-true y x e in let b = ltb-false y z f in absurd (omega (arith, a, b, l))

rank-more : (x z : ℕ) (ys : List ℕ) → x ≤ z → ranked x ys ≤ ranked z ys
rank-more x z [] l = omega arith
rank-more x z (y ∷ ys) l = let a = one_if y x z l in let b = rank-more x z ys l in omega (arith, a, b)

-- one of them that is less than the number ranks less
rank-less : (x : ℕ) (ys : List ℕ) (i : ℕ) → i < length ys → get_or ys i 0 < x → ranked (get_or ys i 0) ys + 1 ≤ ranked x ys
rank-less x [] i l h = absurd (omega (arith, l))
rank-less x (y ∷ ys) zero l h =
    let a = rank-more y x ys (omega (arith, h)) in
    let out = ap {B = ℕ} (λ b. cond b 1 0) (not_less y) in
    let «in» = ap {B = ℕ} (λ b. cond b 1 0) (lt-ltb y x h) in
    omega (arith, a, out, «in»)
  where
    not_less : (y : ℕ) → nat_lt y y ≡ false
    not_less y = by (nat_lt y y) refl
      where
        by : (b : Bool) → nat_lt y y ≡ b → b ≡ false
        by false e = refl
        by true e = let a = ltb-true y y e in absurd (omega (arith, a))
rank-less x (y ∷ ys) (suc i) l h =
    let a = one_if y (get_or ys i 0) x (omega (arith, h)) in
    let b = rank-less x ys i (omega (arith, l)) h in
    omega (arith, a, b)

rank-few : (x : ℕ) (ys : List ℕ) → ranked x ys ≤ length ys
rank-few x [] = omega arith
rank-few x (y ∷ ys) = by (nat_lt y x) (rank-few x ys)
  where
    by : (b : Bool) → ranked x ys ≤ length ys → cond {A = ℕ} b 1 0 + ranked x ys ≤ suc (length ys)
    by true l = omega (arith, l)
    by false l = omega (arith, l)

-- ---- what one fibre, and then all of them, do to the distances

module _ (net : Network) (banned closed : ℕ → Bool) where
  abbrev To : ℕ → ℕ → ℕ → Type 0
  To node i next = Leads net banned closed node i next

  abbrev Lower : (ℕ → Type 0) → List ℕ → List ℕ → Type 0
  Lower Done old fresh = Lowers net banned closed Done old fresh

  shorten_lower : (old : List ℕ) (node next km : ℕ) (n : ℕ) → node < length old →
      get_or (shortened old node next km) n 0 ≤ get_or old n 0
  shorten_lower old node next km n small = by (nat_lt (get_or old next 0 + km) (get_or old node 0)) refl
    where
      by : (b : Bool) → nat_lt (get_or old next 0 + km) (get_or old node 0) ≡ b →
          get_or (cond b (set old node (get_or old next 0 + km)) old) n 0 ≤ get_or old n 0
      by false e = omega arith
      by true e = elim (cases_eq n node) [
        | inl same ↦
            let less = ltb-true _ _ e in
            let here = get_or-set_same old node (get_or old next 0 + km) 0 small in
            let a = ap (λ k. get_or (set old node (get_or old next 0 + km)) k 0) same in
            let b = ap (λ k. get_or old k 0) same in
            omega (arith, less, here, a, b)
        | inr other ↦
            let there = get_or-set_other old node n (get_or old next 0 + km) 0 other in
            omega (arith, there)
      ]

  shorten_over : (old : List ℕ) (node next km : ℕ) → node < length old →
      get_or (shortened old node next km) node 0 ≤ get_or old next 0 + km
  shorten_over old node next km small = by (nat_lt (get_or old next 0 + km) (get_or old node 0)) refl
    where
      by : (b : Bool) → nat_lt (get_or old next 0 + km) (get_or old node 0) ≡ b →
          get_or (cond b (set old node (get_or old next 0 + km)) old) node 0 ≤ get_or old next 0 + km
      by false e = ltb-false _ _ e
      by true e = let here = get_or-set_same old node (get_or old next 0 + km) 0 small in omega (arith, here)

  -- both ways over a fibre
  pub lowers-both : (i : ℕ) (old mid fresh : List ℕ) → i < length net.fibres →
      (fibre_at net.fibres i).a < length old → (fibre_at net.fibres i).b < length mid →
      mid ≡ shortened old (fibre_at net.fibres i).a (fibre_at net.fibres i).b (km_at net i) →
      fresh ≡ shortened mid (fibre_at net.fibres i).b (fibre_at net.fibres i).a (km_at net i) →
      Lower (λ j. j ≡ i) old fresh
  lowers-both i old mid fresh l small_a small_b is then =
      let a = (fibre_at net.fibres i).a in
      let b = (fibre_at net.fibres i).b in
      let km = km_at net i in
      let first : (n : ℕ) → get_or mid n 0 ≤ get_or old n 0 =
      λ n. subst (λ (xs : List ℕ). get_or xs n 0 ≤ get_or old n 0) (sym is) (shorten_lower old a b km n small_a) in
      let second : (n : ℕ) → get_or fresh n 0 ≤ get_or mid n 0 =
      λ n. subst (λ (xs : List ℕ). get_or xs n 0 ≤ get_or mid n 0) (sym then) (shorten_lower mid b a km n small_b) in
      let there : get_or mid a 0 ≤ get_or old b 0 + km =
      subst (λ (xs : List ℕ). get_or xs a 0 ≤ get_or old b 0 + km) (sym is) (shorten_over old a b km small_a) in
      let back : get_or fresh b 0 ≤ get_or mid a 0 + km =
      subst (λ (xs : List ℕ). get_or xs b 0 ≤ get_or mid a 0 + km) (sym then) (shorten_over mid b a km small_b) in
      let here : (node next : ℕ) → To node i next → get_or fresh node 0 ≤ get_or old next 0 + km =
      λ node next to. elim (leads-ends net banned closed node i next l to) [
        | inl x ↦
            let p = ap (λ n. get_or fresh n 0) x.0 in
            let q = ap (λ n. get_or old n 0) x.1 in
            omega (arith, p, q, second a, there)
        | inr x ↦
            let p = ap (λ n. get_or fresh n 0) x.0 in
            let q = ap (λ n. get_or old n 0) x.1 in
            omega (arith, p, q, first a, back)
      ] in
      record {
        lower = λ n. omega (arith, first n, second n);
        over = λ j same. subst (λ (k : ℕ). (node next : ℕ) → To node k next →
            get_or fresh node 0 ≤ get_or old next 0 + km_at net k) (sym same) here;
      }

  -- from what the two tests told of the fibre
  pub lowers-over : (i : ℕ) (f : Fibre) → f ≡ fibre_at net.fibres i → i < length net.fibres →
      (old mid fresh : List ℕ) → f.a < length old → f.b < length mid → mid ≡ shortened old f.a f.b f.km →
      fresh ≡ shortened mid f.b f.a f.km → Lower (λ j. j ≡ i) old fresh
  lowers-over i f e l = subst
      (λ (f : Fibre). (old mid fresh : List ℕ) → f.a < length old → f.b < length mid →
      mid ≡ shortened old f.a f.b f.km → fresh ≡ shortened mid f.b f.a f.km → Lower (λ j. j ≡ i) old fresh)
      (sym e) (λ old mid fresh a b is then. lowers-both i old mid fresh l a b is then)

  -- a fibre that is not free
  pub lowers-not-free : (i : ℕ) (away : List ℕ) → is_free net banned closed i ≡ false → Lower (λ j. j ≡ i) away away
  lowers-not-free i away e = record {
    lower = λ n. omega arith;
    over = λ j same node next to.
        absurd (false≢true (sym e ∙ ap (is_free net banned closed) (sym same) ∙ to.free));
  }

  -- none yet, and one more
  pub lowers-none : (away : List ℕ) → Lower (λ i. i < 0) away away
  lowers-none away = record { lower = λ n. omega arith; over = λ i l. absurd (omega (arith, l)) }

  pub lowers-more : (n : ℕ) (old mid fresh : List ℕ) → Lower (λ i. i < n) old mid → Lower (λ j. j ≡ n) mid fresh →
      Lower (λ i. i < n + 1) old fresh
  lowers-more n old mid fresh p q = record {
    lower = λ node. omega (arith, p.lower node, q.lower node);
    over = λ i l node next to. elim (cases_eq i n) [
      | inl same ↦ omega (arith, q.over i same node next to, p.lower next)
      | inr other ↦ omega (arith, p.over i (omega (arith, l, other)) node next to, q.lower node)
    ];
  }

  -- ---- ways to the target, and how many fibres they have

  -- a free fibre leads on to a node from which there is such a way
  pub record Onward (node i : ℕ) (Rest : ℕ → Type 0) : Type 0 where
    pub next : ℕ
    pub known : i < length net.fibres
    pub leads : To node i next
    pub rest : Rest next

  abbrev pub way_km : List ℕ → ℕ
  way_km [] = 0
  way_km (i ∷ is) = km_at net i + way_km is

  module _ (t : ℕ) where
    -- the fibres lead from the node to the target
    abbrev pub FreeWay : ℕ → List ℕ → Type 0
    FreeWay node [] = node ≡ t
    FreeWay node (i ∷ is) = Onward node i (λ next. FreeWay next is)

    -- no way of at most so many fibres is shorter than the distance
    abbrev pub IsNear : ℕ → List ℕ → Type 0
    IsNear r away = (node : ℕ) (is : List ℕ) → FreeWay node is → length is ≤ r → get_or away node 0 ≤ way_km is

    pub near-first : (away : List ℕ) → get_or away t 0 ≡ 0 → IsNear 0 away
    near-first away zero_there node [] w l = let a = ap (λ n. get_or away n 0) w in omega (arith, a, zero_there)
    near-first away zero_there node (i ∷ is) w l = absurd (omega (arith, l))

    -- after one round more
    pub near-more : (r : ℕ) (old fresh : List ℕ) → get_or fresh t 0 ≡ 0 → IsNear r old →
        Lower (λ i. i < length net.fibres) old fresh → IsNear (r + 1) fresh
    near-more r old fresh zero_there near less node [] w l =
        let a = ap (λ n. get_or fresh n 0) w in omega (arith, a, zero_there)
    near-more r old fresh zero_there near less node (i ∷ is) w l =
        let a = less.over i w.known node w.next w.leads in
        let b = near w.next is w.rest (omega (arith, l)) in
        omega (arith, a, b)

  -- ---- a distance within the limit is that of a way

  module _ (ok : is_graph net ≡ true) (t max_km : ℕ) (away : List ℕ) (h : Reached net banned closed t max_km away) where
    abbrev far : ℕ → ℕ
    far n = get_or away n 0

    abbrev near_ones : List ℕ
    near_ones = take (length net.nodes) away

    abbrev rank : ℕ → ℕ
    rank node = ranked (far node) near_ones

    record Chain (node : ℕ) : Type 0 where
      pub is : List ℕ
      pub way : FreeWay t node is
      pub km : way_km is ≤ far node
      pub few : length is ≤ rank node

    many : length near_ones ≡ length net.nodes
    many = let few = (parts_of net ok).nodes_few in length-take-le (length net.nodes) away (omega (arith, few, h.long))

    lower_rank : (node next : ℕ) → next < length net.nodes → far next < far node → rank next + 1 ≤ rank node
    lower_rank node next l less =
        let same : get_or near_ones next 0 ≡ far next = get_or-take (length net.nodes) away next 0 l in
        subst (λ (x : ℕ). ranked x near_ones + 1 ≤ rank node) same
        (rank-less (far node) near_ones next (omega (arith, l, many)) (omega (arith, same, less)))

    chained : (m node : ℕ) → node < 64 → far node ≤ max_km → rank node < m → Chain node
    chained zero node small most l = absurd (omega (arith, l))
    chained (suc m) node small most l = elim (cases_eq node t) [
      | inl same ↦ record { is = []; way = same; km = omega arith; few = omega arith }
      | inr other ↦
          let g = h.on node small other most in
          let known = leads-known net.fibres node g.fibre g.next g.leads.to in
          let nodes = node_after-nodes net (graph-ends net ok) node g.fibre g.next g.leads.to in
          let some = km-some net g.fibre ok known in
          let few = (parts_of net ok).nodes_few in
          let less : far g.next < far node = omega (arith, g.nearer, some) in
          let low = lower_rank node g.next nodes.1 less in
          let rest = chained m g.next (omega (arith, few, nodes.1)) (omega (arith, less, most)) (omega (arith, low, l)) in
          record {
            is = g.fibre ∷ rest.is;
            way = record { next = g.next; known = known; leads = g.leads; rest = rest.way };
            km = omega (arith, rest.km, g.nearer);
            few = omega (arith, rest.few, low);
          }
    ]

    -- after as many rounds as there are nodes nothing is shorter
    pub near-settled : IsNear t (length net.nodes) away → Settled net banned closed t max_km away
    near-settled near = record {
      reached = h;
      apart = λ i l node next to. elim (cases_lt max_km (far next)) [
        | inl beyond ↦ omega (arith, beyond, h.most node)
        | inr within ↦
            let nodes = node_after-nodes net (graph-ends net ok) node i next to.to in
            let few = (parts_of net ok).nodes_few in
            let chain = chained (rank next + 1) next (omega (arith, few, nodes.1)) within (omega arith) in
            let rank_few = below_all next nodes.1 in
            let a = near node (i ∷ chain.is) (record { next = next; known = l; leads = to; rest = chain.way })
            (omega (arith, chain.few, rank_few)) in
            omega (arith, a, chain.km)
      ];
    }
      where
        below_all : (next : ℕ) → next < length net.nodes → rank next + 1 ≤ length net.nodes
        below_all next l =
            let same : get_or near_ones next 0 ≡ far next = get_or-take (length net.nodes) away next 0 l in
            let a = subst (λ (x : ℕ). ranked x near_ones + 1 ≤ ranked (far next + 1) near_ones) same
            (rank-less (far next + 1) near_ones next (omega (arith, l, many)) (omega (arith, same))) in
            let b = rank-few (far next + 1) near_ones in
            omega (arith, a, b, many)
