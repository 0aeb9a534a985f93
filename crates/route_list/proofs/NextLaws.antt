-- One route more: the earliest deviation is the next route, and each of its fronts has a new deviation.
use Rattle.std.proofs.Common.{◌≡◌, refl, sym, ◌∙◌, ap, subst, inl, inr, ℕ, zero, suc, ◌+◌, ◌-◌, ◌*◌, ◌<◌, ◌≤◌, Bool, true, false, not, List, [], ◌∷◌, ◌++◌, length, take, get_or, filter, arith}
use Rattle.std.proofs.Math.Nat.{mul-le-mul_left}
use Rattle.std.specs.List.{list_all, list_any, AllByRecursion}
use Rattle.std.specs.declared.cmp.Ordering.{Ordering}
use Rattle.std.specs.declared.cmp.Ordering.TheVariants.{Less, Equal, Greater}
use Rattle.std.specs.Ordering.{is_lt, is_gt, ordering_reverse}
use Rattle.std.proofs.lemmas.Bool.{and_parts, or_cases, or_left, or_right, false≢true}
use Rattle.std.proofs.lemmas.List.{take_all, take-append-le}
use Rattle.std.proofs.lemmas.List.Folds.{list_any-append}
use Rattle.std.proofs.lemmas.List.Sums.{sum_by-append}
use Rattle.eon_model.specs.Network.{Network}
use Rattle.eon_model.specs.Route.{Route, walks}
use Rattle.eon_model.specs.Routes.{is_open_route, first_routes, AreFirstRoutes}
use Rattle.eon_model.specs.Deviations.{is_front, is_start, is_front_of, fronts_of, Deviation, deviations_at}
use Rattle.eon_model.specs.DeviationLaws.{IsLeastLeaving}
use Rattle.eon_model.proofs.OrderLaws.{IsIn}
use Rattle.eon_model.proofs.NumberLaws.{route_cmp-numbers}
use Rattle.eon_model.proofs.RouteLaws.{walks-IsListed}
use Rattle.eon_model.proofs.FirstRoutesLaws.{first_routes-told}
use Rattle.eon_model.proofs.DeviationClass.{deviations-least, start_is}
use Rattle.eon_model.proofs.DeviationLeave.{front-from}
use Rattle.eon_model.proofs.DeviationNext.{IsEarliest, IsPool, pool-new, one-more, no-more}
use Rattle.eon_model.proofs.DeviationSearch.{pool-at, pool-renewed}
use Rattle.net_graph.specs.Graph.{is_graph}
use Rattle.net_graph.proofs.GraphParts.{parts_of}
use Rattle.net_graph.proofs.RouteSums.{graph-ends}
use Rattle.route_list.specs.Pools.{numbers_cmp, IsTakenOf, fibres_in, runs_for}
use Rattle.route_list.proofs.LeastLaws.{graph-fibres}
use Rattle.route_list.proofs.DeviateLaws.{open-walks}
use Rattle.route_list.proofs.PoolLaws.{numbers-total}

-- ---- counts

pub fibres-more : (found : List Route) (r : Route) → fibres_in (found ++ r ∷ []) ≡ fibres_in found + length r.fibres
fibres-more found r = let s = sum_by-append (λ (r : Route). length r.fibres) found (r ∷ []) in omega (arith, s)

pub length-more : (rs : List Route) (r : Route) → length (rs ++ r ∷ []) ≡ length rs + 1
length-more [] r = refl
length-more (q ∷ qs) r = let more = length-more qs r in omega (arith, more)

pub last-of : (rs : List Route) (r d : Route) → get_or (rs ++ r ∷ []) (length rs) d ≡ r
last-of [] r d = refl
last-of (q ∷ qs) r d = last-of qs r d

pub few-times : (n k m f : ℕ) → n ≤ k → f ≤ n * m → f ≤ k * m
few-times n k m f l h = let more = mul-le-mul_left m l in omega (arith, h, more)

runs_some : (k : ℕ) (rs : List Route) → 0 < k → runs_for k rs ≡ 1 + fibres_in (take (k - 1) rs)
runs_some zero rs l = absurd (omega (arith, l))
runs_some (suc k) rs l = let e : k ≡ suc k - 1 = omega arith in ap (λ n. 1 + fibres_in (take n rs)) e

pub runs-all : (k : ℕ) (rs : List Route) → length rs < k → runs_for k rs ≡ 1 + fibres_in rs
runs-all k rs l =
    runs_some k rs (omega (arith, l)) ∙ ap (λ ts. 1 + fibres_in ts) (take_all (k - 1) rs (omega (arith, l)))

pub runs-but-last : (k : ℕ) (rs : List Route) (r : Route) → length rs + 1 ≡ k →
    runs_for k (rs ++ r ∷ []) ≡ 1 + fibres_in rs
runs-but-last k rs r e =
    runs_some k (rs ++ r ∷ []) (omega (arith, e))
    ∙ ap (λ ts. 1 + fibres_in ts) (take-append-le (k - 1) rs (r ∷ []) (omega (arith, e))
    ∙ take_all (k - 1) rs (omega (arith, e)))

pub most-more : (found : List Route) (r : Route) (n : ℕ) → fibres_in found ≤ length found * n → length r.fibres ≤ n →
    fibres_in (found ++ r ∷ []) ≤ length (found ++ r ∷ []) * n
most-more found r n h l =
    let a = fibres-more found r in
    let b = ap (λ m. m * n) (length-more found r) in
    omega (arith, a, b, h, l)

gt_reversed : (o : Ordering) → is_lt o ≡ false → is_gt (ordering_reverse o) ≡ false
gt_reversed Less h = absurd (false≢true (sym h))
gt_reversed Equal h = refl
gt_reversed Greater h = refl

module _ (net : Network) (ok : is_graph net ≡ true) (s t : ℕ) (banned : ℕ → Bool) (max_km : ℕ) where
  abbrev First : ℕ → List Route → Type 0
  First k rs = AreFirstRoutes net s t banned k max_km rs

  abbrev Pool : List Route → List Deviation → Type 0
  Pool found pool = IsPool net s t banned max_km found pool

  -- ---- at first

  pub first-none : (found : List Route) → found ≡ [] → First (length found) found
  first-none found e = subst (λ (rs : List Route). First (length rs) rs) (sym e)
      (record { ascend = tt; open_routes = refl; few = omega arith; others_later = λ r h. inr (refl, tt) })

  pub first-pool : (found : List Route) (pool : List Deviation) → found ≡ [] →
      pool ≡ deviations_at net s t banned max_km [] ([] ∷ []) → Pool found pool
  first-pool found pool e p = subst (λ (rs : List Route). Pool rs pool) (sym e) (subst (Pool []) (sym p)
      (pool-at net s t banned max_km [] ([] ∷ [])
      (λ front i. elim i [
        | inl same ↦ subst (λ (v : List ℕ). is_front_of [] v ≡ true) (sym same) refl
        | inr none ↦ absurd none
      ])
      (λ front f. elim (or_cases (is_start front) false f) [
        | inl start ↦ inl (start_is front start)
        | inr never ↦ absurd (false≢true never)
      ])))

  -- ---- then one by one

  module _ (found : List Route) (pool : List Deviation) (facts : First (length found) found) (p : Pool found pool)
      (fresh : List Deviation) (r : Route) (k : IsTakenOf pool fresh r) where
    listed : (d : Deviation) → IsIn d pool → AllByRecursion (λ i. i < length net.fibres) d.route.fibres
    listed d i =
        let n = pool-new net s t banned max_km (graph-ends net ok) (parts_of net ok).fibres_rise found
        facts.open_routes pool p d i in
        (walks-IsListed net s t d.route.fibres (graph-ends net ok) (open-walks net ok s t banned max_km d.route n.opens).1).fibres

    is_earliest : IsEarliest net k.deviation pool
    is_earliest = record {
      among = k.among;
      first = λ e i.
          ap is_gt (route_cmp-numbers net k.deviation.route e.route (parts_of net ok).fibres_rise
          (listed k.deviation k.among) (listed e i)
          ∙ numbers-total.antisymm k.deviation.route e.route)
          ∙ gt_reversed (numbers_cmp e.route k.deviation.route)
          (ap (λ v. is_lt (numbers_cmp e.route v)) k.route ∙ k.first e i);
    }

    pub next-first : First (length found + 1) (found ++ r ∷ [])
    next-first = subst (λ (v : Route). First (length found + 1) (found ++ v ∷ [])) k.route
        (one-more net s t banned max_km (graph-ends net ok) (parts_of net ok).fibres_rise found pool facts p k.deviation
        is_earliest)

    pub next-open : is_open_route net s t banned max_km r ≡ true
    next-open = subst (λ (v : Route). is_open_route net s t banned max_km v ≡ true) k.route
        (pool-new net s t banned max_km (graph-ends net ok) (parts_of net ok).fibres_rise found facts.open_routes pool p
        k.deviation k.among).opens

    own_front : is_front k.deviation.front r.fibres ≡ true
    own_front =
        let told = p.sound k.deviation k.among in
        let l = subst (IsLeastLeaving net s t banned max_km found k.deviation.front) told.1
        (deviations-least net s t banned max_km found k.deviation.front (graph-fibres net ok) facts.open_routes told.0) in
        subst (λ (v : List ℕ). is_front k.deviation.front v ≡ true)
        (sym l.1.is ∙ ap (λ (v : Route). v.fibres) k.route) (front-from k.deviation.front l.1.fibre l.1.rest)

    pub next-pool : (kept all : List Deviation) → kept ≡ filter (λ d. not (is_front d.front r.fibres)) fresh →
        all ≡ kept ++ deviations_at net s t banned max_km (found ++ r ∷ []) (fronts_of r.fibres) →
        Pool (found ++ r ∷ []) all
    next-pool kept all e f = subst (Pool (found ++ r ∷ []))
        (sym (f ∙ ap (λ ds. ds ++ deviations_at net s t banned max_km (found ++ r ∷ []) (fronts_of r.fibres))
        (e ∙ k.others (λ d. not (is_front d.front r.fibres)) (ap not own_front))))
        (pool-renewed net s t banned max_km found pool r p)

    -- the same of the list that has the route behind the others
    pub turn-facts : (items : List Route) → items ≡ found ++ r ∷ [] → First (length items) items
    turn-facts items e = subst (λ (rs : List Route). First (length rs) rs) (sym e)
        (subst (λ (n : ℕ). First n (found ++ r ∷ [])) (sym (length-more found r)) next-first)

    pub turn-pool : (items : List Route) → items ≡ found ++ r ∷ [] → (kept all : List Deviation) →
        kept ≡ filter (λ d. not (is_front d.front r.fibres)) fresh →
        all ≡ kept ++ deviations_at net s t banned max_km (found ++ r ∷ []) (fronts_of r.fibres) → Pool items all
    turn-pool items e kept all h f =
        subst (λ (rs : List Route). Pool rs all) (sym e) (next-pool kept all h f)

    pub next-known : AllByRecursion (λ i. i < length net.fibres) r.fibres
    next-known = (walks-IsListed net s t r.fibres (graph-ends net ok)
        (open-walks net ok s t banned max_km r next-open).1).fibres

    pub next-few : length r.fibres ≤ length net.nodes
    next-few =
        let few = (walks-IsListed net s t r.fibres (graph-ends net ok)
        (open-walks net ok s t banned max_km r next-open).1).few in
        omega (arith, few)

  -- a front of the last route is one of theirs
  pub shares-last : (found : List Route) (r : Route) (front : List ℕ) → is_front front r.fibres ≡ true →
      is_front_of (found ++ r ∷ []) front ≡ true
  shares-last found r front h =
      or_right (is_start front) _ (list_any-append (λ (q : Route). is_front front q.fibres) found (r ∷ [])
      ∙ or_right (list_any (λ (q : Route). is_front front q.fibres) found) _ (or_left (is_front front r.fibres) false h))

  -- ---- the end

  pub full : (found : List Route) (k : ℕ) → First (length found) found → length found ≡ k →
      found ≡ first_routes net s t banned k max_km
  full found k facts e = first_routes-told net s t banned k max_km found (graph-fibres net ok)
      (subst (λ (n : ℕ). First n found) e facts)

  pub all-found : (found : List Route) (pool : List Deviation) (k : ℕ) → First (length found) found →
      Pool found pool → pool ≡ [] → length found ≤ k → found ≡ first_routes net s t banned k max_km
  all-found found pool k facts p e l = first_routes-told net s t banned k max_km found (graph-fibres net ok)
      (no-more net s t banned max_km (graph-ends net ok) (parts_of net ok).fibres_rise found pool facts p e k l)

  some_fibre : (p : List ℕ) → walks net.fibres s t p ≡ true → 1 ≤ length p
  some_fibre [] w = absurd (false≢true w)
  some_fibre (i ∷ is) w = omega arith

  pub many-fibres : (found : List Route) → list_all (is_open_route net s t banned max_km) found ≡ true →
      length found ≤ fibres_in found
  many-fibres [] h = omega arith
  many-fibres (r ∷ rs) h =
      let q = and_parts (is_open_route net s t banned max_km r) _ h in
      let more = many-fibres rs q.1 in
      let one = some_fibre r.fibres (open-walks net ok s t banned max_km r q.0).1 in
      let s = sum_by-append (λ (r : Route). length r.fibres) (r ∷ []) rs in
      omega (arith, more, one, s)
