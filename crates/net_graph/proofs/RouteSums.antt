-- The length and the risk of a list of fibres, one fibre after another.
use Rattle.std.proofs.Common.{◌≡◌, sym, ◌∙◌, ap, ℕ, ◌+◌, ◌<◌, ◌≤◌, true, List, [], ◌∷◌, ◌++◌, length, take, get_or, arith, All, append-nil, zero, suc, nat_le, nat_eq, refl, inl, inr, Option, Some, None, slice_get}
use Rattle.std.specs.Option.{option_and_then}
use Rattle.std.specs.List.{sum_by, flat_map, list_all, AllByRecursion}
use Rattle.std.specs.FinSet as set
use Rattle.std.proofs.lemmas.Bool.{and_parts, leb-true}
use Rattle.std.proofs.lemmas.List.{take_more}
use Rattle.std.proofs.lemmas.Grind.{flat_map-append}
use Rattle.std.proofs.lemmas.List.Sums.{sum_by-append}
use Rattle.eon_model.specs.Names.{Name}
use Rattle.eon_model.specs.Network.{Network, Fibre, fibre_at, risks_of_fibre}
use Rattle.eon_model.specs.NetworkText.{is_fibre_among}
use Rattle.eon_model.specs.Route.{far_end, km_of, risk_of, walks}
use Rattle.eon_model.specs.Sets.{set_of}
use Rattle.eon_model.proofs.OrderLaws.{IsIn, AllOf, AllOf-at}
use Rattle.eon_model.proofs.ListLaws.{slice_get_in}
use Rattle.eon_model.proofs.RouteLaws.{EndsAreNodes, far_end_cases, walks-IsListed}
use Rattle.eon_model.proofs.SetupLaws.{fibres-EndsAreNodes}
use Rattle.net_graph.specs.Graph.{is_graph}
use Rattle.net_graph.specs.Walks.{node_after}
use Rattle.net_graph.proofs.GraphParts.{parts_of}
use Rattle.net_graph.proofs.WordLemmas.{union-lists}

pub km-more : (net : Network) (is : List ℕ) (i : ℕ) → i < length is →
    km_of net (take (i + 1) is) ≡ km_of net (take i is) + (fibre_at net.fibres (get_or is i 0)).km
km-more net is i l =
    let km = λ (k : ℕ). (fibre_at net.fibres k).km in
    ap (km_of net) (take_more is i 0 l) ∙ sum_by-append km (take i is) (get_or is i 0 ∷ [])
    ∙ (let e : sum_by km (take i is) + sum_by km (get_or is i 0 ∷ []) ≡ sum_by km (take i is) + km (get_or is i 0) =
    omega arith in e)

pub risk-more : (net : Network) (is : List ℕ) (i : ℕ) → i < length is →
    risk_of net (take (i + 1) is)
    ≡ set.union (risk_of net (take i is)) (set_of (risks_of_fibre net (get_or is i 0)))
risk-more net is i l =
    let last = get_or is i 0 in
    ap (risk_of net) (take_more is i 0 l)
    ∙ ap set_of (flat_map-append (risks_of_fibre net) (take i is) (last ∷ []))
    ∙ ap (λ ks. set_of (flat_map (risks_of_fibre net) (take i is) ++ ks)) (append-nil (risks_of_fibre net last))
    ∙ sym (union-lists (flat_map (risks_of_fibre net) (take i is)) (risks_of_fibre net last))

-- ---- what a walk says of its fibres

pub graph-ends : (net : Network) → is_graph net ≡ true → EndsAreNodes net
graph-ends net h = fibres-EndsAreNodes net (parts_of net h).fibres_good

pub walk-few : (net : Network) (s t : ℕ) (is : List ℕ) → is_graph net ≡ true →
    walks net.fibres s t is ≡ true → length is ≤ 64
walk-few net s t is h w =
    let few = (parts_of net h).nodes_few in
    let less = (walks-IsListed net s t is (graph-ends net h) w).few in
    omega arith

pub each_known : (n : ℕ) (is : List ℕ) → AllByRecursion (λ i. i < n) is →
    (k d : ℕ) → k < length is → get_or is k d < n
each_known n [] a k d l = absurd (omega arith)
each_known n (i ∷ is) a zero d l = a.0
each_known n (i ∷ is) a (suc k) d l = each_known n is a.1 k d (omega arith)

pub walk-known : (net : Network) (s t : ℕ) (is : List ℕ) → is_graph net ≡ true →
    walks net.fibres s t is ≡ true → All (λ i. i < length net.fibres) is
walk-known net s t is h w =
    each_known (length net.fibres) is (walks-IsListed net s t is (graph-ends net h) w).fibres

-- ---- one fibre

km_by : (nodes : List Name) (fs : List Fibre) (i : ℕ) → list_all (is_fibre_among nodes) fs ≡ true →
    (fibre_at fs i).km ≤ 100000
km_by nodes [] i h = omega arith
km_by nodes (f ∷ fs) zero h =
    let p5 = and_parts (is_fibre_among nodes f) (list_all (is_fibre_among nodes) fs) h in
    let p4 = and_parts _ _ p5.0 in
    leb-true f.km 100000 (and_parts (nat_le 1 f.km) (nat_le f.km 100000) p4.1).1
km_by nodes (f ∷ fs) (suc i) h =
    km_by nodes fs i (and_parts (is_fibre_among nodes f) (list_all (is_fibre_among nodes) fs) h).1

pub km-small : (net : Network) (i : ℕ) → is_graph net ≡ true → (fibre_at net.fibres i).km ≤ 100000
km-small net i h = km_by net.nodes net.fibres i (parts_of net h).fibres_good

-- ---- ends of fibres

module _ (net : Network) (ends : EndsAreNodes net) (node : ℕ) where
  far_nodes : (f : Fibre) (next : ℕ) → IsIn f net.fibres → far_end node f ≡ Some next →
      (node < length net.nodes) × (next < length net.nodes)
  far_nodes f next i e =
      let at = AllOf-at (λ f. (f.a < length net.nodes) × (f.b < length net.nodes)) net.fibres f ends i in
      elim (far_end_cases node next f (nat_eq f.a node) (nat_eq f.b node) refl refl e) [
        | inl one ↦ (omega (arith, at.0, one.0), omega (arith, at.1, one.1))
        | inr other ↦ (omega (arith, at.1, other.0), omega (arith, at.0, other.1))
      ]

  -- a fibre leads from a node to a node
  pub node_after-nodes : (i next : ℕ) → node_after net.fibres node i ≡ Some next →
      (node < length net.nodes) × (next < length net.nodes)
  node_after-nodes i next e = by (slice_get net.fibres i) refl e
    where
      by : (o : Option Fibre) → slice_get net.fibres i ≡ o → option_and_then (far_end node) o ≡ Some next →
          (node < length net.nodes) × (next < length net.nodes)
      by None at h = cc
      by (Some f) at h = far_nodes f next (slice_get_in net.fibres i f at).1 h

ends_by : (n : ℕ) (fs : List Fibre) (i : ℕ) → AllOf (λ f. (f.a < n) × (f.b < n)) fs → i < length fs →
    ((fibre_at fs i).a < n) × ((fibre_at fs i).b < n)
ends_by n [] i all l = absurd (omega (arith, l))
ends_by n (f ∷ fs) zero all l = all.0
ends_by n (f ∷ fs) (suc i) all l = ends_by n fs i all.1 (omega (arith, l))

-- the ends of each fibre are numbers of nodes
pub ends-small : (net : Network) (i : ℕ) → is_graph net ≡ true → i < length net.fibres →
    ((fibre_at net.fibres i).a < 64) × ((fibre_at net.fibres i).b < 64)
ends-small net i h l =
    let e = ends_by (length net.nodes) net.fibres i (graph-ends net h) l in
    let few = (parts_of net h).nodes_few in
    (omega (arith, e.0, few), omega (arith, e.1, few))
