-- What one more node, fibre or group makes of the network that is kept.
use Rattle.std.proofs.Common.{◌≡◌, refl, sym, ◌∙◌, ap, subst, inl, inr, ℕ, ◌<◌, nat_eq, nat_lt, Bool, true, false, cond, ◌&&◌, not, List, [], ◌∷◌, ◌++◌, length, map, get_or, arith, length-append}
use Rattle.std.proofs.lemmas.List.{map-append}
use Rattle.std.proofs.Math.ListN.{get_or-append}
use Rattle.std.proofs.Math.Seq.{get_or-append_seam}
use Rattle.std.specs.List.{list_all, range_with_len}
use Rattle.std.proofs.lemmas.Bool.{and_parts, and_from, ltb-true, lt-ltb, cases_lt}
use Rattle.eon_model.specs.Names.{Name, is_name, ascend}
use Rattle.eon_model.specs.Numerals.{is_within}
use Rattle.eon_model.specs.Network.{Network, Fibre, fibre_names, groups_with}
use Rattle.eon_model.specs.NetworkText.{is_fibre_among, is_group_among, is_in_few_groups}
use Rattle.eon_model.specs.Sets.{set_of}
use Rattle.net_graph.specs.declared.graph.FibreRow.{FibreRow}
use Rattle.net_graph.specs.declared.graph.GroupRow.{GroupRow}
use Rattle.net_graph.specs.Graph.{is_graph, comes_after, with_node, with_fibre, holders}
use Rattle.net_graph.specs.Rows.{row_fibre, group_seen, network_of, IsKept, IsCounted}
use Rattle.net_graph.proofs.GraphParts.{parts_of, graph_from, length_rows}
use Rattle.net_graph.proofs.NameOrder.{ascend-push, list_all-push}
use Rattle.eon_model.proofs.ListTests.{all_more}

-- ---- one more node

among_more : (nodes : List Name) (name : Name) (f : Fibre) → is_fibre_among nodes f ≡ true →
    is_fibre_among (nodes ++ name ∷ []) f ≡ true
among_more nodes name f h =
    let long = length-append nodes (name ∷ []) in
    let a = nat_lt f.a (length nodes) in
    let b = nat_lt f.b (length nodes) in
    let apart = not (nat_eq f.a f.b) in
    let within = is_within 1 100000 f.km in
    let p4 = and_parts (((is_name f.name && a) && b) && apart) within h in
    let p3 = and_parts ((is_name f.name && a) && b) apart p4.0 in
    let p2 = and_parts (is_name f.name && a) b p3.0 in
    let p1 = and_parts (is_name f.name) a p2.0 in
    let la : f.a < length nodes = ltb-true f.a (length nodes) p1.1 in
    let lb : f.b < length nodes = ltb-true f.b (length nodes) p2.1 in
    and_from _ within (and_from _ apart (and_from _ _ (and_from _ _ p1.0
    (lt-ltb f.a (length (nodes ++ name ∷ [])) (omega arith)))
    (lt-ltb f.b (length (nodes ++ name ∷ [])) (omega arith))) p3.1) p4.1

pub graph-with_node : (net : Network) (name : Name) → is_graph net ≡ true → length net.nodes < 64 →
    is_name name ≡ true → comes_after net.nodes name ≡ true → is_graph (with_node net name) ≡ true
graph-with_node net name h few named after =
    let p = parts_of net h in
    let long = length-append net.nodes (name ∷ []) in
    graph_from (with_node net name) (record {
      nodes_few = omega arith;
      nodes_named = list_all-push is_name net.nodes name p.nodes_named named;
      nodes_rise = ascend-push net.nodes name ∙ and_from _ _ p.nodes_rise after;
      fibres_few = p.fibres_few;
      fibres_good = all_more (is_fibre_among net.nodes) (is_fibre_among (net.nodes ++ name ∷ []))
          (among_more net.nodes name) net.fibres p.fibres_good;
      fibres_rise = p.fibres_rise;
      groups_few = p.groups_few;
      groups_good = p.groups_good;
      groups_rise = p.groups_rise;
      groups_shared = p.groups_shared;
    })

-- the nodes after a push that may have failed
pub kept-with_node : (nodes : List Name) (rows : List FibreRow) (groups : List GroupRow) (name : Name)
    (b : Bool) (new : List Name) → IsKept nodes rows groups → length nodes < 64 → is_name name ≡ true →
    comes_after nodes name ≡ true → new ≡ cond b (nodes ++ name ∷ []) nodes → IsKept new rows groups
kept-with_node nodes rows groups name true new k few named after is =
    subst (λ (ns : List Name). IsKept ns rows groups) (sym is) (record {
      graph = graph-with_node (network_of nodes rows groups) name k.graph few named after;
      counted = λ i d l. let at = k.counted i d l in record { risk = at.risk; groups = at.groups };
    })
kept-with_node nodes rows groups name false new k few named after is =
    subst (λ (ns : List Name). IsKept ns rows groups) (sym is) k

-- ---- one more fibre

all_few : (is : List ℕ) → list_all (is_in_few_groups []) is ≡ true
all_few [] = refl
all_few (i ∷ is) = all_few is

fibre_names-push : (fs : List Fibre) (f : Fibre) → fibre_names (fs ++ f ∷ []) ≡ fibre_names fs ++ f.name ∷ []
fibre_names-push fs f = map-append (λ (x : Fibre). x.name) fs (f ∷ [])

pub graph-with_fibre : (net : Network) (f : Fibre) → is_graph net ≡ true → net.groups ≡ [] →
    length net.fibres < 128 → is_fibre_among net.nodes f ≡ true →
    comes_after (fibre_names net.fibres) f.name ≡ true → is_graph (with_fibre net f) ≡ true
graph-with_fibre net f h none few good after =
    let p = parts_of net h in
    let long = length-append net.fibres (f ∷ []) in
    graph_from (with_fibre net f) (record {
      nodes_few = p.nodes_few;
      nodes_named = p.nodes_named;
      nodes_rise = p.nodes_rise;
      fibres_few = omega arith;
      fibres_good = list_all-push (is_fibre_among net.nodes) net.fibres f p.fibres_good good;
      fibres_rise = ap ascend (fibre_names-push net.fibres f) ∙ ascend-push (fibre_names net.fibres) f.name
          ∙ and_from _ _ p.fibres_rise after;
      groups_few = p.groups_few;
      groups_good = ap (list_all (is_group_among (net.fibres ++ f ∷ []))) none;
      groups_rise = p.groups_rise;
      groups_shared =
          ap (λ gs. list_all (is_in_few_groups gs) (range_with_len 0 (length (net.fibres ++ f ∷ [])))) none
          ∙ all_few (range_with_len 0 (length (net.fibres ++ f ∷ [])));
    })

-- with no groups a fibre has its own risk alone
alone : (net : Network) (i : ℕ) (d : FibreRow) → net.groups ≡ [] → d.risk ≡ set_of (i ∷ []) →
    d.groups ≡ 0 → IsCounted net i d
alone net i d none risk groups = record {
  risk = risk ∙ sym (ap (λ gs. set_of (i ∷ groups_with (length net.fibres) i gs)) none);
  groups = groups ∙ sym (ap (λ gs. holders gs i) none);
}

alone_back : (net : Network) (i : ℕ) (d : FibreRow) → net.groups ≡ [] → IsCounted net i d →
    (d.risk ≡ set_of (i ∷ [])) × (d.groups ≡ 0)
alone_back net i d none k = (
  k.risk ∙ ap (λ gs. set_of (i ∷ groups_with (length net.fibres) i gs)) none,
  k.groups ∙ ap (λ gs. holders gs i) none,
)

counted-with_fibre : (nodes : List Name) (rows : List FibreRow) (groups : List GroupRow) (row : FibreRow) →
    map group_seen groups ≡ [] → IsKept nodes rows groups →
    row.risk ≡ set_of (length rows ∷ []) → row.groups ≡ 0 →
    (i : ℕ) (d : FibreRow) → i < length (rows ++ row ∷ []) →
    IsCounted (network_of nodes (rows ++ row ∷ []) groups) i (get_or (rows ++ row ∷ []) i d)
counted-with_fibre nodes rows groups row none k risk zeros i d l =
    let long = length-append rows (row ∷ []) in
    let net = network_of nodes (rows ++ row ∷ []) groups in
    elim (cases_lt i (length rows)) [
      | inl old ↦
          let same : get_or (rows ++ row ∷ []) i d ≡ get_or rows i d = get_or-append rows (row ∷ []) d i old in
          let was = alone_back (network_of nodes rows groups) i (get_or rows i d) none (k.counted i d old) in
          subst (λ (r : FibreRow). IsCounted net i r) (sym same) (alone net i (get_or rows i d) none was.0 was.1)
      | inr new ↦
          let here : i ≡ length rows = omega arith in
          let same : get_or (rows ++ row ∷ []) i d ≡ row =
          ap (λ j. get_or (rows ++ row ∷ []) j d) here ∙ get_or-append_seam rows row [] d in
          subst (λ (r : FibreRow). IsCounted net i r) (sym same)
          (alone net i row none (risk ∙ ap (λ j. set_of (j ∷ [])) (sym here)) zeros)
    ]

-- the rows after a push that may have failed
pub kept-with_fibre : (nodes : List Name) (rows : List FibreRow) (groups : List GroupRow) (row : FibreRow)
    (b : Bool) (new : List FibreRow) → IsKept nodes rows groups → map group_seen groups ≡ [] →
    length rows < 128 → is_fibre_among nodes (row_fibre row) ≡ true →
    comes_after (fibre_names (map row_fibre rows)) row.fibre.name ≡ true →
    row.risk ≡ set_of (length rows ∷ []) → row.groups ≡ 0 →
    new ≡ cond b (rows ++ row ∷ []) rows → IsKept nodes new groups
kept-with_fibre nodes rows groups row true new k none few good after risk zeros is =
    let long = length_rows rows in
    let more = map-append row_fibre rows (row ∷ []) in
    let fewer : length (map row_fibre rows) < 128 = omega arith in
    subst (λ (rs : List FibreRow). IsKept nodes rs groups) (sym is) (record {
      graph =
          ap (λ fs. is_graph (record { nodes = nodes; fibres = fs; groups = map group_seen groups })) more
          ∙ graph-with_fibre (network_of nodes rows groups) (row_fibre row) k.graph none fewer good after;
      counted = counted-with_fibre nodes rows groups row none k risk zeros;
    })
kept-with_fibre nodes rows groups row false new k none few good after risk zeros is =
    subst (λ (rs : List FibreRow). IsKept nodes rs groups) (sym is) k

-- the network with the fibre
pub added-fibre : (nodes : List Name) (rows : List FibreRow) (groups : List GroupRow) (row : FibreRow)
    (f : Fibre) (new : List FibreRow) → row_fibre row ≡ f → new ≡ rows ++ row ∷ [] →
    network_of nodes new groups ≡ with_fibre (network_of nodes rows groups) f
added-fibre nodes rows groups row f new made is =
    let fibres : map row_fibre new ≡ map row_fibre rows ++ f ∷ [] =
    ap (map row_fibre) is ∙ map-append row_fibre rows (row ∷ [])
    ∙ ap (λ x. map row_fibre rows ++ x ∷ []) made in
    ap (λ fs. record { nodes = nodes; fibres = fs; groups = map group_seen groups }) fibres
