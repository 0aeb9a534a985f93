-- What one more group makes of the network that is kept.
use Rattle.std.proofs.Common.{◌≡◌, refl, sym, ◌∙◌, ap, subst, inl, inr, ℕ, ◌+◌, ◌<◌, nat_eq, nat_lt, nat_le, Bool, true, false, cond, not, List, [], ◌∷◌, ◌++◌, length, map, get_or, arith, length-append, append-nil, zero-add, None}
use Rattle.std.specs.List.{list_all, list_any, sum_by, range_with_len}
use Rattle.std.specs.Cmp.{nat_cmp_total}
use Rattle.std.specs.FinSet.{insert, from_list_push, nat_cmp-IsAntisymmetric}
use Rattle.std.proofs.lemmas.Bool.{and_from, leb-true, leb-false, le-leb, or_parts, or_cases, eqb-true, false≢true}
use Rattle.std.proofs.lemmas.List.{map-append}
use Rattle.std.proofs.lemmas.List.Sums.{sum_by-append}
use Rattle.eon_model.specs.Names.{Name, is_name, ascend}
use Rattle.eon_model.specs.Lists.{has_number}
use Rattle.eon_model.specs.Network.{Network, Group, fibre_names, group_names, risks_of_fibre, groups_with}
use Rattle.eon_model.specs.NetworkText.{is_group_among, is_in_few_groups}
use Rattle.eon_model.specs.Sets.{set_of}
use Rattle.eon_model.specs.Step.{fibres_numbered}
use Rattle.eon_model.proofs.NetworkReadLaws.{length_names}
use Rattle.net_graph.specs.declared.graph.FibreRow.{FibreRow}
use Rattle.net_graph.specs.declared.graph.GroupRow.{GroupRow}
use Rattle.net_graph.specs.Graph.{is_graph, comes_after, with_group, group_fault, group_named, holders}
use Rattle.net_graph.specs.Rows.{row_fibre, row_with, rows_with, few_groups, group_seen, network_of, IsKept, IsCounted}
use Rattle.net_graph.proofs.GraphParts.{parts_of, graph_from, length_rows, length_groups}
use Rattle.net_graph.proofs.NameOrder.{ascend-push, list_all-push}
use Rattle.net_graph.proofs.RowLemmas.{get_or-rows_with, length-rows_with}
use Rattle.net_graph.proofs.FaultLemmas.{group-accepts}
use Rattle.net_graph.proofs.GroupLemmas.{numbers_below, numbers_rise, some_number}
use Rattle.eon_model.proofs.ListTests.{all_more, list_all-below}

-- ---- what the groups of a fibre are with one more

holders-push : (groups : List Group) (g : Group) (i : ℕ) →
    holders (groups ++ g ∷ []) i ≡ holders groups i + cond (has_number g.fibres i) 1 0
holders-push groups g i =
    let one = λ (x : Group). cond (has_number x.fibres i) 1 0 in
    sum_by-append one groups (g ∷ [])
    ∙ (let e : sum_by one groups + sum_by one (g ∷ []) ≡ sum_by one groups + one g = omega arith in e)

groups_with-push : (n i : ℕ) (groups : List Group) (g : Group) →
    groups_with n i (groups ++ g ∷ [])
    ≡ groups_with n i groups ++ cond (has_number g.fibres i) ((n + length groups) ∷ []) []
groups_with-push n i [] g = ap (λ k. cond (has_number g.fibres i) (k ∷ []) []) (let e : n ≡ n + 0 = omega arith in e)
groups_with-push n i (h ∷ groups) g =
    let place : n + 1 + length groups ≡ n + length (h ∷ groups) = omega arith in
    let more = groups_with-push (n + 1) i groups g
    ∙ ap (λ k. groups_with (n + 1) i groups ++ cond (has_number g.fibres i) (k ∷ []) []) place in
    with_or_without (has_number h.fibres i) n (groups_with (n + 1) i (groups ++ g ∷ []))
    (groups_with (n + 1) i groups) (cond (has_number g.fibres i) ((n + length (h ∷ groups)) ∷ []) []) more
  where
    with_or_without : (b : Bool) (n : ℕ) (xs ys zs : List ℕ) → xs ≡ ys ++ zs →
        cond b (n ∷ xs) xs ≡ cond b (n ∷ ys) ys ++ zs
    with_or_without true n xs ys zs e = ap (λ v. n ∷ v) e
    with_or_without false n xs ys zs e = e

counted_by : (net : Network) (g : Group) (i : ℕ) (r : FibreRow) (b : Bool) →
    has_number g.fibres i ≡ b → IsCounted net i r →
    IsCounted (with_group net g) i (cond b (row_with (length net.fibres + length net.groups) r) r)
counted_by net g i r true e k =
    let risk = length net.fibres + length net.groups in
    record {
      risk =
          ap (λ s. insert s risk) k.risk
          ∙ sym (from_list_push nat_cmp_total nat_cmp-IsAntisymmetric (risks_of_fibre net i) risk)
          ∙ sym (ap (λ ks. set_of (i ∷ ks)) (groups_with-push (length net.fibres) i net.groups g
          ∙ ap (λ b. groups_with (length net.fibres) i net.groups ++ cond b (risk ∷ []) []) e));
      groups =
          ap (λ n. n + 1) k.groups
          ∙ sym (holders-push net.groups g i ∙ ap (λ b. holders net.groups i + cond b 1 0) e);
    }
counted_by net g i r false e k = record {
  risk =
      k.risk
      ∙ sym (ap (λ ks. set_of (i ∷ ks)) (groups_with-push (length net.fibres) i net.groups g
      ∙ ap (λ b. groups_with (length net.fibres) i net.groups
      ++ cond b ((length net.fibres + length net.groups) ∷ []) []) e
      ∙ append-nil (groups_with (length net.fibres) i net.groups)));
  groups =
      k.groups
      ∙ sym (holders-push net.groups g i ∙ ap (λ b. holders net.groups i + cond b 1 0) e
      ∙ (let e : holders net.groups i + 0 ≡ holders net.groups i = omega arith in e));
}

-- ---- the fibres stay

fibres_stay : (risk : ℕ) (numbers : List ℕ) (n : ℕ) (rows : List FibreRow) →
    map row_fibre (rows_with risk numbers n rows) ≡ map row_fibre rows
fibres_stay risk numbers n [] = refl
fibres_stay risk numbers n (r ∷ rows) =
    λ i. fibre_of_either (has_number numbers n) i ∷ fibres_stay risk numbers (n + 1) rows i
  where
    fibre_of_either : (b : Bool) → row_fibre (cond b (row_with risk r) r) ≡ row_fibre r
    fibre_of_either true = refl
    fibre_of_either false = refl

-- ---- a group that is accepted

pub no_room : (groups : List Group) (numbers : List ℕ) (i : ℕ) →
    list_any (λ k. nat_le 8 (holders groups k)) numbers ≡ false → has_number numbers i ≡ true →
    holders groups i < 8
no_room groups [] i room h = absurd (false≢true h)
no_room groups (k ∷ numbers) i room h =
    let parts = or_parts (nat_le 8 (holders groups k)) (list_any (λ k. nat_le 8 (holders groups k)) numbers) room in
    elim (or_cases (nat_eq k i) (has_number numbers i) h) [
      | inl e ↦
          let here : holders groups k < 8 = leb-false 8 (holders groups k) parts.0 in
          let same = ap (holders groups) (eqb-true k i e) in
          omega arith
      | inr later ↦ no_room groups numbers i parts.1 later
    ]

few_more : (groups : List Group) (g : Group) (i : ℕ) (b : Bool) → has_number g.fibres i ≡ b →
    list_any (λ k. nat_le 8 (holders groups k)) g.fibres ≡ false →
    is_in_few_groups groups i ≡ true → is_in_few_groups (groups ++ g ∷ []) i ≡ true
few_more groups g i true e room h =
    let low = no_room groups g.fibres i room e in
    let sum = holders-push groups g i ∙ ap (λ b. holders groups i + cond b 1 0) e in
    le-leb (holders (groups ++ g ∷ []) i) 8 (omega arith)
few_more groups g i false e room h =
    let low = leb-true (holders groups i) 8 h in
    let sum = holders-push groups g i ∙ ap (λ b. holders groups i + cond b 1 0) e in
    le-leb (holders (groups ++ g ∷ []) i) 8 (omega arith)

pub graph-with_group : (net : Network) (g : Group) → is_graph net ≡ true → length net.groups < 128 →
    is_group_among net.fibres g ≡ true → comes_after (group_names net.groups) g.name ≡ true →
    list_any (λ k. nat_le 8 (holders net.groups k)) g.fibres ≡ false → is_graph (with_group net g) ≡ true
graph-with_group net g h few good after room =
    let p = parts_of net h in
    let long = length-append net.groups (g ∷ []) in
    graph_from (with_group net g) (record {
      nodes_few = p.nodes_few;
      nodes_named = p.nodes_named;
      nodes_rise = p.nodes_rise;
      fibres_few = p.fibres_few;
      fibres_good = p.fibres_good;
      fibres_rise = p.fibres_rise;
      groups_few = omega arith;
      groups_good = list_all-push (is_group_among net.fibres) net.groups g p.groups_good good;
      groups_rise = ap ascend (map-append (λ (x : Group). x.name) net.groups (g ∷ []))
          ∙ ascend-push (group_names net.groups) g.name ∙ and_from _ _ p.groups_rise after;
      groups_shared = all_more (is_in_few_groups net.groups) (is_in_few_groups (net.groups ++ g ∷ []))
          (λ i few_i. few_more net.groups g i (has_number g.fibres i) refl room few_i)
          (range_with_len 0 (length net.fibres)) p.groups_shared;
    })

-- what is accepted is a group of the network's fibres
pub group-among : (net : Network) (name : Name) (fibres : List Name) → is_graph net ≡ true →
    group_fault net name fibres ≡ None → is_name name ≡ true → 0 < length fibres →
    is_group_among net.fibres (group_named net name fibres) ≡ true
group-among net name fibres h none named some =
    let ok = group-accepts net name fibres none in
    let names = fibre_names net.fibres in
    let numbers = fibres_numbered net fibres in
    let known = ap (λ n. list_all (λ i. nat_lt i n) numbers) (sym (length_names net.fibres))
    ∙ list_all-below (length names) numbers (numbers_below names fibres) in
    let rise = numbers_rise names fibres (parts_of net h).fibres_rise ok.rise in
    and_from _ _ (and_from _ _ (and_from _ _ (and_from _ _ named (ap not ok.new))
    (le-leb 1 (length numbers) (some_number names fibres some ok.found))) known) rise

-- ---- the rows and groups that are kept

counted_all : (nodes : List Name) (rows : List FibreRow) (groups : List GroupRow) (g : GroupRow) →
    IsKept nodes rows groups → (i : ℕ) (d : FibreRow) →
    i < length (rows_with (length rows + length groups) g.fibres.items 0 rows) →
    IsCounted (with_group (network_of nodes rows groups) (group_seen g)) i
    (get_or (rows_with (length rows + length groups) g.fibres.items 0 rows) i d)
counted_all nodes rows groups g k i d l =
    let net = network_of nodes rows groups in
    let risk = length rows + length groups in
    let long = length-rows_with risk g.fibres.items 0 rows in
    let within : i < length rows = omega arith in
    let place : length net.fibres + length net.groups ≡ risk = omega (arith, length_rows rows, length_groups groups) in
    let read : get_or (rows_with risk g.fibres.items 0 rows) i d
    ≡ cond (has_number g.fibres.items i) (row_with (length net.fibres + length net.groups) (get_or rows i d)) (get_or rows i d) =
    get_or-rows_with risk g.fibres.items 0 rows i d within
    ∙ (λ j. cond (has_number g.fibres.items (zero-add i j)) (row_with (sym place j) (get_or rows i d)) (get_or rows i d)) in
    subst (λ (r : FibreRow). IsCounted (with_group net (group_seen g)) i r) (sym read)
    (counted_by net (group_seen g) i (get_or rows i d) (has_number g.fibres.items i) refl (k.counted i d within))

same_net : (nodes : List Name) (rows : List FibreRow) (groups : List GroupRow) (g : GroupRow) →
    with_group (network_of nodes rows groups) (group_seen g)
    ≡ network_of nodes (rows_with (length rows + length groups) g.fibres.items 0 rows) (groups ++ g ∷ [])
same_net nodes rows groups g =
    λ i. record {
      nodes = nodes;
      fibres = sym (fibres_stay (length rows + length groups) g.fibres.items 0 rows) i;
      groups = sym (map-append group_seen groups (g ∷ [])) i;
    }

-- the network with the group
pub added-group : (nodes : List Name) (rows : List FibreRow) (groups : List GroupRow) (g : GroupRow)
    (h : Group) (new : List FibreRow) (more : List GroupRow) → group_seen g ≡ h →
    new ≡ rows_with (length rows + length groups) g.fibres.items 0 rows → more ≡ groups ++ g ∷ [] →
    network_of nodes new more ≡ with_group (network_of nodes rows groups) h
added-group nodes rows groups g h new more made rows_are groups_are =
    (λ i. network_of nodes (rows_are i) (groups_are i)) ∙ sym (same_net nodes rows groups g)
    ∙ ap (with_group (network_of nodes rows groups)) made

kept_grown : (nodes : List Name) (rows : List FibreRow) (groups : List GroupRow) (g : GroupRow)
    (name : Name) (fibres : List Name) → IsKept nodes rows groups →
    group_seen g ≡ group_named (network_of nodes rows groups) name fibres → is_name name ≡ true →
    group_fault (network_of nodes rows groups) name fibres ≡ None → 0 < length fibres →
    IsKept nodes (rows_with (length rows + length groups) g.fibres.items 0 rows) (groups ++ g ∷ [])
kept_grown nodes rows groups g name fibres k made named none some =
    let net = network_of nodes rows groups in
    let ok = group-accepts net name fibres none in
    let whole = same_net nodes rows groups g in
    record {
      graph =
          ap is_graph (sym whole)
          ∙ graph-with_group net (group_seen g) k.graph ok.few
          (ap (is_group_among net.fibres) made ∙ group-among net name fibres k.graph none named some)
          (ap (λ (x : Group). comes_after (group_names net.groups) x.name) made ∙ ok.after)
          (ap (λ (x : Group). list_any (λ k. nat_le 8 (holders net.groups k)) x.fibres) made ∙ ok.room);
      counted = λ i d l.
          subst (λ (n : Network). IsCounted n i
          (get_or (rows_with (length rows + length groups) g.fibres.items 0 rows) i d)) whole
          (counted_all nodes rows groups g k i d l);
    }

-- what is kept after a push that may have failed
pub kept-with_group : (nodes : List Name) (rows : List FibreRow) (groups : List GroupRow) (g : GroupRow)
    (name : Name) (fibres : List Name) (b : Bool) (new : List FibreRow) (more : List GroupRow) →
    IsKept nodes rows groups →
    group_seen g ≡ group_named (network_of nodes rows groups) name fibres → is_name name ≡ true →
    group_fault (network_of nodes rows groups) name fibres ≡ None → 0 < length fibres →
    new ≡ cond b (rows_with (length rows + length groups) g.fibres.items 0 rows) rows →
    more ≡ cond b (groups ++ g ∷ []) groups → IsKept nodes new more
kept-with_group nodes rows groups g name fibres true new more k made named none some rows_are groups_are =
    subst (λ (rs : List FibreRow). IsKept nodes rs more) (sym rows_are)
    (subst (λ (gs : List GroupRow). IsKept nodes (rows_with (length rows + length groups) g.fibres.items 0 rows) gs)
    (sym groups_are) (kept_grown nodes rows groups g name fibres k made named none some))
kept-with_group nodes rows groups g name fibres false new more k made named none some rows_are groups_are =
    subst (λ (rs : List FibreRow). IsKept nodes rs more) (sym rows_are)
    (subst (λ (gs : List GroupRow). IsKept nodes rows gs) (sym groups_are) k)

-- what marking the rows asks
pub room_in_rows : (nodes : List Name) (rows : List FibreRow) (groups : List GroupRow) (numbers : List ℕ) →
    IsKept nodes rows groups →
    list_any (λ k. nat_le 8 (holders (map group_seen groups) k)) numbers ≡ false → few_groups numbers rows
room_in_rows nodes rows groups numbers k room i d l h =
    let count = (k.counted i d l).groups in
    let low = no_room (map group_seen groups) numbers i room h in
    omega arith
