-- What it is to be a graph, fact by fact.
use Rattle.std.proofs.Common.{◌≡◌, refl, sym, ◌∙◌, ap, ℕ, ◌+◌, ◌<◌, ◌≤◌, nat_le, Bool, true, ◌&&◌, List, [], ◌∷◌, ◌++◌, length, map, arith, zero, suc, ◌-◌, get_or}
use Rattle.std.specs.List.{list_all, range_with_len}
use Rattle.std.proofs.lemmas.Bool.{and_parts, and_from, leb-true, le-leb}
use Rattle.eon_model.specs.Names.{Name, is_name, ascend}
use Rattle.eon_model.specs.Network.{Network, fibre_names, group_names, name_at, risk_name}
use Rattle.eon_model.specs.NetworkText.{is_fibre_among, is_group_among, is_in_few_groups, has_fibres, has_groups}
use Rattle.net_graph.specs.declared.graph.FibreRow.{FibreRow}
use Rattle.net_graph.specs.declared.graph.GroupRow.{GroupRow}
use Rattle.net_graph.specs.Graph.{is_graph}
use Rattle.net_graph.specs.Rows.{row_fibre, row_names, group_seen, network_of}
use Rattle.eon_model.proofs.NamePlaceLaws.{name_at-past}

pub record GraphParts (net : Network) : Type 0 where
  pub nodes_few : length net.nodes ≤ 64
  pub nodes_named : list_all is_name net.nodes ≡ true
  pub nodes_rise : ascend net.nodes ≡ true
  pub fibres_few : length net.fibres ≤ 128
  pub fibres_good : list_all (is_fibre_among net.nodes) net.fibres ≡ true
  pub fibres_rise : ascend (fibre_names net.fibres) ≡ true
  pub groups_few : length net.groups ≤ 128
  pub groups_good : list_all (is_group_among net.fibres) net.groups ≡ true
  pub groups_rise : ascend (group_names net.groups) ≡ true
  pub groups_shared : list_all (is_in_few_groups net.groups) (range_with_len 0 (length net.fibres)) ≡ true

three : (a b c : Bool) → ((a && b) && c) ≡ true → (a ≡ true) × (b ≡ true) × (c ≡ true)
three a b c h = let p = and_parts (a && b) c h in let q = and_parts a b p.0 in (q.0, q.1, p.1)

three_from : (a b c : Bool) → a ≡ true → b ≡ true → c ≡ true → ((a && b) && c) ≡ true
three_from a b c h k l = and_from (a && b) c (and_from a b h k) l

pub parts_of : (net : Network) → is_graph net ≡ true → GraphParts net
parts_of net h =
    let few = nat_le (length net.nodes) 64 in
    let named = list_all is_name net.nodes in
    let shared = list_all (is_in_few_groups net.groups) (range_with_len 0 (length net.fibres)) in
    let groups = (nat_le (length net.groups) 128 && list_all (is_group_among net.fibres) net.groups)
    && ascend (group_names net.groups) in
    let all = three ((few && named) && ascend net.nodes) (has_fibres net) (has_groups net) h in
    let n = three few named (ascend net.nodes) all.0 in
    let f = three (nat_le (length net.fibres) 128) (list_all (is_fibre_among net.nodes) net.fibres)
    (ascend (fibre_names net.fibres)) all.1 in
    let gs = and_parts groups shared all.2 in
    let g = three (nat_le (length net.groups) 128) (list_all (is_group_among net.fibres) net.groups)
    (ascend (group_names net.groups)) gs.0 in
    record {
      nodes_few = leb-true (length net.nodes) 64 n.0;
      nodes_named = n.1;
      nodes_rise = n.2;
      fibres_few = leb-true (length net.fibres) 128 f.0;
      fibres_good = f.1;
      fibres_rise = f.2;
      groups_few = leb-true (length net.groups) 128 g.0;
      groups_good = g.1;
      groups_rise = g.2;
      groups_shared = gs.1;
    }

pub graph_from : (net : Network) → GraphParts net → is_graph net ≡ true
graph_from net p =
    let shared = list_all (is_in_few_groups net.groups) (range_with_len 0 (length net.fibres)) in
    let groups = (nat_le (length net.groups) 128 && list_all (is_group_among net.fibres) net.groups)
    && ascend (group_names net.groups) in
    three_from _ (has_fibres net) (has_groups net)
    (three_from _ _ _ (le-leb (length net.nodes) 64 p.nodes_few) p.nodes_named p.nodes_rise)
    (three_from _ _ _ (le-leb (length net.fibres) 128 p.fibres_few) p.fibres_good p.fibres_rise)
    (and_from groups shared
    (three_from _ _ _ (le-leb (length net.groups) 128 p.groups_few) p.groups_good p.groups_rise)
    p.groups_shared)

-- ---- the names in the rows

pub names_of_rows : (rows : List FibreRow) → fibre_names (map row_fibre rows) ≡ row_names rows
names_of_rows [] = refl
names_of_rows (r ∷ rows) = ap (λ ns. r.fibre.name ∷ ns) (names_of_rows rows)

pub names_of_groups : (groups : List GroupRow) →
    group_names (map group_seen groups) ≡ map (λ (g : GroupRow). g.name) groups
names_of_groups [] = refl
names_of_groups (g ∷ groups) = ap (λ ns. g.name ∷ ns) (names_of_groups groups)

-- ---- names by risk number

pub length_rows : (rows : List FibreRow) → length (map row_fibre rows) ≡ length rows
length_rows [] = refl
length_rows (r ∷ rows) = let more = length_rows rows in omega arith

pub length_groups : (groups : List GroupRow) → length (map group_seen groups) ≡ length groups
length_groups [] = refl
length_groups (g ∷ groups) = let more = length_groups groups in omega arith

name_at-rows : (rows : List FibreRow) (more : List Name) (i : ℕ) (d : FibreRow) → i < length rows →
    (get_or rows i d).fibre.name ≡ name_at (fibre_names (map row_fibre rows) ++ more) i
name_at-rows [] more i d l = absurd (omega arith)
name_at-rows (r ∷ rows) more zero d l = refl
name_at-rows (r ∷ rows) more (suc i) d l = name_at-rows rows more i d (omega arith)

name_at-groups : (groups : List GroupRow) (j : ℕ) (d : GroupRow) → j < length groups →
    (get_or groups j d).name ≡ name_at (group_names (map group_seen groups)) j
name_at-groups [] j d l = absurd (omega arith)
name_at-groups (g ∷ groups) zero d l = refl
name_at-groups (g ∷ groups) (suc j) d l = name_at-groups groups j d (omega arith)

pub risk_name-fibre : (nodes : List Name) (rows : List FibreRow) (groups : List GroupRow) (i : ℕ)
    (d : FibreRow) → i < length rows → (get_or rows i d).fibre.name ≡ risk_name (network_of nodes rows groups) i
risk_name-fibre nodes rows groups i d l = name_at-rows rows (group_names (map group_seen groups)) i d l

length_names_of : (rows : List FibreRow) → length (fibre_names (map row_fibre rows)) ≡ length rows
length_names_of [] = refl
length_names_of (r ∷ rows) = let more = length_names_of rows in omega arith

pub risk_name-group : (nodes : List Name) (rows : List FibreRow) (groups : List GroupRow) (i : ℕ)
    (d : GroupRow) → length rows ≤ i → i - length rows < length groups →
    (get_or groups (i - length rows) d).name ≡ risk_name (network_of nodes rows groups) i
risk_name-group nodes rows groups i d past l =
    let names = fibre_names (map row_fibre rows) in
    let j = i - length rows in
    let e : length names + j ≡ i = omega (arith, length_names_of rows) in
    name_at-groups groups j d l
    ∙ sym (sym (ap (name_at (names ++ group_names (map group_seen groups))) e)
    ∙ name_at-past names (group_names (map group_seen groups)) j)
