-- What is known of a group that is to join a network.
use Rattle.std.proofs.Common.{◌≡◌, sym, ◌∙◌, ap, ◌<◌, true, List, [], length, All, nat_le, None, arith}
use Rattle.std.specs.List.{list_any, filter_map}
use Rattle.eon_model.specs.Names.{Name, ascend}
use Rattle.eon_model.specs.Network.{Group, number_of}
use Rattle.eon_model.specs.Lists.{numbers_ascend}
use Rattle.net_graph.specs.declared.graph.FibreRow.{FibreRow}
use Rattle.net_graph.specs.declared.graph.GroupRow.{GroupRow}
use Rattle.net_graph.specs.Graph.{group_fault, group_named, holders}
use Rattle.net_graph.specs.Rows.{network_of, group_seen, row_names, few_groups, IsKept}
use Rattle.net_graph.proofs.GraphParts.{parts_of, length_groups, names_of_rows}
use Rattle.net_graph.proofs.FaultLemmas.{group-accepts}
use Rattle.net_graph.proofs.GroupLemmas.{numbers_within, numbers_rise}
use Rattle.net_graph.proofs.JoinLemmas.{room_in_rows}

pub record Joins (nodes : List Name) (rows : List FibreRow) (groups : List GroupRow) (name : Name)
    (fibres : List Name) (g : GroupRow) : Type 0 where
  pub made : group_seen g ≡ group_named (network_of nodes rows groups) name fibres
  pub accepted : group_fault (network_of nodes rows groups) name fibres ≡ None
  pub few : length groups < 128
  pub known : All (λ i. i < length rows) g.fibres.items
  pub rise : numbers_ascend g.fibres.items ≡ true
  pub room : few_groups g.fibres.items rows

module _ (nodes : List Name) (rows : List FibreRow) (groups : List GroupRow) (kept : IsKept nodes rows groups)
    (name : Name) (fibres : List Name) (g : GroupRow) where
  -- from what was told of the rows and the groups that were read
  pub joins : (rs : List FibreRow) (gs : List GroupRow) → rs ≡ rows → gs ≡ groups →
      group_seen g ≡ group_named (network_of [] rs gs) name fibres →
      group_fault (network_of [] rs gs) name fibres ≡ None → Joins nodes rows groups name fibres g
  joins rs gs at_rows at_groups is none =
      let net = network_of nodes rows groups in
      let made : group_seen g ≡ group_named net name fibres =
      is ∙ (λ i. group_named (network_of [] (at_rows i) (at_groups i)) name fibres) in
      let accepted : group_fault net name fibres ≡ None =
      sym (λ i. group_fault (network_of [] (at_rows i) (at_groups i)) name fibres) ∙ none in
      let ok = group-accepts net name fibres accepted in
      let numbers : g.fibres.items ≡ filter_map (number_of (row_names rows)) fibres =
      ap (λ (x : Group). x.fibres) made ∙ ap (λ names. filter_map (number_of names) fibres) (names_of_rows rows) in
      record {
        made = made;
        accepted = accepted;
        few = omega (arith, ok.few, length_groups groups);
        known = numbers_within rows fibres g.fibres.items numbers;
        rise = ap numbers_ascend numbers
            ∙ numbers_rise (row_names rows) fibres
            (ap ascend (sym (names_of_rows rows)) ∙ (parts_of net kept.graph).fibres_rise) ok.rise;
        room = room_in_rows nodes rows groups g.fibres.items kept
            (ap (λ (x : Group). list_any (λ k. nat_le 8 (holders net.groups k)) x.fibres) made ∙ ok.room);
      }
