-- What the tests of a new group say of the network.
use Rattle.std.proofs.Common.{◌≡◌, sym, ◌∙◌, ap, ℕ, Bool, List, [], map, nat_le, Option}
use Rattle.std.specs.Option.{is_some, is_none}
use Rattle.std.specs.List.{list_any, filter_map}
use Rattle.eon_model.specs.Names.{Name, has_name}
use Rattle.eon_model.specs.Network.{fibre_names, group_names, number_of, fibre_of}
use Rattle.eon_model.specs.Step.{fibres_numbered}
use Rattle.net_graph.specs.declared.graph.FibreRow.{FibreRow}
use Rattle.net_graph.specs.declared.graph.GroupRow.{GroupRow}
use Rattle.net_graph.specs.Graph.{comes_after, holders}
use Rattle.net_graph.specs.Rows.{network_of, group_seen, row_names, some_full_row, CountsGroups}
use Rattle.net_graph.proofs.GraphParts.{names_of_rows, names_of_groups}
use Rattle.net_graph.proofs.GroupLemmas.{has_number_of, numbers_within, full_same}

module _ (rows : List FibreRow) (groups : List GroupRow) (name : Name) (fibres : List Name) where
  pub after_is : (b c : Bool) → b ≡ comes_after (map (λ g. g.name) groups) name → b ≡ c →
      comes_after (group_names (network_of [] rows groups).groups) name ≡ c
  after_is b c e h = ap (λ names. comes_after names name) (names_of_groups groups) ∙ sym e ∙ h

  pub twice_is : (o : Option ℕ) (b c : Bool) → o ≡ number_of (row_names rows) name → b ≡ is_some o → b ≡ c →
      has_name (fibre_names (network_of [] rows groups).fibres) name ≡ c
  twice_is o b c at e h =
      ap (λ names. has_name names name) (names_of_rows rows) ∙ sym (has_number_of (row_names rows) name)
      ∙ ap is_some (sym at) ∙ sym e ∙ h

  pub unknown_is : (c : Bool) → list_any (λ f. is_none (number_of (row_names rows) f)) fibres ≡ c →
      list_any (λ f. is_none (fibre_of (network_of [] rows groups) f)) fibres ≡ c
  unknown_is c h = ap (λ names. list_any (λ f. is_none (number_of names f)) fibres) (names_of_rows rows) ∙ h

  pub numbers_are : fibres_numbered (network_of [] rows groups) fibres ≡ filter_map (number_of (row_names rows)) fibres
  numbers_are = ap (λ names. filter_map (number_of names) fibres) (names_of_rows rows)

  pub full_is : CountsGroups rows (map group_seen groups) → (numbers read : List ℕ) →
      numbers ≡ filter_map (number_of (row_names rows)) fibres → read ≡ numbers → (b c : Bool) →
      b ≡ some_full_row rows read → b ≡ c →
      list_any (λ i. nat_le 8 (holders (map group_seen groups) i)) (fibres_numbered (network_of [] rows groups) fibres)
      ≡ c
  full_is counted numbers read is same b c e h =
      ap (list_any (λ i. nat_le 8 (holders (map group_seen groups) i))) (numbers_are ∙ sym is)
      ∙ sym (full_same rows (map group_seen groups) numbers counted (numbers_within rows fibres numbers is))
      ∙ ap (some_full_row rows) (sym same) ∙ sym e ∙ h
