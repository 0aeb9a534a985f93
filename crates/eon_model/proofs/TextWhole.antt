-- The text of a setup in range has no fault.
use Rattle.std.proofs.Common.{◌≡◌, refl, sym, ◌∙◌, ap, subst, ℕ, true, false, List, [], ◌∷◌, ◌++◌, length, map, Option, append_assoc}
use Rattle.std.specs.Prelude.{codes, nat_le}
use Rattle.std.specs.Option.{option_map_or, option_and_then}
use Rattle.std.specs.List.{list_all, range_with_len}
use Rattle.eon_model.specs.Names.{Name, ascend}
use Rattle.eon_model.specs.Network.{Fibre}
use Rattle.eon_model.specs.Formats.{Format}
use Rattle.eon_model.specs.Legal.{Setup}
use Rattle.eon_model.specs.NetworkText.{is_group_among, is_in_few_groups, is_setup}
use Rattle.eon_model.specs.NetworkFault as fault
use Rattle.eon_model.specs.NetworkFault.{Word, End, Fields, word_spelled, field_at, last_word, last_fields, is_end, has_ended, may_stand_after, lines_with, whole_lines, first_fault, network_fault}
use Rattle.eon_model.proofs.Members.{map-itself}
use Rattle.eon_model.proofs.SetupLaws.{NetworkParts, network-parts}
use Rattle.eon_model.proofs.NetworkTextLaws.{format_words, node_words, fibre_words, group_words, network_words, setup_words, text_words}
use Rattle.eon_model.proofs.CleanLines.{setup_parts, setup_clean, fibre_names_are}
use Rattle.eon_model.specs.NetworkTextLaws.{TextsHaveNoFault}
use Rattle.eon_model.proofs.TextNetworks.{not_nil, network_few, some_fibres}
use Rattle.eon_model.proofs.TextCauses.{Passes, AllPass, AllPass-append, lines-found, no-fault}
use Rattle.eon_model.proofs.TextLists.{all-at, all-with, none-with, with-both, with-neither, with-right}
use Rattle.eon_model.proofs.TextLast.{stands-behind, last-push, each-passes}
use Rattle.eon_model.proofs.TextFront.{front, front-none, front-last, front-passes}
use Rattle.eon_model.proofs.SetupFacts.{SetupFacts, setup-facts}
use Rattle.eon_model.proofs.TextKinds.{format-passes, node-passes, fibre-passes}
use Rattle.eon_model.proofs.TextGroups.{group-passes}

-- ---- the lines before each kind

abbrev with_formats : Setup → List Fields
with_formats s = front s ++ map format_words s.formats

abbrev with_nodes : Setup → List Fields
with_nodes s = with_formats s ++ map node_words s.network.nodes

abbrev with_fibres : Setup → List Fields
with_fibres s = with_nodes s ++ map (fibre_words s.network.nodes) s.network.fibres

abbrev with_groups : Setup → List Fields
with_groups s = with_fibres s ++ map (group_words s.network.fibres) s.network.groups

abbrev end_line : Fields
end_line = codes "end" ∷ []

module _ (s : Setup) (r : SetupFacts s) (p : NetworkParts s.network) where
  abbrev nodes : List Name
  nodes = s.network.nodes

  abbrev fibres : List Fibre
  fibres = s.network.fibres

  formats_none : (word : List ℕ) → ((f : Format) → fault.has_word word (format_words f) ≡ false) →
      lines_with (front s) word ≡ [] → lines_with (with_formats s) word ≡ []
  formats_none word h e = with-neither word (front s) (map format_words s.formats) e (none-with word format_words h s.formats)

  formats_pass : AllPass (front s) (map format_words s.formats)
  formats_pass = each-passes format_words (front s) s.formats λ before f after e. (
    fault.Format,
    format-passes (front s ++ map format_words before) s.formats before f after e r.few_formats r.formats
        r.formats_differ
        (stands-behind format_words fault.Format (λ x. refl) fault.Format (front s) before
        (λ _. ap (λ (o : Option Word). may_stand_after o fault.Format) (front-last s)) refl)
        (with-right (codes "format") (front s) (map format_words before) (map format_words before)
        (front-none s (codes "format") refl (λ x. refl) refl refl refl refl)
        (all-with (codes "format") format_words (λ x. refl) before)),
  )

  nodes_pass : AllPass (with_formats s) (map node_words nodes)
  nodes_pass = each-passes node_words (with_formats s) nodes λ before n after e. (
    fault.Node,
    node-passes (with_formats s ++ map node_words before) nodes before n after e p.few_nodes p.node_names
        (ap ascend (map-itself nodes) ∙ p.nodes_ascend)
        (stands-behind node_words fault.Node (λ x. refl) fault.Node (with_formats s) before
        (λ _. stands-behind format_words fault.Format (λ x. refl) fault.Node (front s) s.formats
        (not_nil _ s.formats r.some_formats) refl) refl)
        (with-right (codes "node") (with_formats s) (map node_words before) (map node_words before)
        (formats_none (codes "node") (λ x. refl) (front-none s (codes "node") refl (λ x. refl) refl refl refl refl)) (all-with (codes "node") node_words (λ x. refl) before)),
  )

  -- after nodes
  after_nodes : (v : Word) → fault.may_follow fault.Node v ≡ true → may_stand_after (last_word (with_nodes s)) v ≡ true
  after_nodes v h = stands-behind node_words fault.Node (λ x. refl) v (with_formats s) nodes
      (not_nil _ nodes p.some_nodes) h

  node_lines : lines_with (with_nodes s) (codes "node") ≡ map node_words nodes
  node_lines = with-right (codes "node") (with_formats s) (map node_words nodes) (map node_words nodes)
      (formats_none (codes "node") (λ x. refl) (front-none s (codes "node") refl (λ x. refl) refl refl refl refl)) (all-with (codes "node") node_words (λ x. refl) nodes)

  nodes_none : (word : List ℕ) → ((f : Format) → fault.has_word word (format_words f) ≡ false) →
      ((n : Name) → fault.has_word word (node_words n) ≡ false) →
      lines_with (front s) word ≡ [] → lines_with (with_nodes s) word ≡ []
  nodes_none word h k e = with-neither word (with_formats s) (map node_words nodes) (formats_none word h e)
      (none-with word node_words k nodes)

  keeps_nothing : (xs : List Fields) → xs ++ [] ≡ xs
  keeps_nothing [] = refl
  keeps_nothing (x ∷ xs) = ap (λ v. x ∷ v) (keeps_nothing xs)

  fibres_pass : AllPass (with_nodes s) (map (fibre_words nodes) fibres)
  fibres_pass = each-passes (fibre_words nodes) (with_nodes s) fibres λ before f after e. (
    fault.Fibre,
    fibre-passes (with_nodes s ++ map (fibre_words nodes) before) nodes fibres before f after e
        p.few_fibres p.node_names p.nodes_ascend p.fibres p.fibres_ascend
        (stands-behind (fibre_words nodes) fault.Fibre (λ x. refl) fault.Fibre (with_nodes s) before
        (λ _. after_nodes fault.Fibre refl) refl)
        (with-both (codes "node") (with_nodes s) (map (fibre_words nodes) before) (map node_words nodes) [] node_lines
        (none-with (codes "node") (fibre_words nodes) (λ x. refl) before) ∙ keeps_nothing (map node_words nodes))
        (with-right (codes "fibre") (with_nodes s) (map (fibre_words nodes) before) (map (fibre_words nodes) before)
        (nodes_none (codes "fibre") (λ x. refl) (λ x. refl) (front-none s (codes "fibre") refl (λ x. refl) refl refl refl refl))
        (all-with (codes "fibre") (fibre_words nodes) (λ x. refl) before)),
  )

  -- after fibres
  after_fibres : (v : Word) → fault.may_follow fault.Node v ≡ true → fault.may_follow fault.Fibre v ≡ true →
      may_stand_after (last_word (with_fibres s)) v ≡ true
  after_fibres v h k = stands-behind (fibre_words nodes) fault.Fibre (λ x. refl) v (with_nodes s) fibres
      (λ _. after_nodes v h) k

  fibre_lines : lines_with (with_fibres s) (codes "fibre") ≡ map (fibre_words nodes) fibres
  fibre_lines = with-right (codes "fibre") (with_nodes s) (map (fibre_words nodes) fibres) (map (fibre_words nodes) fibres)
      (nodes_none (codes "fibre") (λ x. refl) (λ x. refl) (front-none s (codes "fibre") refl (λ x. refl) refl refl refl refl))
      (all-with (codes "fibre") (fibre_words nodes) (λ x. refl) fibres)

  groups_pass : list_all (is_in_few_groups s.network.groups) (range_with_len 0 (length fibres)) ≡ true →
      AllPass (with_fibres s) (map (group_words fibres) s.network.groups)
  groups_pass few = each-passes (group_words fibres) (with_fibres s) s.network.groups λ before g after e. (
    fault.Group,
    group-passes (with_fibres s ++ map (group_words fibres) before) nodes fibres s.network.groups before g after e
        p.few_groups (fibre_names_are nodes fibres p.fibres) p.fibres_ascend p.groups p.groups_ascend few
        (stands-behind (group_words fibres) fault.Group (λ x. refl) fault.Group (with_fibres s) before
        (λ _. stands-behind (fibre_words nodes) fault.Fibre (λ x. refl) fault.Group (with_nodes s) fibres
        (not_nil _ fibres (some_fibres fibres g (all-at (is_group_among fibres) before g after
        (ap (list_all (is_group_among fibres)) e ∙ p.groups)))) refl) refl)
        (with-both (codes "fibre") (with_fibres s) (map (group_words fibres) before) (map (fibre_words nodes) fibres) []
        fibre_lines (none-with (codes "fibre") (group_words fibres) (λ x. refl) before)
        ∙ keeps_nothing (map (fibre_words nodes) fibres))
        (with-right (codes "group") (with_fibres s) (map (group_words fibres) before) (map (group_words fibres) before)
        (with-neither (codes "group") (with_nodes s) (map (fibre_words nodes) fibres)
        (nodes_none (codes "group") (λ x. refl) (λ x. refl) (front-none s (codes "group") refl (λ x. refl) refl refl refl refl))
        (none-with (codes "group") (fibre_words nodes) (λ x. refl) fibres))
        (all-with (codes "group") (group_words fibres) (λ x. refl) before)),
  )

  no_end : lines_with (with_groups s) (codes "end") ≡ []
  no_end = with-neither (codes "end") (with_fibres s) (map (group_words fibres) s.network.groups)
      (with-neither (codes "end") (with_nodes s) (map (fibre_words nodes) fibres)
      (nodes_none (codes "end") (λ x. refl) (λ x. refl) (front-none s (codes "end") refl (λ x. refl) refl refl refl refl))
      (none-with (codes "end") (fibre_words nodes) (λ x. refl) fibres))
      (none-with (codes "end") (group_words fibres) (λ x. refl) s.network.groups)

  end_passes : Passes (with_groups s) End end_line
  end_passes = record {
    word = refl;
    stands = stands-behind (group_words fibres) fault.Group (λ x. refl) End (with_fibres s) s.network.groups
        (λ _. after_fibres End refl refl) refl;
    parts = refl;
    form = refl;
    ranges = refl;
    few = ap (λ (v : List Fields). nat_le 1 (length v)) no_end;
    ordered = refl;
    once = refl;
    known = refl;
    apart = refl;
    eighth = refl;
  }

  regrouped : with_groups s ≡ with_formats s ++ network_words s.network
  regrouped =
      ap (λ (v : List Fields). v ++ map (group_words fibres) s.network.groups)
      (append_assoc (with_formats s) (map node_words nodes) (map (fibre_words nodes) fibres))
      ∙ append_assoc (with_formats s) (map node_words nodes ++ map (fibre_words nodes) fibres)
      (map (group_words fibres) s.network.groups)

  all_pass : list_all (is_in_few_groups s.network.groups) (range_with_len 0 (length fibres)) ≡ true →
      AllPass [] (setup_words s)
  all_pass few =
      subst (λ (v : List Fields). AllPass [] (v ++ end_line ∷ [])) regrouped
      (AllPass-append [] (with_groups s) (end_line ∷ [])
      (AllPass-append [] (with_fibres s) (map (group_words fibres) s.network.groups)
      (AllPass-append [] (with_nodes s) (map (fibre_words nodes) fibres)
      (AllPass-append [] (with_formats s) (map node_words nodes)
      (AllPass-append [] (front s) (map format_words s.formats) (front-passes s r) formats_pass) nodes_pass)
      fibres_pass) (groups_pass few)) ((End, end_passes), tt))

  ended : has_ended (setup_words s) ≡ true
  ended = ap (λ (o : Option Fields). option_map_or is_end (option_and_then (λ fields. word_spelled (field_at fields 0)) o) false)
      (last-push (with_formats s ++ network_words s.network) end_line)

-- the lines of a setup in range pass
setup-passes : (s : Setup) → is_setup s ≡ true → AllPass [] (setup_words s)
setup-passes s h =
    let r = setup-facts s h in
    all_pass s r (network-parts s.network r.network) (network_few s.network r.network)

pub texts-have-no-fault : TextsHaveNoFault
texts-have-no-fault bytes s t =
    let pass = setup-passes s t.in_range in
    let r = setup-facts s t.in_range in
    let clean = setup_clean s (setup_parts s t.in_range) in
    ap network_fault (t.is ∙ sym (text_words s))
    ∙ ap (λ v. first_fault [] 1 v.0 v.1) (lines-found (setup_words s) clean)
    ∙ no-fault [] (setup_words s) 1 pass clean (ended s r (network-parts s.network r.network))
