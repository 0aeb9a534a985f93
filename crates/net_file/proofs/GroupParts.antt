-- What the lines before say of a group: the same as the network so far.
use Rattle.std.proofs.Common.{◌≡◌, refl, sym, ◌∙◌, ap, ℕ, zero, suc, ◌+◌, ◌<◌, nat_le, nat_lt, nat_eq, Bool, true, false, cond, ◌&&◌, ◌||◌, not, List, [], ◌∷◌, length, map, drop, Option, Some, None, get_or, arith}
use Rattle.std.specs.Prelude.{codes, count_by}
use Rattle.std.specs.Option.{option_map, is_none}
use Rattle.std.specs.List.{list_all, list_any, filter_map, cons_option}
use Rattle.std.proofs.lemmas.List.Quantifiers.{position-Some}
use Rattle.std.proofs.lemmas.List.Sums.{sum_by-cons}
use Rattle.std.proofs.lemmas.Bool.{and_parts, or_parts, ltb-true, eq-eqb, eqb-true}
use Rattle.eon_model.specs.Names.{Name, is_name, has_name, same_name, ascend}
use Rattle.eon_model.specs.Lists.{has_number, numbers_ascend}
use Rattle.eon_model.specs.Network.{Network, Fibre, Group, name_at, fibre_at, fibre_names, group_names, names_of_fibres, number_of, fibre_of}
use Rattle.eon_model.specs.Step.{fibres_numbered}
use Rattle.eon_model.specs.NetworkText.{is_group_among}
use Rattle.eon_model.specs.NetworkFault.{Fields, field_at, names_with, lines_with, last_fields, is_many, is_out_of_order, is_twice, has_unknown, is_in_a_ninth, groups_with}
use Rattle.eon_model.specs.NetworkFault as model
use Rattle.eon_model.proofs.NamePlaceLaws.{name-fibre_at, number_of-name_at}
use Rattle.eon_model.proofs.NumberLaws.{same-name}
use Rattle.eon_model.proofs.NetworkReadLaws.{length_names}
use Rattle.net_graph.specs.declared.graph.GraphFault.TheVariants as graph
use Rattle.net_graph.specs.Graph.{is_graph, comes_after, group_fault, holders}
use Rattle.net_graph.proofs.GraphParts.{parts_of}
use Rattle.net_graph.proofs.WordLemmas.{same_bool}
use Rattle.net_file.specs.Told.{why_told}
use Rattle.net_file.specs.Steps.{SoFar, graph_whys}
use Rattle.net_file.specs.Drafts.{lines_at, fibre_line_words, group_line_words}
use Rattle.net_file.proofs.CauseParts.{behind}
use Rattle.net_file.proofs.LineLists.{fibres_with, groups_with_word, names_mapped, last_compared}
use Rattle.net_file.proofs.BehindParts.{not_above, unknown_name}
use Rattle.std.proofs.lemmas.List.{length-map}
use Rattle.eon_model.proofs.NameLaws.{list_any_alike}

-- ---- a fibre among the fibres of a group, by name and by number

pub name_at-got : (names : List Name) (i : ℕ) → name_at names i ≡ get_or names i []
name_at-got [] i = refl
name_at-got (n ∷ names) zero = refl
name_at-got (n ∷ names) (suc i) = name_at-got names i

module _ (fibres : List Fibre) (up : ascend (fibre_names fibres) ≡ true) (name : Name) (i : ℕ)
    (found : number_of (fibre_names fibres) name ≡ Some i) where
  -- the fibre with another number has another name
  pub same_fibre : (j : ℕ) → j < length fibres → same_name name (fibre_at fibres j).name ≡ nat_eq j i
  same_fibre j l =
      let long = length_names fibres in
      let at = position-Some (same_name name) (fibre_names fibres) i [] found in
      let here = number_of-name_at (fibre_names fibres) j up (omega arith) in
      ap (same_name name) (name-fibre_at fibres j)
      ∙ same_bool _ _
      (λ h.
      let is : name ≡ name_at (fibre_names fibres) j = same-name name (name_at (fibre_names fibres) j) h in
      let both : Some i ≡ Some j = sym found ∙ ap (number_of (fibre_names fibres)) is ∙ here in
      let one : i ≡ j = cc in eq-eqb j i (sym one))
      (λ h. ap (λ (k : ℕ). same_name name (name_at (fibre_names fibres) k)) (eqb-true j i h)
      ∙ ap (same_name name) (name_at-got (fibre_names fibres) i) ∙ at.1)

  -- so the names of some fibres have the name where their numbers have its number
  pub same_members : (numbers : List ℕ) → list_all (λ j. nat_lt j (length fibres)) numbers ≡ true →
      has_name (names_of_fibres fibres numbers) name ≡ has_number numbers i
  same_members [] h = refl
  same_members (j ∷ numbers) h =
      let p = and_parts (nat_lt j (length fibres)) (list_all (λ j. nat_lt j (length fibres)) numbers) h in
      λ k. same_fibre j (ltb-true j (length fibres) p.0) k || same_members numbers p.1 k

  -- how many groups hold it
  pub same_count : (groups : List Group) → list_all (is_group_among fibres) groups ≡ true →
      count_by (λ (fields : Fields). has_name (drop 2 fields) name) (map (group_line_words fibres) groups)
      ≡ holders groups i
  same_count [] h = refl
  same_count (g ∷ groups) h =
      let p = and_parts (is_group_among fibres g) (list_all (is_group_among fibres) groups) h in
      let a = and_parts (is_name g.name && not (has_name (fibre_names fibres) g.name)
      && nat_le 1 (length g.fibres) && list_all (λ i. nat_lt i (length fibres)) g.fibres)
      (numbers_ascend g.fibres) p.0 in
      let b = and_parts (is_name g.name && not (has_name (fibre_names fibres) g.name)
      && nat_le 1 (length g.fibres)) (list_all (λ i. nat_lt i (length fibres)) g.fibres) a.0 in
      sum_by-cons (λ (fields : Fields). cond (has_name (drop 2 fields) name) 1 0) (group_line_words fibres g)
      (map (group_line_words fibres) groups)
      ∙ (λ k. cond (same_members g.fibres b.1 k) 1 0 + same_count groups p.1 k)
      ∙ sym (sum_by-cons (λ (g : Group). cond (has_number g.fibres i) 1 0) g groups)

-- ---- the fibres of a group that are in eight groups

full_by : (net : Network) (members : List Name) (o : Option ℕ) (name : Name) (ninth : Bool) (more : Bool) →
    fibre_of net name ≡ o → is_none o ≡ false →
    ((i : ℕ) → o ≡ Some i → ninth ≡ nat_le 8 (holders net.groups i)) →
    more ≡ list_any (λ i. nat_le 8 (holders net.groups i)) (fibres_numbered net members) →
    (ninth || more) ≡ list_any (λ i. nat_le 8 (holders net.groups i)) (fibres_numbered net (name ∷ members))
full_by net members None name ninth more e known here rest = cc
full_by net members (Some i) name ninth more e known here rest =
    (λ k. here i refl k || rest k)
    ∙ sym (ap (list_any (λ i. nat_le 8 (holders net.groups i))) (numbered_first net members i name e))
  where
    numbered_first : (net : Network) (members : List Name) (i : ℕ) (name : Name) → fibre_of net name ≡ Some i →
        fibres_numbered net (name ∷ members) ≡ i ∷ fibres_numbered net members
    numbered_first net members i name e = ap (λ (o : Option ℕ). cons_option o (filter_map (fibre_of net) members)) e

pub same_full : (net : Network) → is_graph net ≡ true → (members : List Name) →
    list_any (λ f. is_none (fibre_of net f)) members ≡ false →
    list_any (λ f. nat_le 8 (count_by (λ (fields : Fields). has_name (drop 2 fields) f)
    (map (group_line_words net.fibres) net.groups))) members
    ≡ list_any (λ i. nat_le 8 (holders net.groups i)) (fibres_numbered net members)
same_full net graph [] h = refl
same_full net graph (name ∷ members) h =
    let g = parts_of net graph in
    let p = or_parts (is_none (fibre_of net name)) (list_any (λ f. is_none (fibre_of net f)) members) h in
    full_by net members (fibre_of net name) name
    (nat_le 8 (count_by (λ (fields : Fields). has_name (drop 2 fields) name) (map (group_line_words net.fibres) net.groups)))
    (list_any (λ f. nat_le 8 (count_by (λ (fields : Fields). has_name (drop 2 fields) f)
    (map (group_line_words net.fibres) net.groups))) members)
    refl p.0
    (λ i e. ap (nat_le 8) (same_count net.fibres g.fibres_rise name i e net.groups g.groups_good))
    (same_full net graph members p.1)

-- ---- groups

group_cases : (many after rise twice unknown ninth full : Bool) → (unknown ≡ false → ninth ≡ full) →
    cond many (Some model.Many) (cond (not after || not rise) (Some model.Order) (cond twice (Some model.Twice)
    (cond unknown (Some model.Unknown) (cond false (Some model.SelfEnd) (cond ninth (Some model.Groups) None)))))
    ≡ option_map why_told (graph_whys (cond many (Some graph.Many) (cond (not (after && rise)) (Some graph.Order)
    (cond twice (Some graph.Twice) (cond unknown (Some graph.Unknown) (cond full (Some graph.Groups) None))))))
group_cases true after rise twice unknown ninth full e = refl
group_cases false false rise twice unknown ninth full e = refl
group_cases false true false twice unknown ninth full e = refl
group_cases false true true true unknown ninth full e = refl
group_cases false true true false true ninth full e = refl
group_cases false true true false false ninth true e = λ i. cond (e refl i) (Some model.Groups) None
group_cases false true true false false ninth false e = λ i. cond (e refl i) (Some model.Groups) None

pub behind-group : (far : ℕ) (s : SoFar) → is_graph s.network ≡ true → (name : Name) (members : List Name) →
    behind (lines_at far s) model.Group (codes "group" ∷ name ∷ members)
    ≡ option_map why_told (graph_whys (group_fault s.network name members))
behind-group far s graph name members =
    let net = s.network in
    let lines = groups_with_word far s in
    let earlier = lines_at far s in
    let fields = codes "group" ∷ name ∷ members in
    let many : is_many earlier model.Group fields ≡ nat_le 128 (length net.groups) =
    ap (λ (ls : List Fields). nat_le 128 (length ls)) lines
    ∙ ap (nat_le 128) (length-map net.groups (group_line_words net.fibres)) in
    let order : not_above (lines_with earlier (codes "group")) name ≡ not (comes_after (group_names net.groups) name) =
    ap (λ (ls : List Fields). not_above ls name) lines
    ∙ last_compared (group_line_words net.fibres) (λ (g : Group). g.name) (λ x. refl) net.groups name in
    let names : names_with earlier (codes "fibre") ≡ fibre_names net.fibres =
    ap (map (λ (fields : Fields). field_at fields 1)) (fibres_with far s)
    ∙ names_mapped (fibre_line_words net.nodes) (λ (f : Fibre). f.name) (λ x. refl) net.fibres in
    let unknown : has_unknown earlier model.Group fields ≡ list_any (λ f. is_none (fibre_of net f)) members =
    list_any_alike _ _ (λ f. ap (λ (ns : List Name). not (has_name ns f)) names ∙ unknown_name (fibre_names net.fibres) f) members in
    let ninth : is_in_a_ninth earlier model.Group fields
    ≡ list_any (λ f. nat_le 8 (count_by (λ (fields : Fields). has_name (drop 2 fields) f)
    (map (group_line_words net.fibres) net.groups))) members =
    ap (λ (ls : List Fields). list_any (λ f. nat_le 8 (count_by (λ (fields : Fields). has_name (drop 2 fields) f) ls)) members)
    lines in
    (λ i. cond (many i) (Some model.Many) (cond (order i || not (ascend members)) (Some model.Order)
    (cond (has_name (names i) name) (Some model.Twice) (cond (unknown i) (Some model.Unknown)
    (cond false (Some model.SelfEnd) (cond (ninth i) (Some model.Groups) None))))))
    ∙ group_cases (nat_le 128 (length net.groups)) (comes_after (group_names net.groups) name) (ascend members)
    (has_name (fibre_names net.fibres) name) (list_any (λ f. is_none (fibre_of net f)) members)
    (list_any (λ f. nat_le 8 (count_by (λ (fields : Fields). has_name (drop 2 fields) f)
    (map (group_line_words net.fibres) net.groups))) members)
    (list_any (λ i. nat_le 8 (holders net.groups i)) (fibres_numbered net members))
    (same_full net graph members)
