-- What the lines before say of a format, a node or a fibre: the same as the table and the network so far.
use Rattle.std.proofs.Common.{◌≡◌, refl, sym, ◌∙◌, ap, ℕ, nat_le, Bool, true, false, cond, ◌||◌, not, List, [], ◌∷◌, length, map, Option, Some, None, is_some}
use Rattle.std.specs.Prelude.{codes}
use Rattle.std.specs.Option.{option_map, option_map_or, is_none}
use Rattle.eon_model.specs.Names.{Name, has_name, same_name, is_above}
use Rattle.eon_model.specs.Network.{Fibre, fibre_names, number_of, node_of}
use Rattle.eon_model.specs.Formats.{Format}
use Rattle.eon_model.specs.NetworkFault.{Fields, Node, field_at, names_with, lines_with, last_fields, is_many, is_out_of_order, is_twice, has_unknown}
use Rattle.eon_model.specs.NetworkFault as model
use Rattle.reach_table.specs.Tables.{format_names}
use Rattle.net_graph.specs.declared.graph.GraphFault.TheVariants as graph
use Rattle.net_graph.specs.Graph.{comes_after, node_fault, fibre_fault}
use Rattle.net_graph.proofs.GroupLemmas.{has_number_of}
use Rattle.net_file.specs.declared.fault.Why.TheVariants as why
use Rattle.net_file.specs.Told.{why_told}
use Rattle.net_file.specs.Steps.{SoFar, format_why, graph_whys}
use Rattle.net_file.specs.Drafts.{lines_at, format_line_words, node_line_words, fibre_line_words}
use Rattle.net_file.proofs.CauseParts.{behind}
use Rattle.net_file.proofs.LineLists.{formats_with, nodes_with, fibres_with, names_mapped, last_compared}
use Rattle.std.proofs.lemmas.List.{length-map}

-- ---- formats

format_cases : (many twice : Bool) →
    cond many (Some model.Many) (cond false (Some model.Order) (cond twice (Some model.Twice) None))
    ≡ option_map why_told (cond many (Some why.Many) (cond twice (Some why.Twice) None))
format_cases true twice = refl
format_cases false true = refl
format_cases false false = refl

pub behind-format : (far : ℕ) (s : SoFar) (name : Name) (rest : Fields) →
    behind (lines_at far s) model.Format (codes "format" ∷ name ∷ rest) ≡ option_map why_told (format_why s.formats name)
behind-format far s name rest =
    let lines = formats_with far s in
    let many : nat_le 64 (length (lines_with (lines_at far s) (codes "format"))) ≡ nat_le 64 (length s.formats) =
    ap (λ (ls : List Fields). nat_le 64 (length ls)) lines ∙ ap (nat_le 64) (length-map s.formats format_line_words) in
    let twice : has_name (names_with (lines_at far s) (codes "format")) name ≡ has_name (format_names s.formats) name =
    ap (λ (ls : List Fields). has_name (map (λ (fields : Fields). field_at fields 1) ls) name) lines
    ∙ ap (λ (names : List Name). has_name names name)
    (names_mapped format_line_words (λ (f : Format). f.name) (λ x. refl) s.formats) in
    (λ i. cond (many i) (Some model.Many) (cond false (Some model.Order) (cond (twice i) (Some model.Twice) None)))
    ∙ format_cases (nat_le 64 (length s.formats)) (has_name (format_names s.formats) name)

-- whether the name is not above that of the last of these lines
abbrev pub not_above : List Fields → Name → Bool
not_above lines name =
    option_map_or (λ (last : Fields). not (is_above name (field_at last 1))) (last_fields lines) false

-- ---- nodes

node_cases : (many after : Bool) →
    cond many (Some model.Many) (cond (not after) (Some model.Order) None)
    ≡ option_map why_told (graph_whys (cond many (Some graph.Many) (cond (not after) (Some graph.Order) None)))
node_cases true after = refl
node_cases false true = refl
node_cases false false = refl

same : (names : List Name) → map (λ (n : Name). n) names ≡ names
same [] = refl
same (n ∷ names) = ap (λ (v : List Name). n ∷ v) (same names)

pub behind-node : (far : ℕ) (s : SoFar) (name : Name) (rest : Fields) →
    behind (lines_at far s) Node (codes "node" ∷ name ∷ rest) ≡ option_map why_told (graph_whys (node_fault s.network name))
behind-node far s name rest =
    let nodes = s.network.nodes in
    let lines = nodes_with far s in
    let earlier = lines_at far s in
    let fields = codes "node" ∷ name ∷ rest in
    let many : is_many earlier Node fields ≡ nat_le 64 (length nodes) =
    ap (λ (ls : List Fields). nat_le 64 (length ls)) lines ∙ ap (nat_le 64) (length-map nodes node_line_words) in
    let order : is_out_of_order earlier Node fields ≡ not (comes_after nodes name) =
    ap (λ (ls : List Fields). not_above ls name) lines
    ∙ last_compared node_line_words (λ (n : Name). n) (λ x. refl) nodes name
    ∙ ap (λ (names : List Name). not (comes_after names name)) (same nodes) in
    (λ i. cond (many i) (Some model.Many) (cond (order i) (Some model.Order) None))
    ∙ node_cases (nat_le 64 (length nodes)) (comes_after nodes name)

-- ---- fibres

fibre_cases : (many after none_a none_b ends : Bool) →
    cond many (Some model.Many) (cond (not after) (Some model.Order) (cond false (Some model.Twice)
    (cond (none_a || (none_b || false)) (Some model.Unknown) (cond ends (Some model.SelfEnd) None))))
    ≡ option_map why_told (graph_whys (cond many (Some graph.Many) (cond (not after) (Some graph.Order)
    (cond (none_a || none_b) (Some graph.Unknown) (cond ends (Some graph.SelfEnd) None)))))
fibre_cases true after a b ends = refl
fibre_cases false false a b ends = refl
fibre_cases false true true b ends = refl
fibre_cases false true false true ends = refl
fibre_cases false true false false true = refl
fibre_cases false true false false false = refl

not_some : (o : Option ℕ) → not (is_some o) ≡ is_none o
not_some None = refl
not_some (Some n) = refl

-- a name that none of these has has no number
pub unknown_name : (names : List Name) (name : Name) → not (has_name names name) ≡ is_none (number_of names name)
unknown_name names name = ap not (sym (has_number_of names name)) ∙ not_some (number_of names name)

pub behind-fibre : (far : ℕ) (s : SoFar) (name a b : Name) (rest : Fields) →
    behind (lines_at far s) model.Fibre (codes "fibre" ∷ name ∷ a ∷ b ∷ rest)
    ≡ option_map why_told (graph_whys (fibre_fault s.network name a b))
behind-fibre far s name a b rest =
    let net = s.network in
    let nodes = net.nodes in
    let lines = fibres_with far s in
    let earlier = lines_at far s in
    let fields = codes "fibre" ∷ name ∷ a ∷ b ∷ rest in
    let many : is_many earlier model.Fibre fields ≡ nat_le 128 (length net.fibres) =
    ap (λ (ls : List Fields). nat_le 128 (length ls)) lines
    ∙ ap (nat_le 128) (length-map net.fibres (fibre_line_words nodes)) in
    let order : is_out_of_order earlier model.Fibre fields ≡ not (comes_after (fibre_names net.fibres) name) =
    ap (λ (ls : List Fields). not_above ls name) lines
    ∙ last_compared (fibre_line_words nodes) (λ (f : Fibre). f.name) (λ x. refl) net.fibres name in
    let names : names_with earlier (codes "node") ≡ nodes =
    ap (map (λ (fields : Fields). field_at fields 1)) (nodes_with far s)
    ∙ names_mapped node_line_words (λ (n : Name). n) (λ x. refl) nodes ∙ same nodes in
    let known = λ (end : Name). ap (λ (ns : List Name). not (has_name ns end)) names ∙ unknown_name nodes end in
    (λ i. cond (many i) (Some model.Many) (cond (order i) (Some model.Order) (cond false (Some model.Twice)
    (cond (known a i || (known b i || false)) (Some model.Unknown) (cond (same_name a b) (Some model.SelfEnd) None)))))
    ∙ fibre_cases (nat_le 128 (length net.fibres)) (comes_after (fibre_names net.fibres) name)
    (is_none (node_of net a)) (is_none (node_of net b)) (same_name a b)
