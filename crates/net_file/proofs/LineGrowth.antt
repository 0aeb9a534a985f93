-- How the lines that have told a setup grow by one.
use Rattle.std.proofs.Common.{◌≡◌, refl, sym, ◌∙◌, ap, ℕ, ◌-◌, ◌<◌, ◌≤◌, cond, List, [], ◌∷◌, ◌++◌, map, take, Some, append_assoc, arith, true}
use Rattle.std.specs.Prelude.{codes, option_and_then}
use Rattle.std.proofs.lemmas.List.{append-nil, map-append, take_all}
use Rattle.std.proofs.lemmas.Bool.{le-ltb}
use Rattle.eon_model.specs.Names.{Name}
use Rattle.eon_model.specs.Network.{Network, Fibre, Group}
use Rattle.eon_model.specs.Formats.{Format}
use Rattle.eon_model.specs.NetworkFault.{Fields, Word, field_at, word_spelled, last_word, last_fields}
use Rattle.net_graph.specs.Graph.{is_graph}
use Rattle.net_file.specs.Steps.{SoFar, parts_of, with_network}
use Rattle.net_file.specs.Drafts.{format_line_words, node_line_words, fibre_line_words, group_line_words, number_words, part_line_words, limit_words, net_words, head_at, end_words, lines_at, InRange}

-- ---- the last line

last_pushed : (earlier : List Fields) (fields : Fields) → last_fields (earlier ++ fields ∷ []) ≡ Some fields
last_pushed [] fields = refl
last_pushed (line ∷ []) fields = refl
last_pushed (line ∷ next ∷ lines) fields = last_pushed (next ∷ lines) fields

pub last-word : (earlier : List Fields) (fields : Fields) (w : Word) → word_spelled (field_at fields 0) ≡ Some w →
    last_word (earlier ++ fields ∷ []) ≡ Some w
last-word earlier fields w h =
    ap (option_and_then (λ (f : Fields). word_spelled (field_at f 0))) (last_pushed earlier fields) ∙ h

-- ---- the lines of the head

not_ended : (far : ℕ) → far < 11 → end_words far ≡ []
not_ended far l = λ i. cond (le-ltb 10 far (omega arith) i) ((codes "end" ∷ []) ∷ []) []

-- the lines before the formats, where all are there
abbrev pub whole_head : SoFar → List Fields
whole_head s = (number_words (codes "net") s.version ∷ map part_line_words (parts_of s.band)) ++ limit_words s

whole_limits : (far : ℕ) (s : SoFar) → 6 ≤ far → take (far - 2) (limit_words s) ≡ limit_words s
whole_limits far s l = take_all (far - 2) (limit_words s) (omega arith)

whole_net : (far : ℕ) (s : SoFar) → 6 ≤ far → take far (number_words (codes "net") s.version ∷ [])
    ≡ number_words (codes "net") s.version ∷ []
whole_net far s l = take_all far (number_words (codes "net") s.version ∷ []) (omega arith)

all_heads : (far : ℕ) (s : SoFar) → 6 ≤ far → head_at far s ≡ whole_head s
all_heads far s l = λ i. (whole_net far s l i ++ map part_line_words (parts_of s.band)) ++ whole_limits far s l i

-- with no format and nothing of the network
pub head_lines : (far : ℕ) (s : SoFar) → far < 7 → s.formats ≡ [] → s.network.nodes ≡ [] →
    s.network.fibres ≡ [] → s.network.groups ≡ [] → lines_at far s ≡ head_at far s
unfolding lines_at
head_lines far s l formats nodes fibres groups =
    let head = head_at far s in
    (λ i. ((head ++ map format_line_words (formats i)) ++ ((map node_line_words (nodes i)
    ++ map (fibre_line_words s.network.nodes) (fibres i)) ++ map (group_line_words s.network.fibres) (groups i)))
    ++ not_ended far (omega arith) i)
    ∙ append-nil ((head ++ []) ++ []) ∙ append-nil (head ++ []) ∙ append-nil head

-- ---- the lines behind the head

pub later_lines : (far : ℕ) (s : SoFar) → 6 ≤ far → far < 11 →
    lines_at far s ≡ (whole_head s ++ map format_line_words s.formats) ++ net_words s.network
unfolding lines_at
later_lines far s least most =
    (λ i. ((all_heads far s least i ++ map format_line_words s.formats) ++ net_words s.network)
    ++ not_ended far most i)
    ∙ append-nil ((whole_head s ++ map format_line_words s.formats) ++ net_words s.network)

pub format_lines : (far : ℕ) (s : SoFar) → 6 ≤ far → far < 11 → s.network.nodes ≡ [] → s.network.fibres ≡ [] →
    s.network.groups ≡ [] → lines_at far s ≡ whole_head s ++ map format_line_words s.formats
format_lines far s least most nodes fibres groups =
    let told = whole_head s ++ map format_line_words s.formats in
    later_lines far s least most
    ∙ (λ i. told ++ ((map node_line_words (nodes i) ++ map (fibre_line_words s.network.nodes) (fibres i))
    ++ map (group_line_words s.network.fibres) (groups i)))
    ∙ append-nil told

pub format-grows : (far : ℕ) (s t : SoFar) (f : Format) → 6 ≤ far → far < 8 → s.network.nodes ≡ [] →
    s.network.fibres ≡ [] → s.network.groups ≡ [] → t.network ≡ s.network → whole_head t ≡ whole_head s →
    t.formats ≡ s.formats ++ f ∷ [] → lines_at 7 t ≡ lines_at far s ++ format_line_words f ∷ []
format-grows far s t f least most nodes fibres groups net head is =
    let told = whole_head s ++ map format_line_words s.formats in
    format_lines 7 t (omega arith) (omega arith) (ap (λ (n : Network). n.nodes) net ∙ nodes)
    (ap (λ (n : Network). n.fibres) net ∙ fibres) (ap (λ (n : Network). n.groups) net ∙ groups)
    ∙ (λ i. head i ++ map format_line_words (is i))
    ∙ ap (λ (v : List Fields). whole_head s ++ v) (map-append format_line_words s.formats (f ∷ []))
    ∙ sym (append_assoc (whole_head s) (map format_line_words s.formats) (format_line_words f ∷ []))
    ∙ ap (λ (v : List Fields). v ++ format_line_words f ∷ [])
    (sym (format_lines far s least (omega arith) nodes fibres groups))

-- ---- one more line of the network

-- the lines of the network grow by one, and with them all lines
pub network-grows : (far more : ℕ) (s t : SoFar) (fields : Fields) → 6 ≤ far → far < 11 → 6 ≤ more → more < 11 →
    whole_head t ≡ whole_head s → t.formats ≡ s.formats →
    net_words t.network ≡ net_words s.network ++ fields ∷ [] →
    lines_at more t ≡ lines_at far s ++ fields ∷ []
network-grows far more s t fields least most least_more most_more head formats net =
    let told = whole_head s ++ map format_line_words s.formats in
    later_lines more t least_more most_more
    ∙ (λ i. (head i ++ map format_line_words (formats i)) ++ net i)
    ∙ sym (append_assoc told (net_words s.network) (fields ∷ []))
    ∙ ap (λ (v : List Fields). v ++ fields ∷ []) (sym (later_lines far s least most))

pub node-grows : (net : Network) (name : Name) → net.fibres ≡ [] → net.groups ≡ [] →
    (let more : Network = record { nodes = net.nodes ++ name ∷ []; fibres = net.fibres; groups = net.groups } in
    net_words more) ≡ net_words net ++ node_line_words name ∷ []
node-grows net name fibres groups =
    (λ i. (map node_line_words (net.nodes ++ name ∷ []) ++ map (fibre_line_words (net.nodes ++ name ∷ [])) (fibres i))
    ++ map (group_line_words net.fibres) (groups i))
    ∙ append-nil (map node_line_words (net.nodes ++ name ∷ []) ++ [])
    ∙ append-nil (map node_line_words (net.nodes ++ name ∷ []))
    ∙ map-append node_line_words net.nodes (name ∷ [])
    ∙ ap (λ (v : List Fields). v ++ node_line_words name ∷ [])
    (sym ((λ i. (map node_line_words net.nodes ++ map (fibre_line_words net.nodes) (fibres i))
    ++ map (group_line_words net.fibres) (groups i))
    ∙ append-nil (map node_line_words net.nodes ++ []) ∙ append-nil (map node_line_words net.nodes)))

pub fibre-grows : (net : Network) (f : Fibre) → net.groups ≡ [] →
    (let more : Network = record { nodes = net.nodes; fibres = net.fibres ++ f ∷ []; groups = net.groups } in
    net_words more) ≡ net_words net ++ fibre_line_words net.nodes f ∷ []
fibre-grows net f groups =
    let nodes = map node_line_words net.nodes in
    let words = fibre_line_words net.nodes in
    (λ i. (nodes ++ map words (net.fibres ++ f ∷ [])) ++ map (group_line_words (net.fibres ++ f ∷ [])) (groups i))
    ∙ append-nil (nodes ++ map words (net.fibres ++ f ∷ []))
    ∙ ap (λ (v : List Fields). nodes ++ v) (map-append words net.fibres (f ∷ []))
    ∙ sym (append_assoc nodes (map words net.fibres) (words f ∷ []))
    ∙ ap (λ (v : List Fields). v ++ words f ∷ [])
    (sym ((λ i. (nodes ++ map words net.fibres) ++ map (group_line_words net.fibres) (groups i))
    ∙ append-nil (nodes ++ map words net.fibres)))

pub group-grows : (net : Network) (g : Group) →
    (let more : Network = record { nodes = net.nodes; fibres = net.fibres; groups = net.groups ++ g ∷ [] } in
    net_words more) ≡ net_words net ++ group_line_words net.fibres g ∷ []
group-grows net g =
    let front = map node_line_words net.nodes ++ map (fibre_line_words net.nodes) net.fibres in
    let words = group_line_words net.fibres in
    ap (λ (v : List Fields). front ++ v) (map-append words net.groups (g ∷ []))
    ∙ sym (append_assoc front (map words net.groups) (words g ∷ []))

-- the line `end`
pub end-grows : (far : ℕ) (s : SoFar) → 6 ≤ far → far < 11 →
    lines_at 11 s ≡ lines_at far s ++ (codes "end" ∷ []) ∷ []
unfolding lines_at
end-grows far s least most =
    ap (λ (v : List Fields). v ++ (codes "end" ∷ []) ∷ []) (sym (later_lines far s least most))

-- ---- the ranges

-- with another network in range, all stays in range
pub network-in_range : (s : SoFar) (net : Network) → InRange s → is_graph net ≡ true → InRange (with_network s net)
network-in_range s net r graph = record {
  version = r.version;
  guard = r.guard;
  k = r.k;
  services = r.services;
  journal = r.journal;
  rows = r.rows;
  graph = graph;
}
