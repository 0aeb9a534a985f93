-- What a draft stands for, which lines have told it, and what holds of it.
use Rattle.std.specs.Prelude.{◌≡◌, ℕ, ◌-◌, ◌<◌, ◌≤◌, ◌==◌, true, false, nat_lt, List, [], ◌∷◌, ◌++◌, length, map, take, codes, Option, Some, None, option_map, if◌then◌else◌}
use Rattle.std.specs.Fmt.{decimal, signed_decimal}
use Rattle.eon_model.specs.Names.{Name}
use Rattle.eon_model.specs.Grid.{Units, Band, is_band, span_of}
use Rattle.eon_model.specs.Network.{Network, Fibre, Group, name_at, names_of_fibres}
use Rattle.eon_model.specs.Formats.{Format}
use Rattle.eon_model.specs.Numerals.{is_within}
use Rattle.eon_model.specs.NetworkFault.{Fields, last_word}
use Rattle.eon_model.specs.NetworkFault as model
use Rattle.reach_table.specs.Tables.{are_rows}
use Rattle.net_graph.specs.Graph.{is_graph, no_graph}
use Rattle.net_file.specs.declared.draft.Draft.{Draft}
use Rattle.net_file.specs.Told.{word_told}
use Rattle.net_file.specs.Steps.{SoFar, Sheet, parts_of, leaves_room}

-- what a draft has been told
abbrev pub draft_setup : Draft → SoFar
draft_setup d = record {
  version = d.version;
  band = d.band;
  guard = d.table.guard;
  k = d.k;
  services = d.services;
  journal = d.journal;
  formats = d.table.rows;
  network = d.builder;
}

abbrev pub draft_seen : Draft → Sheet
draft_seen d = record { last = option_map word_told d.last; setup = draft_setup d }

abbrev pub no_setup : SoFar
no_setup = record {
  version = 1;
  band = None;
  guard = 0;
  k = 1;
  services = 1;
  journal = 4096;
  formats = [];
  network = no_graph;
}

-- nothing is told
abbrev pub blank : Sheet
blank = record { last = None; setup = no_setup }

-- ---- the lines that have told it

-- a word and its number
abbrev pub number_words : List ℕ → ℕ → Fields
number_words word n = word ∷ decimal n ∷ []

abbrev pub format_line_words : Format → Fields
format_line_words f = codes "format" ∷ f.name ∷ decimal f.reach ∷ decimal f.per ∷ []

abbrev pub node_line_words : Name → Fields
node_line_words name = codes "node" ∷ name ∷ []

abbrev pub fibre_line_words : List Name → Fibre → Fields
fibre_line_words nodes f =
    codes "fibre" ∷ f.name ∷ name_at nodes f.a ∷ name_at nodes f.b ∷ decimal f.km ∷ []

abbrev pub group_line_words : List Fibre → Group → Fields
group_line_words fibres g = codes "group" ∷ g.name ∷ names_of_fibres fibres g.fibres

abbrev pub part_line_words : Units → Fields
part_line_words part = codes "band" ∷ signed_decimal part.lo ∷ signed_decimal part.hi ∷ []

-- the lines with a number behind those of the band
abbrev pub limit_words : SoFar → List Fields
limit_words s =
    number_words (codes "guard") s.guard
    ∷ number_words (codes "k") s.k
    ∷ number_words (codes "services") s.services
    ∷ number_words (codes "journal") s.journal ∷ []

-- how far the text has come
abbrev pub rank : Option model.Word → ℕ
rank None = 0
rank (Some model.Net) = 1
rank (Some model.Band) = 2
rank (Some model.Guard) = 3
rank (Some model.K) = 4
rank (Some model.Services) = 5
rank (Some model.Journal) = 6
rank (Some model.Format) = 7
rank (Some model.Node) = 8
rank (Some model.Fibre) = 9
rank (Some model.Group) = 10
rank (Some model.End) = 11

abbrev pub net_words : Network → List Fields
net_words net =
    (map node_line_words net.nodes ++ map (fibre_line_words net.nodes) net.fibres)
    ++ map (group_line_words net.fibres) net.groups

-- the last line, where the text has come so far
abbrev pub end_words : ℕ → List Fields
end_words far = if nat_lt 10 far then (codes "end" ∷ []) ∷ [] else []

-- the lines before the formats, of a text that has come so far
abbrev pub head_at : ℕ → SoFar → List Fields
head_at far s =
    (take far (number_words (codes "net") s.version ∷ []) ++ map part_line_words (parts_of s.band))
    ++ take (far - 2) (limit_words s)

-- the fields of the lines of a text that has come so far
unfoldable pub lines_at : ℕ → SoFar → List Fields
lines_at far s = ((head_at far s ++ map format_line_words s.formats) ++ net_words s.network) ++ end_words far

-- the fields of the lines that have told the sheet
abbrev pub lines_of : Sheet → List Fields
lines_of s = lines_at (rank s.last) s.setup

-- ---- what holds of it

-- What holds of the parts of a band, in a text of this version that has come so far.
pub record PartsSoFar (far version : ℕ) (band : Band) : Type 0 where
  pub reached : 2 ≤ far
  pub good : is_band band ≡ true
  pub one : (version == 2) ≡ false → length band ≡ 1
  pub more : (version == 2) ≡ true → 3 ≤ far → 2 ≤ length band
  pub room : (version == 2) ≡ true → length band ≡ 1 → leaves_room (span_of band) ≡ true

abbrev pub BandSoFar : ℕ → ℕ → Option Band → Type 0
BandSoFar far version None = far < 2
BandSoFar far version (Some band) = PartsSoFar far version band

-- each number, format, node, fibre and group is in range, though some may be missing
pub record InRange (s : SoFar) : Type 0 where
  pub version : is_within 1 2 s.version ≡ true
  pub guard : s.guard ≤ 64
  pub k : is_within 1 16 s.k ≡ true
  pub services : is_within 1 4096 s.services ≡ true
  pub journal : is_within 4096 67108864 s.journal ≡ true
  pub rows : are_rows s.formats ≡ true
  pub graph : is_graph s.network ≡ true

-- all is in range, and each kind of line has told something exactly where its turn has come
pub record Sound (s : Sheet) : Type 0 where
  pub ranges : InRange s.setup
  pub band : BandSoFar (rank s.last) s.setup.version s.setup.band
  pub no_version : rank s.last < 1 → s.setup.version ≡ 1
  pub last : last_word (lines_of s) ≡ s.last
  pub no_formats : rank s.last < 7 → s.setup.formats ≡ []
  pub no_nodes : rank s.last < 8 → s.setup.network.nodes ≡ []
  pub no_fibres : rank s.last < 9 → s.setup.network.fibres ≡ []
  pub no_groups : rank s.last < 10 → s.setup.network.groups ≡ []
  pub some_formats : 7 ≤ rank s.last → 1 ≤ length s.setup.formats
  pub some_nodes : 8 ≤ rank s.last → 1 ≤ length s.setup.network.nodes
