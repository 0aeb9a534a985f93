-- What is kept of a network, and which network it stands for.
use Rattle.std.specs.Prelude.{◌≡◌, ℕ, ◌+◌, ◌<◌, Bool, true, IsTrue, List, [], ◌∷◌, map, length, slice_get, slice_index_or, nat_le, if◌then◌else◌}
use Rattle.std.specs.List.{list_any}
use Rattle.std.specs.Option.{option_map_or}
use Rattle.std.specs.FinSet as set
use Rattle.eon_model.specs.Names.{Name}
use Rattle.eon_model.specs.Lists.{has_number}
use Rattle.eon_model.specs.Sets.{set_of}
use Rattle.eon_model.specs.Network as model
use Rattle.net_graph.specs.declared.graph.Fibre.{Fibre}
use Rattle.net_graph.specs.declared.graph.FibreRow.{FibreRow}
use Rattle.net_graph.specs.declared.graph.GroupRow.{GroupRow}
use Rattle.net_graph.specs.Graph.{is_graph, holders}

-- the fibre of the network that this one stands for
abbrev pub fibre_seen : Fibre → model.Fibre
fibre_seen f = record { name = f.name; a = f.a; b = f.b; km = f.km }

abbrev pub row_fibre : FibreRow → model.Fibre
row_fibre r = fibre_seen r.fibre

-- the fibres' names
abbrev pub row_names : List FibreRow → List Name
row_names rows = map (λ r. r.fibre.name) rows

abbrev pub group_seen : GroupRow → model.Group
group_seen g = record { name = g.name; fibres = g.fibres.items }

abbrev pub network_of : List Name → List FibreRow → List GroupRow → model.Network
network_of nodes rows groups =
    record { nodes = nodes; fibres = map row_fibre rows; groups = map group_seen groups }

-- the risks kept beside a fibre, and the number of named groups among them, are those of the network
pub record IsCounted (net : model.Network) (i : ℕ) (r : FibreRow) : Type 0 where
  pub risk : r.risk ≡ set_of (model.risks_of_fibre net i)
  pub groups : r.groups ≡ holders net.groups i

pub record IsKept (nodes : List Name) (rows : List FibreRow) (groups : List GroupRow) : Type 0 where
  pub graph : IsTrue (is_graph (network_of nodes rows groups))
  pub counted : (i : ℕ) (d : FibreRow) → i < length rows →
      IsCounted (network_of nodes rows groups) i (slice_index_or rows i d)

-- how many named groups hold the fibre
abbrev pub count_at : List FibreRow → ℕ → ℕ
count_at rows i = option_map_or (λ r. r.groups) (slice_get rows i) 0

-- the row with one more group
abbrev pub row_with : ℕ → FibreRow → FibreRow
row_with risk r = record { fibre = r.fibre; risk = set.insert r.risk risk; groups = r.groups + 1 }

-- the rows, numbered from n on, with one more group for each of these numbers
abbrev pub rows_with : ℕ → List ℕ → ℕ → List FibreRow → List FibreRow
rows_with risk numbers n [] = []
rows_with risk numbers n (r ∷ rows) =
    (if has_number numbers n then row_with risk r else r) ∷ rows_with risk numbers (n + 1) rows

-- each of these fibres is in seven named groups at most
abbrev pub few_groups : List ℕ → List FibreRow → Type 0
few_groups numbers rows = (i : ℕ) (d : FibreRow) → i < length rows → has_number numbers i ≡ true →
    (slice_index_or rows i d).groups < 8

-- whether one of these fibres is in eight named groups
abbrev pub some_full_row : List FibreRow → List ℕ → Bool
some_full_row rows numbers = list_any (λ i. nat_le 8 (count_at rows i)) numbers

-- the numbers of groups kept in the rows are those of these groups
pub record CountsGroups (rows : List FibreRow) (groups : List model.Group) : Type 0 where
  pub at : (i : ℕ) (d : FibreRow) → i < length rows → (slice_index_or rows i d).groups ≡ holders groups i
