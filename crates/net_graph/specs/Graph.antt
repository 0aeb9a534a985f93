-- What a builder can make, and why it refuses a node, a fibre or a group.
use Rattle.std.specs.Prelude.{ℕ, nat_le, Bool, true, ◌&&◌, ◌||◌, not, List, [], ◌∷◌, ◌++◌, length, Option, Some, None, is_none, count_by, if◌then◌else◌}
use Rattle.std.specs.List.{list_all, list_any}
use Rattle.eon_model.specs.Names.{Name, is_name, is_above, same_name, has_name, ascend}
use Rattle.eon_model.specs.Lists.{has_number}
use Rattle.eon_model.specs.Network.{Network, Fibre, Group, fibre_names, group_names, node_of, fibre_of}
use Rattle.eon_model.specs.NetworkText.{has_fibres, has_groups}
use Rattle.eon_model.specs.Step.{node_numbered, fibres_numbered}
use Rattle.net_graph.specs.declared.graph.GraphFault.{GraphFault}
use Rattle.net_graph.specs.declared.graph.GraphFault.TheVariants.{Many, Order, Unknown, SelfEnd, Twice, Groups}

-- a network with 64 nodes at most, and perhaps none
abbrev pub is_graph : Network → Bool
is_graph net =
    (nat_le (length net.nodes) 64 && list_all is_name net.nodes && ascend net.nodes)
    && has_fibres net && has_groups net

abbrev pub no_graph : Network
no_graph = record { nodes = []; fibres = []; groups = [] }

-- whether the name is above the last of these
abbrev pub comes_after : List Name → Name → Bool
comes_after [] name = true
comes_after (last ∷ []) name = is_above name last
comes_after (first ∷ next ∷ names) name = comes_after (next ∷ names) name

-- ---- nodes

abbrev pub node_fault : Network → Name → Option GraphFault
node_fault net name =
    if nat_le 64 (length net.nodes) then Some Many
    else if not (comes_after net.nodes name) then Some Order
    else None

abbrev pub with_node : Network → Name → Network
with_node net name = record { nodes = net.nodes ++ name ∷ []; fibres = net.fibres; groups = net.groups }

-- ---- fibres

abbrev pub fibre_fault : Network → Name → Name → Name → Option GraphFault
fibre_fault net name a b =
    if nat_le 128 (length net.fibres) then Some Many
    else if not (comes_after (fibre_names net.fibres) name) then Some Order
    else if is_none (node_of net a) || is_none (node_of net b) then Some Unknown
    else if same_name a b then Some SelfEnd
    else None

abbrev pub fibre_between : Network → Name → Name → Name → ℕ → Fibre
fibre_between net name a b km =
    record { name = name; a = node_numbered net a; b = node_numbered net b; km = km }

abbrev pub with_fibre : Network → Fibre → Network
with_fibre net f = record { nodes = net.nodes; fibres = net.fibres ++ f ∷ []; groups = net.groups }

-- ---- groups

-- how many of the groups hold the fibre
abbrev pub holders : List Group → ℕ → ℕ
holders groups fibre = count_by (λ g. has_number g.fibres fibre) groups

abbrev pub group_fault : Network → Name → List Name → Option GraphFault
group_fault net name fibres =
    if nat_le 128 (length net.groups) then Some Many
    else if not (comes_after (group_names net.groups) name && ascend fibres) then Some Order
    else if has_name (fibre_names net.fibres) name then Some Twice
    else if list_any (λ f. is_none (fibre_of net f)) fibres then Some Unknown
    else if list_any (λ i. nat_le 8 (holders net.groups i)) (fibres_numbered net fibres) then Some Groups
    else None

abbrev pub group_named : Network → Name → List Name → Group
group_named net name fibres = record { name = name; fibres = fibres_numbered net fibres }

abbrev pub with_group : Network → Group → Network
with_group net g = record { nodes = net.nodes; fibres = net.fibres; groups = net.groups ++ g ∷ [] }
