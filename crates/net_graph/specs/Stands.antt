-- Walks from a node, fibre by fibre, and where they stand.
use Rattle.std.specs.Prelude.{ℕ, List, [], ◌∷◌, Option, Some, None, if◌then◌else◌}
use Rattle.std.specs.Option.{option_and_then}
use Rattle.std.specs.FinSet.{empty, insert}
use Rattle.eon_model.specs.Sets.{NumberSet, has_member}
use Rattle.eon_model.specs.Network.{Fibre}
use Rattle.net_graph.specs.Walks.{node_after}
use Rattle.net_graph.specs.declared.walk.Stand.{Stand}

-- at this node, before the first fibre
abbrev pub start : ℕ → Stand
start node = record { node = node; visited = insert empty node }

-- at a node that is new
abbrev pub arrive : NumberSet → ℕ → Option Stand
arrive visited next =
    if has_member visited next then None else Some (record { node = next; visited = insert visited next })

-- one fibre further
abbrev pub moved : List Fibre → Stand → ℕ → Option Stand
moved fibres stand fibre = option_and_then (arrive stand.visited) (node_after fibres stand.node fibre)

-- where the walk of these fibres stands, if they lead on and visit no node twice
abbrev pub stand_after : List Fibre → Stand → List ℕ → Option Stand
stand_after fibres stand [] = Some stand
stand_after fibres stand (i ∷ is) = option_and_then (λ next. stand_after fibres next is) (moved fibres stand i)
