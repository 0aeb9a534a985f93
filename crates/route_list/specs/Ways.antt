-- Least ways to a target, by the distances from it.
use Rattle.std.specs.Prelude.{◌≡◌, ℕ, ◌+◌, ◌==◌, ◌<◌, Bool, true, false, ◌&&◌, List, [], ◌∷◌, length, slice_index, Option, Some, None}
use Rattle.std.specs.Option.{option_map_or}
use Rattle.eon_model.specs.Network.{Network}
use Rattle.net_graph.specs.Walks.{node_after}
use Rattle.route_list.specs.Distance.{is_free, km_at}

module _ (net : Network) (banned closed : ℕ → Bool) (away : List ℕ) where
  -- whether a free fibre leads on to a node that is nearer by its length
  abbrev pub keeps_to : ℕ → ℕ → Bool
  keeps_to node i = is_free net banned closed i
      && option_map_or (λ next. slice_index away next + km_at net i == slice_index away node)
      (node_after net.fibres node i) false

  -- it is the first such fibre, or there is none
  abbrev pub IsFirstKeeping : ℕ → Option ℕ → Type 0
  IsFirstKeeping node None = (i : ℕ) → i < length net.fibres → keeps_to node i ≡ false
  IsFirstKeeping node (Some i) =
      (i < length net.fibres) × (keeps_to node i ≡ true) × ((j : ℕ) → j < i → keeps_to node j ≡ false)

  -- these fibres lead from the node to the target, each the first that leads on so
  abbrev pub IsLeastWay : ℕ → ℕ → List ℕ → Type 0
  IsLeastWay t node [] = node ≡ t
  IsLeastWay t node (i ∷ is) =
      (node ≡ t → ⊥) × IsFirstKeeping node (Some i)
      × ((next : ℕ) → node_after net.fibres node i ≡ Some next → IsLeastWay t next is)
