-- Walks over free fibres, and what is known of the least lengths of those to a target.
use Rattle.std.specs.Prelude.{◌≡◌, ℕ, ◌+◌, ◌<◌, ◌≤◌, Bool, true, false, ◌&&◌, not, nat_lt, List, length, sum, slice_index, slice_set, Some, if◌then◌else◌}
use Rattle.eon_model.specs.Network.{Network, fibre_at}
use Rattle.net_graph.specs.Walks.{node_after}

-- whether a walk may take the fibre: it is not banned, and none of its ends is closed
abbrev pub is_free : Network → (ℕ → Bool) → (ℕ → Bool) → ℕ → Bool
is_free net banned closed i =
    (not (banned i) && not (closed (fibre_at net.fibres i).a)) && not (closed (fibre_at net.fibres i).b)

-- the length of the fibre
abbrev pub km_at : Network → ℕ → ℕ
km_at net i = (fibre_at net.fibres i).km

-- the distances, with that of the node over this many km to the next one, where it is shorter
abbrev pub shortened : List ℕ → ℕ → ℕ → ℕ → List ℕ
shortened away node next km =
    if nat_lt (slice_index away next + km) (slice_index away node)
    then slice_set away node (slice_index away next + km) else away

module _ (net : Network) (banned closed : ℕ → Bool) where
  -- the fibre is free, and leads from the node to the next one
  pub record Leads (node i next : ℕ) : Type 0 where
    pub free : is_free net banned closed i ≡ true
    pub to : node_after net.fibres node i ≡ Some next

  -- by this fibre the distances from both ends are at most one fibre apart
  abbrev pub IsRelaxed : ℕ → List ℕ → Type 0
  IsRelaxed i away = (node next : ℕ) → Leads node i next →
      slice_index away node ≤ slice_index away next + km_at net i

  -- a free fibre leads on to a node from which it is so much nearer
  pub record GoesOn (away : List ℕ) (node : ℕ) : Type 0 where
    pub fibre : ℕ
    pub next : ℕ
    pub leads : Leads node fibre next
    pub nearer : slice_index away next + km_at net fibre ≤ slice_index away node

  -- Each distance within the limit is that of the target, which is none, or goes on over a fibre.
  pub record Reached (t max_km : ℕ) (away : List ℕ) : Type 0 where
    pub long : length away ≡ 64
    pub most : (node : ℕ) → slice_index away node ≤ max_km + 1
    pub target : slice_index away t ≡ 0
    pub on : (node : ℕ) → node < 64 → (node ≡ t → ⊥) → slice_index away node ≤ max_km → GoesOn away node

  -- and by all fibres they are at most one fibre apart
  pub record Settled (t max_km : ℕ) (away : List ℕ) : Type 0 where
    pub reached : Reached t max_km away
    pub apart : (i : ℕ) → i < length net.fibres → IsRelaxed i away

  -- Distances that were shortened, or were as these fibres allow.
  pub record Rounds (t max_km : ℕ) (Done : List ℕ → Type 0) (old fresh : List ℕ) (shorter : Bool) : Type 0 where
    pub reached : Reached t max_km fresh
    pub still : shorter ≡ false → (fresh ≡ old) × Done old
    pub less : shorter ≡ true → sum fresh < sum old

  -- No distance is longer than it was, and by these fibres each is at most one fibre more than the next one was.
  pub record Lowers (Done : ℕ → Type 0) (old fresh : List ℕ) : Type 0 where
    pub lower : (node : ℕ) → slice_index fresh node ≤ slice_index old node
    pub over : (i : ℕ) → Done i → (node next : ℕ) → Leads node i next →
        slice_index fresh node ≤ slice_index old next + km_at net i
