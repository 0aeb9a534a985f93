-- The moves that have their batch, fibre by fibre.
use Rattle.std.specs.Prelude.{◌≡◌, ◌≢◌, ◌⊎◌, ℕ, true, List, [], ◌∷◌, ◌++◌, map, Vec, slice_index_or}
use Rattle.std.specs.List.{flat_map}
use Rattle.std.specs.declared.alloc.Global.{Global}
use Rattle.eon_model.specs.Lists.{has_number, IsAmong}
use Rattle.plan_batches.specs.declared.turn.Turn.{Turn}

-- those on the fibre of this number
abbrev pub row : List (Vec Turn Global) → ℕ → List Turn
row rows fibre = slice_index_or (map (λ v. v.items) rows) fibre []

-- those on these fibres, one fibre after the other
abbrev pub turns_on : List (Vec Turn Global) → List ℕ → List Turn
turns_on rows fibres = flat_map (row rows) fibres

abbrev pub AreEmpty : List (Vec Turn Global) → Type 0
AreEmpty rows = (fibre : ℕ) → row rows fibre ≡ []

-- the move stands at the end of those on this fibre, and nothing changed on the others
pub record Gains (old new : List (Vec Turn Global)) (fibre : ℕ) (t : Turn) : Type 0 where
  pub here : row new fibre ≡ row old fibre ++ t ∷ []
  pub others : (f : ℕ) → f ≢ fibre → row new f ≡ row old f

-- the move is among those on each of these fibres, and nothing else is new
pub record GainsOn (old new : List (Vec Turn Global)) (fibres : List ℕ) (t : Turn) : Type 0 where
  pub kept : (f : ℕ) (u : Turn) → IsAmong u (row old f) → IsAmong u (row new f)
  pub there : (f : ℕ) → has_number fibres f ≡ true → IsAmong t (row new f)
  pub from : (f : ℕ) (u : Turn) → IsAmong u (row new f) →
      IsAmong u (row old f) ⊎ ((u ≡ t) × (has_number fibres f ≡ true))
