-- What a cursor has left, and what a reader gives of it.
use Rattle.std.specs.Prelude.{ℕ, Bool, true, false, ◌&&◌, List, [], ◌∷◌, slice_get, Option}
use Rattle.std.specs.Option.{option_and_then}

-- what a reader gives of the first of these
abbrev pub first_read : {X A : Type 0} → (X → Option A) → List X → Option A
first_read read items = option_and_then read (slice_get items 0)

abbrev pub is_nil : {X : Type 0} → List X → Bool
is_nil [] = true
is_nil (x ∷ xs) = false

-- of whole lines and what stands behind them, nothing is left
abbrev pub has_nothing : List (List ℕ) × List ℕ → Bool
has_nothing (lines, rest) = is_nil lines && is_nil rest
