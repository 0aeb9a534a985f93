-- What a deck was asked to attach.
use Rattle.std.specs.Prelude.{Bool, ℕ, List, [], ◌∷◌, Option, Some, None}

-- The name of what is attached, and whether it is made where it is not there.
pub record Asked : Type 0 where
  pub name : List ℕ
  pub create : Bool

-- the last of the names, and no byte where there is none
abbrev pub last_name : List (List ℕ) → List ℕ
last_name [] = []
last_name (name ∷ []) = name
last_name (name ∷ next ∷ names) = last_name (next ∷ names)

-- the last request: none where it is not told whether something was to be made
abbrev pub asked_of : Option Bool → List (List ℕ) → Option Asked
asked_of None names = None
asked_of (Some create) names = Some (record { name = last_name names; create = create })
