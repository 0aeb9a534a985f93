-- Names with a comma between two of them.
use Rattle.std.specs.Prelude.{ℕ, zero, suc, List, [], ◌∷◌}

-- a comma, but before the first name
unfoldable pub comma_at : ℕ → List ℕ
comma_at zero = []
comma_at (suc n) = 44 ∷ []
