-- What is told of a journal that is made ready.
use Rattle.std.specs.Prelude.{ℕ, List, [], ◌∷◌, ◌++◌, take, Option, IfSome}
use Rattle.eon_model.specs.Disk.{Only}
use Rattle.plan_journal.specs.Walked.{IsShut}

-- The bytes have this gate at p, which is not open, and they are those that a crash leaves.
pub record IsRead (bytes : List ℕ) (images : List ℕ → Type 0) (p gate : ℕ) : Type 0 where
  pub shut : IsShut bytes p gate
  pub durable : Only bytes images

abbrev pub WasRead : Option (List ℕ) → (List ℕ → Type 0) → ℕ → ℕ → Type 0
WasRead now images p gate = IfSome now (λ bytes. IsRead bytes images p gate)

-- what stands before p, and a gate of 0
abbrev pub closed_at : ℕ → List ℕ → List ℕ
closed_at p bytes = take p bytes ++ 0 ∷ []
