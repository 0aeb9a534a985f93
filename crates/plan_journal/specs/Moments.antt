-- What a crash may leave while a piece is written or cut, and a journal that is ready.
use Rattle.std.specs.Prelude.{◌≡◌, ℕ, ◌+◌, List, [], ◌∷◌, ◌++◌, length, take, Option, IfSome}
use Rattle.eon_model.specs.Disk.{Torn, Cut, Only, LeavesOnly}

-- one of these images, with n bytes torn from an offset on
abbrev pub IsTornFrom : (List ℕ → Type 0) → ℕ → ℕ → List ℕ → Type 0
IsTornFrom images at n c = (d : List ℕ) × images d × Torn at n d c

-- one of these images, cut to a length in part
abbrev pub IsCutFrom : (List ℕ → Type 0) → ℕ → List ℕ → Type 0
IsCutFrom images n c = (d : List ℕ) × images d × Cut n d c

-- the bytes, where they are told, are those that a crash leaves
abbrev pub IsDurable : Option (List ℕ) → (List ℕ → Type 0) → Type 0
IsDurable now images = IfSome now (λ bytes. Only bytes images)

-- the bytes, where they are told, end with a gate of 0 at p, and are those that a crash leaves
pub record Ends (bytes : List ℕ) (images : List ℕ → Type 0) (p : ℕ) : Type 0 where
  pub long : length bytes ≡ p + 1
  pub closed : bytes ≡ take p bytes ++ 0 ∷ []
  pub durable : Only bytes images

abbrev pub IsReady : Option (List ℕ) → (List ℕ → Type 0) → ℕ → Type 0
IsReady now images p = IfSome now (λ bytes. Ends bytes images p)

-- a call that reads leaves the bytes as they were, and at no moment an image that was none before
pub record OnlyReads {D : Type 0} (now : D → Option (List ℕ)) (images : D → List ℕ → Type 0) (clock : D → ℕ)
    (since : D → ℕ → List ℕ → Type 0) (old new : D) : Type 0 where
  pub same : now new ≡ now old
  pub none_new : (c : List ℕ) → images new c → images old c
  pub moments : LeavesOnly clock since old new (images old)
