-- What a sink takes of a piece.
use Rattle.std.specs.Prelude.{ℕ, ◌<◌, ◌≤◌, List, length, take, Option, Result, IfOk, Ok, Err}
use Rattle.std.specs.Io.KnownBytes.{Appends}

-- no more than the piece, and some of a piece that is not empty
abbrev pub TakesSome : {E : Type 0} → Result ℕ E → List ℕ → Type 0
TakesSome result piece = IfOk result (λ n. (n ≤ length piece) × (0 < length piece → 0 < n))

-- the bytes grew by the front of the piece alone, and not by all of it
abbrev pub AppendsPart : Option (List ℕ) → Option (List ℕ) → List ℕ → Type 0
AppendsPart old new piece = (n : ℕ) × (n < length piece) × Appends old new (take n piece)

-- the bytes grew by the piece, or by the front of so many of its bytes, and not by all of it
abbrev pub AppendsFront : {T : Type 0} → Option (List ℕ) → Option (List ℕ) → List ℕ → Result T ℕ → Type 0
AppendsFront old new piece (Ok _) = Appends old new piece
AppendsFront old new piece (Err n) = (n < length piece) × Appends old new (take n piece)
