-- A sink that holds bytes back for the one below it.
use Rattle.std.specs.Prelude.{◌≡◌, ℕ, ◌<◌, List, [], ◌∷◌, ◌++◌, length, take, drop, bytes_eq, Option, Some, None, Result, Ok, Err, if◌then◌else◌}
use Rattle.std.specs.Io.KnownBytes.{Appends}
use Rattle.eon_outside.specs.Faults.{Standing}

-- the standing of a sink that gives to another one, through this reference, and holds bytes back behind that one
abbrev pub standing_over : ℕ → ℕ → Standing → Standing
standing_over reference held below = record below { through = reference ∷ held ∷ below.through }

-- What was given in all: to the sink below, and held back for it. It is told where the sink below tells what it was
-- given, and that begins with what it had at the start.
abbrev pub given_since : Option (List ℕ) → Option (List ℕ) → List ℕ → Option (List ℕ)
given_since None below held = None
given_since (Some start) None held = None
given_since (Some start) (Some below) held = if bytes_eq (take (length start) below) start then Some (below ++ held) else None

-- What was held was given to the sink below, or only a front of it, and the rest is still held.
abbrev pub Flushes : {T E : Type 0} → Option (List ℕ) → Option (List ℕ) → List ℕ → List ℕ → Result T E → Type 0
Flushes old new held left (Ok _) = Appends old new held × (left ≡ [])
Flushes old new held left (Err _) = (n : ℕ) × (n < length held) × Appends old new (take n held) × (left ≡ drop n held)
