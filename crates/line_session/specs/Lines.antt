-- The lines of a stream that ended.
use Rattle.std.specs.Prelude.{◌≡◌, ℕ, ◌==◌, ⊤, Bool, not, IsTrue, List, [], ◌∷◌, ◌++◌, Option, None, Some, if◌then◌else◌}
use Rattle.std.specs.List.{list_all, list_any, flat_map}
use Rattle.eon_model.specs.LineStream.{is_quit}
use Rattle.eon_model.specs.NetworkFault as network

abbrev pub before_some : ℕ → List ℕ → List ℕ
before_some b [] = []
before_some b (next ∷ bytes) = b ∷ next ∷ bytes

-- the bytes up to the last byte 10, with it
abbrev pub whole_lines : List ℕ → List ℕ
whole_lines [] = []
whole_lines (b ∷ bytes) = if b == 10 then b ∷ whole_lines bytes else before_some b (whole_lines bytes)

abbrev pub has_no_end : List ℕ → Bool
has_no_end bytes = list_all (λ b. not (b == 10)) bytes

-- these bytes are still to come of the open file
abbrev pub IsLeft : Option (List ℕ) → List ℕ → Type 0
IsLeft None rest = ⊤
IsLeft (Some left) rest = left ≡ rest

-- whether a `quit` line ends in these bytes
abbrev pub quits_within : List ℕ → Bool
quits_within bytes = list_any is_quit (network.whole_lines bytes).0

-- More than a command line has: a line is told by so many of its first bytes.
abbrev pub most_kept : ℕ
most_kept = 4097

-- how many bytes of a stream are read at a time
abbrev pub most_read : ℕ
most_read = 65536

-- the lines, each with its byte 10
abbrev pub ended : List (List ℕ) → List ℕ
ended lines = flat_map (λ l. l ++ 10 ∷ []) lines

-- The bytes are these lines, each with its byte 10, and a rest.
pub record Splits (bytes : List ℕ) (lines : List (List ℕ)) (rest : List ℕ) : Type 0 where
  pub whole : bytes ≡ ended lines ++ rest
  pub each : IsTrue (list_all has_no_end lines)
