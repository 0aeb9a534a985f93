-- What is read at the front of some bytes: a value and the bytes after it, or how many bytes are left from
-- the place on where no text of its kind goes on.
use Rattle.std.specs.Prelude.{ℕ, ◌==◌, Bool, List, [], ◌∷◌, length, Result, Ok, Err, if◌then◌else◌}

abbrev pub Read : Type 0 → Type 0
Read A = Result (A × List ℕ) ℕ

infixl 10 ◌>>=◌
abbrev pub ◌>>=◌ : {A B : Type 0} → Result A ℕ → (A → Result B ℕ) → Result B ℕ
(Ok x) >>= f = f x
(Err left) >>= f = Err left

-- the bytes after this word
unfoldable pub after : List ℕ → List ℕ → Result (List ℕ) ℕ
after [] bytes = Ok bytes
after (w ∷ word) [] = Err 0
after (w ∷ word) (b ∷ bytes) = if b == w then after word bytes else Err (length (b ∷ bytes))

-- Texts that are read byte by byte: whether a text goes on with this byte, what is known then, and whether it
-- may end.
pub record Scan (S : Type 0) : Type 0 where
  pub may : S → ℕ → Bool
  pub next : S → ℕ → S
  pub whole : S → Bool

-- where the text ends, or no text goes on
abbrev pub settle : {S : Type 0} → Scan S → S → List ℕ → Read S
settle scan s rest = if scan.whole s then Ok (s, rest) else Err (length rest)

-- as far as some text goes on
unfoldable pub munch : {S : Type 0} → Scan S → S → List ℕ → Read S
munch scan s [] = settle scan s []
munch scan s (b ∷ bytes) = if scan.may s b then munch scan (scan.next s b) bytes else settle scan s (b ∷ bytes)
