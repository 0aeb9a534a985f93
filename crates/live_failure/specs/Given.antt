-- What a function answers is what reading answers.
use Rattle.std.specs.Prelude.{◌≡◌, ℕ, List, Result, Ok, Err}
use Rattle.command_text.specs.Reading.{Read}
use Rattle.live_failure.specs.declared.part.Stuck.{Stuck}

abbrev pub Gives : {X Y : Type 0} → (X → Y) → Result X Stuck → Result Y ℕ → Type 0
Gives view (Ok x) read = read ≡ Ok (view x)
Gives view (Err stuck) read = read ≡ Err stuck.left

-- the same, where the bytes after the value are these
abbrev pub Leaves : {X Y : Type 0} → (X → Y) → Result X Stuck → List ℕ → Read Y → Type 0
Leaves view (Ok x) rest read = read ≡ Ok (view x, rest)
Leaves view (Err stuck) rest read = read ≡ Err stuck.left
