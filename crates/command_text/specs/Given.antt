-- What a function answers is what reading answers.
use Rattle.std.specs.Prelude.{◌≡◌, ℕ, List, Result, Ok, Err}
use Rattle.eon_model.specs.Commands.{Demand}
use Rattle.command_text.specs.declared.part.Stuck.{Stuck}
use Rattle.command_text.specs.declared.reading.DemandWords.{DemandWords}
use Rattle.command_text.specs.Reading.{Read}

abbrev pub Gives : {X Y : Type 0} → (X → Y) → Result X Stuck → Result Y ℕ → Type 0
Gives view (Ok x) read = read ≡ Ok (view x)
Gives view (Err stuck) read = read ≡ Err stuck.left

-- the same, where the bytes after the value are these
abbrev pub Leaves : {X Y : Type 0} → (X → Y) → Result X Stuck → List ℕ → Read Y → Type 0
Leaves view (Ok x) rest read = read ≡ Ok (view x, rest)
Leaves view (Err stuck) rest read = read ≡ Err stuck.left

abbrev pub Skips : {X : Type 0} → Result X Stuck → List ℕ → Result (List ℕ) ℕ → Type 0
Skips (Ok x) rest read = read ≡ Ok rest
Skips (Err stuck) rest read = read ≡ Err stuck.left

-- what a service is asked with
abbrev pub told_demand : DemandWords → Demand
told_demand d = record { name = d.name; src = d.src; dst = d.dst; rate = d.rate; class = d.class }
