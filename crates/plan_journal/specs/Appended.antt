-- What is told of a journal to which an event was to be appended.
use Rattle.std.specs.Prelude.{◌≡◌, ⊤, ℕ, ◌<◌, ◌≤◌, List, ◌∷◌, ◌++◌, take, Result, Ok, Err}
use Rattle.plan_journal.specs.declared.fault.AppendFault.{AppendFault}
use Rattle.plan_journal.specs.declared.fault.AppendFault.TheVariants.{Full, Disk}

-- it is full exactly where more is needed than is left
abbrev pub TellsFull : {T : Type 0} → ℕ → ℕ → Result T AppendFault → Type 0
TellsFull need left (Ok x) = need ≤ left
TellsFull need left (Err (Full n l)) = (left < need) × (n ≡ need) × (l ≡ left)
TellsFull need left (Err Disk) = need ≤ left

-- this holds where it was full
abbrev pub OnFull : {T : Type 0} → Result T AppendFault → Type 0 → Type 0
OnFull (Ok x) P = ⊤
OnFull (Err (Full need left)) P = P
OnFull (Err Disk) P = ⊤

-- the bytes with an open gate at p, and then a record and the next gate
abbrev pub with_record : ℕ → List ℕ → List ℕ → List ℕ
with_record p behind bytes = take p bytes ++ 1 ∷ behind
