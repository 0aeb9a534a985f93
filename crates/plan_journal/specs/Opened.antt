-- What is told of a journal that is opened.
use Rattle.std.specs.Prelude.{◌≡◌, ◌≢◌, ⊤, ℕ, ◌+◌, Bool, true, false, List, Option, Some, None, IfSome, Result, Ok, Err}
use Rattle.eon_model.specs.EventText.{room_for}
use Rattle.eon_model.specs.Journal.{kept_digest}
use Rattle.eon_model.specs.JournalFault.{head_fault, HasRecord, IsBadRecord, IsKept}
use Rattle.plan_journal.specs.declared.fault.OpenFault.{OpenFault}
use Rattle.plan_journal.specs.declared.fault.OpenFault.TheVariants.{BadHead, Other, Disk}
use Rattle.plan_journal.specs.declared.fault.NextFault.{NextFault}
use Rattle.plan_journal.specs.declared.fault.NextFault.TheVariants as next
use Rattle.plan_journal.specs.declared.walk.Kept.{Kept}
use Rattle.journal_record.specs.Told.{event_told}
use Rattle.plan_journal.specs.Walked.{IsShut}

-- the digest that is kept in a whole head, or the first place of a head at fault
abbrev pub IsHead : List ℕ → Result (List ℕ) OpenFault → Type 0
IsHead bytes (Ok kept) = (head_fault bytes ≡ None) × (kept ≡ kept_digest bytes)
IsHead bytes (Err (BadHead at)) = head_fault bytes ≡ Some at
IsHead bytes (Err (Other kept own)) = ⊥
IsHead bytes (Err Disk) = ⊤

-- it is bound to the network of this digest, its head is at fault, or it is another network's
abbrev pub IsExamined : {T : Type 0} → List ℕ → ℕ → List ℕ → Result T OpenFault → Type 0
IsExamined bytes limit own (Ok x) = IsKept bytes limit own
IsExamined bytes limit own (Err (BadHead at)) = head_fault bytes ≡ Some at
IsExamined bytes limit own (Err (Other kept mine)) = IsKept bytes limit kept × (kept ≢ own) × (mine ≡ own)
IsExamined bytes limit own (Err Disk) = ⊤

-- What is read next at a gate, and where the journal goes on: the record of an event and the place behind it, a gate that
-- is not open, or a bad record.
abbrev pub IsNext : List ℕ → ℕ → ℕ → ℕ → Option ℕ → Result (Option Kept) NextFault → Type 0
IsNext bytes limit p number gate (Ok (Some kept)) =
    (kept.at ≡ p) × HasRecord bytes limit p number (event_told kept.event)
IsNext bytes limit p number gate (Ok None) = IfSome gate (IsShut bytes p)
IsNext bytes limit p number gate (Err (next.BadRecord at)) = (at ≡ p) × IsBadRecord bytes limit p number
IsNext bytes limit p number gate (Err next.Disk) = ⊤

-- the gate and the number of the next record go behind the record of an event, and stay where there is none
abbrev pub IsBehind : ℕ → ℕ → ℕ → ℕ → Result (Option Kept) NextFault → Type 0
IsBehind p number after next (Ok (Some kept)) = (after ≡ p + room_for (event_told kept.event)) × (next ≡ number + 1)
IsBehind p number after next (Ok None) = (after ≡ p) × (next ≡ number)
IsBehind p number after next (Err fault) = (after ≡ p) × (next ≡ number)

-- a gate was read just where none other than 1 comes next
abbrev pub has_ended : Result (Option Kept) NextFault → Bool
has_ended (Ok None) = true
has_ended (Ok (Some kept)) = false
has_ended (Err fault) = false
