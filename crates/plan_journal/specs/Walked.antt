-- What stands at a gate of a journal, as it is read.
use Rattle.std.specs.Prelude.{◌≡◌, ◌≢◌, ⊤, ℕ, ◌<◌, ◌≤◌, List, length, slice_index, IsTrue}
use Rattle.eon_model.specs.EventText.{room_for, is_event}
use Rattle.eon_model.specs.JournalFault.{HasRecord, IsBadRecord}
use Rattle.journal_record.specs.Told.{event_told}
use Rattle.plan_journal.specs.declared.walk.Walked.{Walked}
use Rattle.plan_journal.specs.declared.walk.Walked.TheVariants.{Record, Gate, Bad}

-- a gate that is not open
pub record IsShut (bytes : List ℕ) (p gate : ℕ) : Type 0 where
  pub there : p < length bytes
  pub is : slice_index bytes p ≡ gate
  pub shut : gate ≢ 1

-- the whole record of an event behind an open gate, a gate that is not open, or neither
abbrev pub Stands : List ℕ → ℕ → ℕ → ℕ → Walked → Type 0
Stands bytes limit p number (Record event taken) =
    HasRecord bytes limit p number (event_told event) × (taken ≡ room_for (event_told event))
Stands bytes limit p number (Gate gate) = IsShut bytes p gate
Stands bytes limit p number Bad = IsBadRecord bytes limit p number

-- what the record of the event takes, and there are so many bytes
abbrev pub HasRoom : ℕ → Walked → Type 0
HasRoom left (Record event taken) =
    (taken ≡ room_for (event_told event)) × (taken ≤ left) × IsTrue (is_event (event_told event))
HasRoom left (Gate gate) = ⊤
HasRoom left Bad = ⊤
