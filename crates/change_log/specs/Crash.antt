-- What a crash may leave of a journal to which a run's changes are kept, as the readers of the journal see it.
use Rattle.std.specs.Prelude.{◌≡◌, ◌⊎◌, ℕ, ◌+◌, ◌≤◌, List, ◌++◌, length, Option, Some, IfSome}
use Rattle.std.specs.Option.{option_to_list}
use Rattle.eon_model.specs.Legal.{Setup}
use Rattle.eon_model.specs.Events.{Event}
use Rattle.eon_model.specs.Disk.{LeavesOnly}
use Rattle.eon_model.specs.Journal.{written, bound_digest, Stands}
use Rattle.eon_model.specs.Readings.{IsReading, IsSoundJournal}
use Rattle.eon_model.specs.JournalMoments.{HasJournal, IsClosing, IsStartAnd, HoldsAcknowledged}
use Rattle.plan_journal.specs.declared.place.Place.{Place}
use Rattle.change_log.specs.Holding.{Holds, Appends}

-- ---- one image

-- It is sound, and each reading is one of an image that there was before.
pub record IsSafeBefore (setup : Setup) (was : List ℕ → Type 0) (c : List ℕ) : Type 0 where
  pub sound : IsSoundJournal setup c
  pub readings : (reading : List Event) → IsReading setup c reading → (d : List ℕ) × was d × IsReading setup d reading

-- It is sound, and each reading is one of an image that there was before, or the events of the start and then first
-- changes.
pub record IsSafeSince (setup : Setup) (was : List ℕ → Type 0) (start changes : List Event) (c : List ℕ) : Type 0 where
  pub sound : IsSoundJournal setup c
  pub readings : (reading : List Event) → IsReading setup c reading
      → ((d : List ℕ) × was d × IsReading setup d reading) ⊎ ((count : ℕ) × IsStartAnd start changes count reading)

-- It is sound, and each reading is the events of the start and then first changes: every acknowledged one, and at most one
-- other.
pub record IsSafeNow (setup : Setup) (start changes : List Event) (acknowledged : ℕ) (c : List ℕ) : Type 0 where
  pub sound : IsSoundJournal setup c
  pub readings : (reading : List Event) → IsReading setup c reading → HoldsAcknowledged start changes acknowledged reading

-- ---- opening

-- A crash while a journal is opened may leave what it might have left before, or what is left while the gate behind its
-- events is closed.
abbrev pub IsLeftByOpening : Setup → Option (List ℕ) → List ℕ → (List ℕ → Type 0) → List ℕ → Type 0
IsLeftByOpening setup now digest was c =
    was c
    ⊎ ((bytes : List ℕ) × (events : List Event) × (p : ℕ) × (now ≡ Some bytes)
    × Stands bytes digest setup.journal events p × IsClosing bytes p c)

-- ---- over any disk

module _ {D : Type 0} (now : D → Option (List ℕ)) (images : D → List ℕ → Type 0) (clock : D → ℕ)
    (since : D → ℕ → List ℕ → Type 0) where
  -- What is left while a journal is opened is safe, where each image before was sound.
  abbrev pub OpeningIsSafe : Type 0
  OpeningIsSafe =
      (setup : Setup) (digest : List ℕ) (old new : D) → ((c : List ℕ) → images old c → IsSoundJournal setup c)
      → LeavesOnly clock since old new (IsLeftByOpening setup (now old) digest (images old))
      → LeavesOnly clock since old new (IsSafeBefore setup (images old))

  -- And so is what a crash leaves now.
  abbrev pub OpeningIsSafeNow : Type 0
  OpeningIsSafeNow =
      (setup : Setup) (digest : List ℕ) (old new : D) → ((c : List ℕ) → images old c → IsSoundJournal setup c)
      → LeavesOnly clock since old new (IsLeftByOpening setup (now old) digest (images old))
      → (c : List ℕ) → images new c → IsSafeBefore setup (images old) c

  -- Of a journal that held the events of the start some were appended, and then perhaps one in doubt: what a crash leaves
  -- now holds every change that is acknowledged, where all are but the last one at most, and none that is in doubt.
  abbrev pub KeptIsSafeNow : Type 0
  KeptIsSafeNow =
      (old new : D) (after : Place) (setup : Setup) (head : List ℕ) (start events : List Event) (doubt : Option Event)
      (acknowledged : ℕ)
      → let changes = events ++ option_to_list doubt in
      Appends now images clock since old new after head start events doubt → HasJournal setup head (start ++ changes)
      → acknowledged ≤ length events → length changes ≤ acknowledged + 1
      → (c : List ℕ) → images new c → IsSafeNow setup start changes acknowledged c

  -- And what it leaves at any moment since an earlier one is safe, if it was up to where the keeping began.
  abbrev pub KeptIsSafeSince : Type 0
  KeptIsSafeSince =
      (first old new : D) (after : Place) (setup : Setup) (head : List ℕ) (start events : List Event)
      (doubt : Option Event)
      → let changes = events ++ option_to_list doubt in
      LeavesOnly clock since first old (IsSafeBefore setup (images first))
      → Appends now images clock since old new after head start events doubt → HasJournal setup head (start ++ changes)
      → LeavesOnly clock since first new (IsSafeSince setup (images first) start changes)

  -- A journal that holds events that have one stands for them, and what a crash leaves is sound and read as them alone.
  abbrev pub HeldIsRead : Type 0
  HeldIsRead =
      (disk : D) (setup : Setup) (place : Place) (head : List ℕ) (events : List Event)
      → Holds (now disk) (images disk) place head events → HasJournal setup head events
      → IfSome (now disk) (λ bytes. Stands bytes (bound_digest head events) setup.journal events (length (written head events)))
      × ((c : List ℕ) → images disk c → IsSoundJournal setup c
      × ((reading : List Event) → IsReading setup c reading → reading ≡ events))
