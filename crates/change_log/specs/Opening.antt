-- What is told of a journal that is opened for changes.
use Rattle.std.specs.Prelude.{◌≡◌, ℕ, ◌+◌, ◌≤◌, List, ◌++◌, length, Option, None, Some, IfSome, Result, Ok, Err}
use Rattle.std.specs.Option.{option_to_list}
use Rattle.eon_model.specs.Services.{State}
use Rattle.eon_model.specs.Legal.{Setup}
use Rattle.eon_model.specs.Events.{Event}
use Rattle.eon_model.specs.Disk.{LeavesOnly}
use Rattle.eon_model.specs.Journal.{written, left_at, kept_digest, bound_digest, Stands}
use Rattle.eon_model.specs.JournalMoments.{HasJournal}
use Rattle.eon_model.specs.Readings.{IsSoundJournal}
use Rattle.eon_model.specs.Replay.{replay}
use Rattle.eon_disk.specs.Asked.{Asked}
use Rattle.journal_replay.specs.Replayed.{IsReplayed}
use Rattle.journal_replay.specs.declared.fault.ReplayFault.{ReplayFault}
use Rattle.plan_journal.specs.declared.place.Place.{Place}
use Rattle.change_log.specs.Holding.{Holds, KeepsOn}
use Rattle.change_log.specs.Crash.{IsSafeSince, IsSafeNow, IsLeftByOpening}

-- These events stood in the journal, which is bound to the network of this digest, and lead to this state. Now the disk holds
-- them, and nothing behind them. As many bytes are left behind this place as behind the events.
pub record Opens (setup : Setup) (bytes own : List ℕ) (state : State) (now : Option (List ℕ)) (images : List ℕ → Type 0)
    (place : Place) : Type 0 where
  pub events : List Event
  pub stands : Stands bytes own setup.journal events place.at
  pub replays : replay setup events ≡ Some state
  pub journal : HasJournal setup (kept_digest bytes) events
  pub holds : Holds now images place (kept_digest bytes) events
  pub left : left_at place.limit place.at ≡ left_at setup.journal (length (written (kept_digest bytes) events))

-- it is opened, or it does not replay
abbrev pub IsOpened : Setup → List ℕ → List ℕ → State → Option (List ℕ) → (List ℕ → Type 0) → Result Place ReplayFault
    → Type 0
IsOpened setup bytes own state now images (Ok place) = Opens setup bytes own state now images place
IsOpened setup bytes own state now images (Err fault) = IsReplayed setup bytes own state 0 (Err fault)

-- ---- a whole call

module _ {D : Type 0} (now : D → Option (List ℕ)) (images : D → List ℕ → Type 0) (clock : D → ℕ)
    (since : D → ℕ → List ℕ → Type 0) where
  -- A call opened a journal with the head's digest and the events of the start, and kept these events, and then perhaps the
  -- one in doubt. The journal stands for all, where none is in doubt. What a crash might have left at any moment is safe. What
  -- it leaves now holds every acknowledged change, where all are but the last one at most, and none that is in doubt.
  pub record LeavesSafely (setup : Setup) (old new : D) (head : List ℕ) (start events : List Event) (doubt : Option Event)
      : Type 0 where
    pub stands : doubt ≡ None → IfSome (now new) (λ bytes. Stands bytes (bound_digest head (start ++ events)) setup.journal
        (start ++ events) (length (written head (start ++ events))))
    pub at_any_time : LeavesOnly clock since old new
        (IsSafeSince setup (images old) start (events ++ option_to_list doubt))
    pub now_left : (acknowledged : ℕ) → acknowledged ≤ length events
        → length (events ++ option_to_list doubt) ≤ acknowledged + 1 → (c : List ℕ) → images new c
        → IsSafeNow setup start (events ++ option_to_list doubt) acknowledged c

  -- It does, where every image at the start was sound, and all its changes have a journal.
  abbrev pub CallsAreSafe : (D → ℕ) → (D → Option Asked) → Type 0
  CallsAreSafe faults asked =
      (setup : Setup) (bytes own : List ℕ) (state : State) (old mid new : D) (place after : Place) (was is : ℕ)
      (events : List Event) (doubt : Option Event) (opens : Opens setup bytes own state (now mid) (images mid) place)
      → ((c : List ℕ) → images old c → IsSoundJournal setup c)
      → LeavesOnly clock since old mid (IsLeftByOpening setup (now old) own (images old))
      → KeepsOn now images clock since faults asked was is mid new place after events doubt
      → HasJournal setup (kept_digest bytes) (opens.events ++ (events ++ option_to_list doubt))
      → LeavesSafely setup old new (kept_digest bytes) opens.events events doubt
