-- What a log over the journal of a disk keeps, and what a crash may leave of it.
use Rattle.std.specs.Prelude.{◌≡◌, ℕ, ◌+◌, List, ◌++◌, length, Option, Some, None, is_some}
use Rattle.std.specs.Option.{option_to_list}
use Rattle.eon_model.specs.Events.{Event}
use Rattle.eon_model.specs.Disk.{Only, LeavesOnly}
use Rattle.eon_model.specs.Journal.{written, journal_of}
use Rattle.eon_model.specs.JournalMoments.{IsLeft}
use Rattle.eon_disk.specs.Asked.{Asked}
use Rattle.plan_journal.specs.Faults.{counted_if}
use Rattle.plan_journal.specs.declared.place.Place.{Place}

-- ---- one moment

-- The disk's bytes are the journal of these events, with this digest in its head, and a crash leaves nothing else. The next
-- record goes behind them.
pub record Holds (now : Option (List ℕ)) (images : List ℕ → Type 0) (place : Place) (head : List ℕ) (events : List Event)
    : Type 0 where
  pub digest : length head ≡ 32
  pub bytes : now ≡ Some (journal_of head events)
  pub durable : Only (journal_of head events) images
  pub at : place.at ≡ length (written head events)
  pub number : place.number ≡ length events + 1

-- ---- a run

-- A crash while these changes were appended, one after the other, behind the events of the start may leave these bytes: the
-- journal of the start and first changes, or while the next one is appended.
pub record IsLeftWithin (head : List ℕ) (start changes : List Event) (c : List ℕ) : Type 0 where
  pub appended : List Event
  pub next : Option Event
  pub later : List Event
  pub are : changes ≡ (appended ++ option_to_list next) ++ later
  pub left : IsLeft head (start ++ appended) next c

-- A journal that held the events of the start had these appended, and then one that is in doubt, if there is one. A crash
-- now leaves the journal of all without that one, or what is left while it is appended; and a crash on the way there left no
-- more than what is left while all of them are appended.
pub record Appends {D : Type 0} (now : D → Option (List ℕ)) (images : D → List ℕ → Type 0) (clock : D → ℕ)
    (since : D → ℕ → List ℕ → Type 0) (old new : D) (after : Place) (head : List ℕ) (start events : List Event)
    (doubt : Option Event) : Type 0 where
  pub holds : doubt ≡ None → Holds (now new) (images new) after head (start ++ events)
  pub left : (c : List ℕ) → images new c → IsLeft head (start ++ events) doubt c
  pub moments : LeavesOnly clock since old new (IsLeftWithin head start (events ++ option_to_list doubt))

-- Over one disk, which is told by its reference and by its state, these events were kept, and then perhaps the one in doubt.
pub record KeepsOn {D : Type 0} (now : D → Option (List ℕ)) (images : D → List ℕ → Type 0) (clock : D → ℕ)
    (since : D → ℕ → List ℕ → Type 0) (faults : D → ℕ) (asked : D → Option Asked) (was is : ℕ) (old new : D)
    (before after : Place) (events : List Event) (doubt : Option Event) : Type 0 where
  pub same_reference : is ≡ was
  pub limit : after.limit ≡ before.limit
  pub appends : (head : List ℕ) (start : List Event) → Holds (now old) (images old) before head start
      → Appends now images clock since old new after head start events doubt
  pub counts : faults new ≡ counted_if (is_some doubt) (faults old)
  pub asked_same : asked new ≡ asked old
