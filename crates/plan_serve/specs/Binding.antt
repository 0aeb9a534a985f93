-- What is told of a journal that is bound to a wider network: its bytes, and what a crash may leave of them.
use Rattle.std.specs.Prelude.{◌≡◌, ◌≢◌, ◌⊎◌, ⊤, ℕ, ◌+◌, ◌<◌, ◌≤◌, Bool, true, false, List, [], ◌∷◌, ◌++◌, length, Option, Some, IsSome, IsTrue, Result, Ok, Err}
use Rattle.eon_model.specs.Legal.{Setup}
use Rattle.eon_model.specs.Events.{Event}
use Rattle.eon_model.specs.EventText.{is_digest}
use Rattle.eon_model.specs.Disk.{Only}
use Rattle.eon_model.specs.Journal.{record_body, written, journal_of, left_at, kept_digest, Stands}
use Rattle.eon_model.specs.JournalFault.{head_fault, IsKept, IsRefusedAt}
use Rattle.eon_model.specs.JournalMoments.{IsClosing, IsAppending}
use Rattle.eon_model.specs.Replay.{replay}
use Rattle.journal_replay.specs.declared.fault.JournalWhy.TheVariants.{Head}
use Rattle.journal_replay.specs.declared.fault.ReplayFault.{ReplayFault}
use Rattle.journal_replay.specs.declared.fault.ReplayFault.TheVariants as replays
use Rattle.journal_replay.specs.Replayed.{why_told}
use Rattle.plan_journal.specs.declared.fault.OpenFault.{OpenFault}
use Rattle.plan_journal.specs.declared.fault.OpenFault.TheVariants as opens
use Rattle.plan_journal.specs.Prepared.{closed_at}
use Rattle.plan_journal.specs.declared.place.Place.{Place}
use Rattle.plan_serve.specs.declared.status.Status.{Status}
use Rattle.plan_serve.specs.declared.status.Status.TheVariants.{DiskFault, JournalRefused, JournalOther, JournalFull, Memory}

-- ---- statuses

-- that of a journal whose head is not accepted
abbrev pub head_status : OpenFault → Status
head_status (opens.BadHead at) = JournalRefused at Head
head_status (opens.Other kept own) = JournalOther kept own
head_status opens.Disk = DiskFault

-- and of one that does not replay
abbrev pub replay_status : ReplayFault → Status
replay_status (replays.Refused at why) = JournalRefused at why
replay_status (replays.Other kept own) = JournalOther kept own
replay_status replays.Disk = DiskFault
replay_status replays.Memory = Memory

-- ---- the events

-- the journal that these events have once they are followed by a binding to the network of this digest
abbrev pub bound_events : List Event → List ℕ → List Event
bound_events events digest = events ++ Event.Bind digest ∷ []

-- These events stand in the journal, with the last gate at p, and replay.
pub record Replays (setup : Setup) (bytes own : List ℕ) (events : List Event) (p : ℕ) : Type 0 where
  pub stands : Stands bytes own setup.journal events p
  pub replays : IsSome (replay setup events)

-- why a journal is not bound, where nothing was written
abbrev pub IsUnbound : Setup → List ℕ → List ℕ → Status → Type 0
IsUnbound setup bytes own (JournalRefused at why) = IsRefusedAt setup bytes own at (why_told why)
IsUnbound setup bytes own (JournalOther kept mine) = IsKept bytes setup.journal kept × (kept ≢ own) × (mine ≡ own)
IsUnbound setup bytes own Memory = ⊤
IsUnbound setup bytes own _ = ⊥

-- with these statuses a journal is not bound
abbrev pub MayStop : Status → Type 0
MayStop (JournalRefused at why) = ⊤
MayStop (JournalOther kept mine) = ⊤
MayStop (JournalFull need left) = ⊤
MayStop DiskFault = ⊤
MayStop Memory = ⊤
MayStop _ = ⊥

-- ---- its head is examined

-- it is bound to the network of this digest, its head is at fault, or it is another network's
abbrev pub IsAttached : {T : Type 0} → List ℕ → ℕ → List ℕ → Result T Status → Type 0
IsAttached bytes limit own (Ok x) = IsKept bytes limit own
IsAttached bytes limit own (Err (JournalRefused at Head)) = head_fault bytes ≡ Some at
IsAttached bytes limit own (Err (JournalOther kept mine)) = IsKept bytes limit kept × (kept ≢ own) × (mine ≡ own)
IsAttached bytes limit own (Err DiskFault) = ⊤
IsAttached bytes limit own (Err _) = ⊥

-- ---- it is made ready

-- The events replay, and the journal ends behind them with a gate of 0; the next record has this number.
pub record IsMadeReady (setup : Setup) (bytes own : List ℕ) (p number : ℕ) (now : Option (List ℕ)) : Type 0 where
  pub events : List Event
  pub replays : Replays setup bytes own events p
  pub numbered : number ≡ length events + 1
  pub closed : now ≡ Some (closed_at p bytes)

abbrev pub MakesReady : {T : Type 0} → Setup → List ℕ → List ℕ → ℕ → ℕ → Option (List ℕ) → Result T Status → Type 0
MakesReady setup bytes own p number now (Ok x) = IsMadeReady setup bytes own p number now
MakesReady setup bytes own p number now (Err DiskFault) = ⊤
MakesReady setup bytes own p number now (Err status) = (now ≡ Some bytes) × IsUnbound setup bytes own status

abbrev pub OpensReady : Setup → List ℕ → List ℕ → Option (List ℕ) → Result Place Status → Type 0
OpensReady setup bytes own now (Ok place) = IsMadeReady setup bytes own place.at place.number now
OpensReady setup bytes own now (Err DiskFault) = ⊤
OpensReady setup bytes own now (Err status) = (now ≡ Some bytes) × IsUnbound setup bytes own status

-- a crash meanwhile may leave these bytes: the gate behind the events was being closed
abbrev pub IsBeingClosed : Setup → List ℕ → List ℕ → List ℕ → Type 0
IsBeingClosed setup bytes own c =
    (events : List Event) × (p : ℕ) × Replays setup bytes own events p × IsClosing bytes p c

-- ---- it is bound

-- it is full exactly where more is needed than is left
abbrev pub TellsRoom : {T : Type 0} → ℕ → ℕ → Result T Status → Type 0
TellsRoom need left (Ok x) = need ≤ left
TellsRoom need left (Err (JournalFull n l)) = (left < need) × (n ≡ need) × (l ≡ left)
TellsRoom need left (Err DiskFault) = need ≤ left
TellsRoom need left (Err _) = ⊥

-- this holds where it was full
abbrev pub OnFull : {T : Type 0} → Result T Status → Type 0 → Type 0
OnFull (Err (JournalFull need left)) P = P
OnFull _ P = ⊤

-- The events replay, and the journal is theirs and that of the binding; a crash leaves nothing else.
pub record IsBound (setup : Setup) (bytes own digest : List ℕ) (now : Option (List ℕ)) (images : List ℕ → Type 0) : Type 0 where
  pub events : List Event
  pub place : ℕ
  pub replays : Replays setup bytes own events place
  pub digest_good : IsTrue (is_digest digest)
  pub room : 40 ≤ left_at setup.journal place
  pub bytes_now : now ≡ Some (journal_of (kept_digest bytes) (bound_events events digest))
  pub durable : Only (journal_of (kept_digest bytes) (bound_events events digest)) images

-- The events replay, and fewer than the 40 bytes of the binding are left behind them. The journal is that of the events.
pub record IsFull (setup : Setup) (bytes own : List ℕ) (need left : ℕ) (now : Option (List ℕ)) : Type 0 where
  pub events : List Event
  pub place : ℕ
  pub replays : Replays setup bytes own events place
  pub needed : need ≡ 40
  pub left_is : left ≡ left_at setup.journal place
  pub few : left < 40
  pub bytes_now : now ≡ Some (journal_of (kept_digest bytes) events)

-- what came of it
abbrev pub Binds : {T : Type 0} → Setup → List ℕ → List ℕ → List ℕ → Option (List ℕ) → (List ℕ → Type 0) → Result T Status
    → Type 0
Binds setup bytes own digest now images (Ok x) = IsBound setup bytes own digest now images
Binds setup bytes own digest now images (Err DiskFault) = ⊤
Binds setup bytes own digest now images (Err (JournalFull need left)) = IsFull setup bytes own need left now
Binds setup bytes own digest now images (Err status) = (now ≡ Some bytes) × IsUnbound setup bytes own status

-- while the binding is appended
abbrev pub IsBeingBound : Setup → List ℕ → List ℕ → List ℕ → List ℕ → Type 0
IsBeingBound setup bytes own digest c =
    (events : List Event) × (p : ℕ) × Replays setup bytes own events p
    × (40 ≤ left_at setup.journal p)
    × IsAppending (written (kept_digest bytes) events) (record_body (length events + 1) (Event.Bind digest)) c

-- What a crash may leave at any moment: what it might have left at the start; or what it may leave while the gate behind the
-- events is closed, or while the binding is appended.
abbrev pub IsLeftBinding : Setup → List ℕ → List ℕ → List ℕ → (List ℕ → Type 0) → List ℕ → Type 0
IsLeftBinding setup bytes own digest images c =
    images c ⊎ (IsBeingClosed setup bytes own c ⊎ IsBeingBound setup bytes own digest c)

-- ---- faults

-- whether a call of the disk failed
abbrev pub disk_failed : {T : Type 0} → Result T Status → Bool
disk_failed (Err DiskFault) = true
disk_failed (Err _) = false
disk_failed (Ok x) = false
