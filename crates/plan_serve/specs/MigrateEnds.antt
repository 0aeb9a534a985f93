-- What a call of `migrate` read, wrote and kept, for each status with which it ends.
use Rattle.std.specs.Prelude.{◌≡◌, ◌≢◌, ◌⊎◌, ⊤, ℕ, false, List, [], ◌∷◌, ◌++◌, Option, Some, None, IfSome, Result, Ok, Err}
use Rattle.std.specs.Io.KnownBytes.{Keeps}
use Rattle.eon_model.specs.Services.{State}
use Rattle.eon_model.specs.Legal.{Setup}
use Rattle.eon_model.specs.Events.{Event}
use Rattle.eon_model.specs.Disk.{Only}
use Rattle.eon_model.specs.Journal.{journal_of, kept_digest, Stands}
use Rattle.eon_model.specs.JournalFault.{IsKept, IsRefusedAt}
use Rattle.eon_model.specs.Readings.{IsReading, IsSoundJournal}
use Rattle.eon_model.specs.Replay.{replay}
use Rattle.eon_model.specs.Wider.{first_narrower, Widens}
use Rattle.eon_model.specs.TopLines.{migrate_line, next_fault_line, next_long_line, narrower_line, journal_fault_line, journal_other_line, journal_full_line}
use Rattle.eon_outside.specs.Faults.{counted}
use Rattle.eon_outside.specs.Reading.{NamedFiles}
use Rattle.journal_replay.specs.Replayed.{why_told as journal_why_told}
use Rattle.net_file.specs.Told.{why_told}
use Rattle.net_widening.specs.Told.{wide_told}
use Rattle.plan_serve.specs.declared.status.Status.{Status}
use Rattle.plan_serve.specs.declared.status.Status.TheVariants.{NetRefused, NetLong, NextRefused, NextLong, NotWider, ReadFault, DiskFault, JournalRefused, JournalOther, JournalFull, Memory}
use Rattle.plan_serve.specs.Files.{IsAcceptedFile, IsRefusedFile, IsLongFile, IsDigestedFile}
use Rattle.plan_serve.specs.Outside.{Outside, Output, output_of, DiskSeen}
use Rattle.plan_serve.specs.Ends.{Says, EndsAtNetwork}
use Rattle.plan_serve.specs.JournalEnds.{Tells, SaysNothing, SaysLine, ReadsOnly, OverDigested, Attaches, FaultsDisk, AsksNothing}
use Rattle.plan_serve.specs.Binding.{bound_events, IsFull}

-- ---- the journal

-- These events stood in the journal, and led to this state. It is the journal of them and of the binding now, and a crash leaves
-- nothing else; it is bound to the wider network, and leads there to the same state.
pub record IsMigrated (net next : Setup) (own digest bytes : List ℕ) (now : Option (List ℕ)) (images : List ℕ → Type 0)
    : Type 0 where
  pub events : List Event
  pub state : State
  pub place : ℕ
  pub end : ℕ
  pub stands : Stands bytes own net.journal events place
  pub replays : replay net events ≡ Some state
  pub bytes_now : now ≡ Some (journal_of (kept_digest bytes) (bound_events events digest))
  pub durable : Only (journal_of (kept_digest bytes) (bound_events events digest)) images
  pub stands_now : Stands (journal_of (kept_digest bytes) (bound_events events digest)) digest next.journal
      (bound_events events digest) end
  pub replays_now : replay next (bound_events events digest) ≡ Some state

-- nothing of it was changed
abbrev pub IsSame : DiskSeen → DiskSeen → Type 0
IsSame old new = IfSome old.bytes (λ bytes. new.bytes ≡ Some bytes)

-- over a network and a wider one, whose files have these digests
abbrev pub BindEnds : Setup → Setup → List ℕ → List ℕ → List ℕ → Output → Output → DiskSeen → DiskSeen → Status → Type 0
BindEnds net next own digest journal before now old new (JournalRefused at why) =
    Attaches journal false old new × IsSame old new
    × IfSome old.bytes (λ bytes. IsRefusedAt net bytes own at (journal_why_told why))
    × SaysLine (journal_fault_line at (journal_why_told why)) before now
BindEnds net next own digest journal before now old new (JournalOther kept mine) =
    Attaches journal false old new × IsSame old new
    × IfSome old.bytes (λ bytes. IsKept bytes net.journal kept × (kept ≢ own) × (mine ≡ own))
    × SaysLine (journal_other_line kept mine) before now
BindEnds net next own digest journal before now old new (JournalFull needed left) =
    Attaches journal false old new × IfSome old.bytes (λ bytes. IsFull net bytes own needed left new.bytes)
    × SaysLine (journal_full_line needed left) before now
BindEnds net next own digest journal before now old new DiskFault =
    FaultsDisk journal false old new × SaysNothing before now
BindEnds net next own digest journal before now old new Memory =
    (AsksNothing old new ⊎ (Attaches journal false old new × IsSame old new)) × SaysNothing before now
BindEnds net next own digest journal before now old new status =
    Attaches journal false old new
    × IfSome old.bytes (λ bytes. IsMigrated net next own digest bytes new.bytes new.images)
    × Tells migrate_line before now status

-- ---- the wider network

-- the status of a network that is not read, where the journal is to be bound to it
abbrev pub next_status : Status → Status
next_status (NetRefused number why) = NextRefused number why
next_status NetLong = NextLong
next_status status = status

-- it is narrower than this setup, and first in this
abbrev pub IsNarrowerIn : Option NamedFiles → Setup → List ℕ → Status → Type 0
IsNarrowerIn files setup next (NotWider what) =
    (wider : Setup) × IsAcceptedFile files next wider × (first_narrower setup wider ≡ Some (wide_told what))
IsNarrowerIn files setup next _ = ⊥

-- why the journal is not bound to the network of this name, and the count of faults before and after
abbrev pub IsNotWider : Option NamedFiles → Setup → List ℕ → ℕ → ℕ → Status → Type 0
IsNotWider files setup next before now (NextRefused number why) =
    (now ≡ before) × IsRefusedFile files next number (why_told why)
IsNotWider files setup next before now NextLong = (now ≡ before) × IsLongFile files next
IsNotWider files setup next before now (NotWider what) =
    (now ≡ before) × IsNarrowerIn files setup next (NotWider what)
IsNotWider files setup next before now Memory = now ≡ before
IsNotWider files setup next before now ReadFault = now ≡ counted before
IsNotWider files setup next before now _ = ⊥

-- it widens this setup, and its file has this digest; or that is the status with which the call ends
abbrev pub ReadsWider : Option NamedFiles → Setup → List ℕ → ℕ → ℕ → Result (List ℕ) Status → Type 0
ReadsWider files setup next before now (Ok digest) =
    (now ≡ before) × (wider : Setup) × IsDigestedFile files next wider digest × Widens setup wider
ReadsWider files setup next before now (Err status) = IsNotWider files setup next before now status

-- how a call ends that comes no further than the wider network
abbrev pub EndsAtNext : Setup → List ℕ → Outside → Outside → Status → Type 0
EndsAtNext setup next before now (NextRefused number why) =
    ReadsOnly next before now × IsRefusedFile before.files next number (why_told why)
    × Says (next_fault_line number (why_told why)) before now
EndsAtNext setup next before now NextLong =
    ReadsOnly next before now × IsLongFile before.files next × Says next_long_line before now
EndsAtNext setup next before now (NotWider what) =
    ReadsOnly next before now × IsNarrowerIn before.files setup next (NotWider what)
    × Says (narrower_line (wide_told what)) before now
EndsAtNext setup next before now ReadFault =
    (now.opened ≡ before.opened ++ next ∷ []) × (now.read_faults ≡ counted before.read_faults)
    × (now.write_faults ≡ before.write_faults) × Keeps before.given now.given
EndsAtNext setup next before now Memory = ReadsOnly next before now × SaysNothing (output_of before) (output_of now)
EndsAtNext setup next before now _ = ⊥

-- over this network, whose file has this digest: it comes no further than the wider one, and asks nothing of the disk; or that is
-- accepted and widens it
abbrev pub NextEnds : Setup → List ℕ → List ℕ → List ℕ → Outside → Outside → DiskSeen → DiskSeen → Status → Type 0
NextEnds setup own next journal before now old new status =
    (AsksNothing old new × EndsAtNext setup next before now status)
    ⊎ (ReadsOnly next before now
    × OverDigested before.files next (λ wider digest. Widens setup wider
    × BindEnds setup wider own digest journal (output_of before) (output_of now) old new status))

-- once the network of this name was read; what was left of its file does not matter
abbrev pub behind : List ℕ → Outside → Outside
behind net before = record {
  files = before.files;
  opened = before.opened ++ net ∷ [];
  left = None;
  given = before.given;
  read_faults = before.read_faults;
  write_faults = before.write_faults;
}

-- the same at the end
abbrev pub at_end : Outside → Outside
at_end now = record {
  files = now.files;
  opened = now.opened;
  left = None;
  given = now.given;
  read_faults = now.read_faults;
  write_faults = now.write_faults;
}

-- `migrate NET NEXT JOURNAL`
abbrev pub MigrateEnds : List ℕ → List ℕ → List ℕ → Outside → Outside → DiskSeen → DiskSeen → Status → Type 0
MigrateEnds net next journal before now old new status =
    (AsksNothing old new × EndsAtNetwork net before now status)
    ⊎ OverDigested before.files net
    (λ setup own. NextEnds setup own next journal (behind net before) (at_end now) old new status)

-- ---- what a crash may leave

-- a network was not read, or is refused: no call of the disk was made
abbrev pub StopsEarly : Status → Type 0
StopsEarly (NetRefused number why) = ⊤
StopsEarly NetLong = ⊤
StopsEarly (NextRefused number why) = ⊤
StopsEarly NextLong = ⊤
StopsEarly (NotWider what) = ⊤
StopsEarly ReadFault = ⊤
StopsEarly _ = ⊥

-- The bytes are sound on both networks. On either, each reading is one of the journal at the start, or the events that stood in
-- it, or these and the binding.
pub record IsSafelyBound (net next : Setup) (own digest journal c : List ℕ) : Type 0 where
  pub events : List Event
  pub place : ℕ
  pub stands : Stands journal own net.journal events place
  pub sound : IsSoundJournal net c
  pub sound_next : IsSoundJournal next c
  pub readings : (reading : List Event) → IsReading net c reading ⊎ IsReading next c reading
      → IsReading net journal reading ⊎ ((reading ≡ events) ⊎ (reading ≡ bound_events events digest))

-- It might have left these bytes at the start; or they are sound on both networks, where those of the journal were.
abbrev pub IsLeftSafely : Setup → Setup → List ℕ → List ℕ → List ℕ → (List ℕ → Type 0) → List ℕ → Type 0
IsLeftSafely net next own digest journal images c =
    images c ⊎ (IsSoundJournal net journal → IsSafelyBound net next own digest journal c)

-- the file of this name is a network that widens this one, and so it is over that network
abbrev pub MayBeBoundFrom : Setup → List ℕ → Option NamedFiles → List ℕ → List ℕ → (List ℕ → Type 0) → List ℕ → Type 0
MayBeBoundFrom setup own files next journal images c =
    images c ⊎ OverDigested files next (λ wider digest. Widens setup wider
    × (IsSoundJournal setup journal → IsSafelyBound setup wider own digest journal c))

-- and the file of that name is this one
abbrev pub MayBeBound : Option NamedFiles → List ℕ → List ℕ → List ℕ → (List ℕ → Type 0) → List ℕ → Type 0
MayBeBound files net next journal images c =
    images c ⊎ OverDigested files net (λ setup own. OverDigested files next (λ wider digest. Widens setup wider
    × (IsSoundJournal setup journal → IsSafelyBound setup wider own digest journal c)))
