-- What a call of `init` and of `replay` read, wrote and kept, for each status with which it ends.
use Rattle.std.specs.Prelude.{◌≡◌, ◌≢◌, ◌⊎◌, ℕ, ◌<◌, List, [], ◌∷◌, ◌++◌, length, codes, Bool, true, false, Option, Some, IfSome}
use Rattle.std.specs.Io.KnownBytes.{Appends, Keeps}
use Rattle.eon_model.specs.Services.{State}
use Rattle.eon_model.specs.Legal.{Setup, Legal}
use Rattle.eon_model.specs.Events.{Event}
use Rattle.eon_model.specs.Disk.{Only}
use Rattle.eon_model.specs.Journal.{journal_of, Stands}
use Rattle.eon_model.specs.JournalFault.{IsKept, IsRefusedAt}
use Rattle.eon_model.specs.Replay.{replay}
use Rattle.std.specs.Fmt.{decimal}
use Rattle.eon_model.specs.Replies.{Reply}
use Rattle.eon_model.specs.ReplyText.{reply_text}
use Rattle.eon_model.specs.Spelling.{line}
use Rattle.eon_model.specs.TopLines.{init_line, replay_text, journal_fault_line, journal_other_line, journal_notempty_line}
use Rattle.eon_outside.specs.Faults.{counted}
use Rattle.eon_outside.specs.Reading.{NamedFiles}
use Rattle.eon_outside.specs.Writing.{AppendsPart}
use Rattle.journal_replay.specs.Replayed.{why_told}
use Rattle.plan_journal.specs.Moments.{IsTornFrom}
use Rattle.plan_serve.specs.declared.status.Status.{Status}
use Rattle.plan_serve.specs.declared.status.Status.TheVariants.{Done, DiskFault, JournalRefused, JournalOther, NotEmpty, Memory, WriteFault}
use Rattle.plan_serve.specs.Files.{IsDigestedFile}
use Rattle.plan_serve.specs.Outside.{Outside, Output, output_of, DiskSeen}
use Rattle.plan_serve.specs.Ends.{GivesLine, EndsAtNetwork}

-- ---- a text that is all that a mode writes

-- how the giving of a text ends: at `Done` it was given whole, and at `WriteFault` one write failed, and a front of it was given
abbrev pub Tells : List ℕ → Output → Output → Status → Type 0
Tells text before now Done = Appends before.given now.given text × (now.faults ≡ before.faults)
Tells text before now WriteFault = AppendsPart before.given now.given text × (now.faults ≡ counted before.faults)
Tells text before now _ = ⊥

-- nothing was given
abbrev pub SaysNothing : Output → Output → Type 0
SaysNothing before now = (now.faults ≡ before.faults) × Keeps before.given now.given

-- nothing was given but this line, or a front of it
abbrev pub SaysLine : List ℕ → Output → Output → Type 0
SaysLine line before now = GivesLine line before.given now.given before.faults now.faults

-- ---- the network, and the journal

-- the network alone was opened, and could be read
abbrev pub ReadsOnly : List ℕ → Outside → Outside → Type 0
ReadsOnly net before now =
    (now.opened ≡ before.opened ++ net ∷ []) × (now.read_faults ≡ before.read_faults)

-- the file of this name is the text of a network, and so it went over that network and the digest of the file
abbrev pub OverDigested : Option NamedFiles → List ℕ → (Setup → List ℕ → Type 0) → Type 0
OverDigested files net P =
    (setup : Setup) × (digest : List ℕ) × IsDigestedFile files net setup digest × P setup digest

-- the journal of this name was asked for, to be made where it is not there if `create` says so
abbrev pub AsksFor : List ℕ → Bool → DiskSeen → Type 0
AsksFor journal create new = new.asked ≡ Some (record { name = journal; create = create })

-- so it was, and no call of the disk failed
abbrev pub Attaches : List ℕ → Bool → DiskSeen → DiskSeen → Type 0
Attaches journal create old new = AsksFor journal create new × (new.faults ≡ old.faults)

-- so it was, and one call failed
abbrev pub FaultsDisk : List ℕ → Bool → DiskSeen → DiskSeen → Type 0
FaultsDisk journal create old new = AsksFor journal create new × (new.faults ≡ counted old.faults)

-- nothing was asked of the disk
abbrev pub AsksNothing : DiskSeen → DiskSeen → Type 0
AsksNothing old new = (new.asked ≡ old.asked) × (new.faults ≡ old.faults) × (new.bytes ≡ old.bytes)

-- A mode over a journal. It comes no further than the network, and asks nothing of the disk; or the network is accepted,
-- and it ends as it says over that network.
abbrev pub EndsOver : List ℕ → Outside → Outside → DiskSeen → DiskSeen → Status → (Setup → List ℕ → Type 0) → Type 0
EndsOver net before now old new status P =
    (AsksNothing old new × EndsAtNetwork net before now status)
    ⊎ (ReadsOnly net before now × OverDigested before.files net P)

-- ---- `init`

-- The disk had no bytes, and now it has the journal of this digest without events, and a crash leaves nothing else.
abbrev pub MakesJournal : List ℕ → DiskSeen → DiskSeen → Type 0
MakesJournal digest old new =
    IfSome old.bytes (λ bytes. (bytes ≡ []) × (new.bytes ≡ Some (journal_of digest []))
    × Only (journal_of digest []) new.images)

-- it had so many, and has them still
abbrev pub KeepsBytes : ℕ → DiskSeen → DiskSeen → Type 0
KeepsBytes len old new =
    IfSome old.bytes (λ bytes. (len ≡ length bytes) × (0 < len) × (new.bytes ≡ Some bytes))

-- over a network of this digest
abbrev pub MakeEnds : List ℕ → List ℕ → Output → Output → DiskSeen → DiskSeen → Status → Type 0
MakeEnds digest journal before now old new (NotEmpty len) =
    Attaches journal true old new × KeepsBytes len old new × SaysLine (journal_notempty_line len) before now
MakeEnds digest journal before now old new DiskFault = FaultsDisk journal true old new × SaysNothing before now
MakeEnds digest journal before now old new status =
    Attaches journal true old new × MakesJournal digest old new × Tells init_line before now status

-- `init NET JOURNAL`
abbrev pub InitEnds : List ℕ → List ℕ → Outside → Outside → DiskSeen → DiskSeen → Status → Type 0
InitEnds net journal before now old new status =
    EndsOver net before now old new status
    (λ setup digest. MakeEnds digest journal (output_of before) (output_of now) old new status)

-- ---- `replay`

-- These events lead to this legal state. Where the disk tells its bytes, they are those that stand in the journal, which is
-- bound to the network of this digest.
pub record LeadsTo (setup : Setup) (digest : List ℕ) (bytes : Option (List ℕ)) (events : List Event) (state : State)
    : Type 0 where
  pub legal : Legal setup state
  pub stands : IfSome bytes (λ b. (p : ℕ) × Stands b digest setup.journal events p × (replay setup events ≡ Some state))

-- it leads to some state, and the text of that is told
abbrev pub TellsReplay : Setup → List ℕ → Option (List ℕ) → Output → Output → Status → Type 0
TellsReplay setup digest bytes before now status =
    (events : List Event) × (state : State) × LeadsTo setup digest bytes events state
    × Tells (replay_text setup events state) before now status

-- over this network, whose file has this digest
abbrev pub TellEnds : Setup → List ℕ → List ℕ → Output → Output → DiskSeen → DiskSeen → Status → Type 0
TellEnds setup digest journal before now old new (JournalRefused at why) =
    Attaches journal false old new × IfSome old.bytes (λ bytes. IsRefusedAt setup bytes digest at (why_told why))
    × SaysLine (journal_fault_line at (why_told why)) before now
TellEnds setup digest journal before now old new (JournalOther kept own) =
    Attaches journal false old new
    × IfSome old.bytes (λ bytes. IsKept bytes setup.journal kept × (kept ≢ digest) × (own ≡ digest))
    × SaysLine (journal_other_line kept own) before now
TellEnds setup digest journal before now old new DiskFault = FaultsDisk journal false old new × SaysNothing before now
TellEnds setup digest journal before now old new Memory =
    (AsksNothing old new ⊎ Attaches journal false old new) × SaysNothing before now
TellEnds setup digest journal before now old new status =
    Attaches journal false old new × TellsReplay setup digest old.bytes before now status

-- `replay NET JOURNAL`: with every status the disk reads as before
abbrev pub ReplayEnds : List ℕ → List ℕ → Outside → Outside → DiskSeen → DiskSeen → Status → Type 0
ReplayEnds net journal before now old new status =
    (new.bytes ≡ old.bytes)
    × EndsOver net before now old new status
    (λ setup digest. TellEnds setup digest journal (output_of before) (output_of now) old new status)

-- the first line of that text, for so many events
abbrev pub count_line : ℕ → List ℕ
count_line count = line (codes "replay" ∷ decimal count ∷ [])

-- so many events and this list were told, or there was no memory for the text
abbrev pub TellsCount : Setup → State → ℕ → Output → Output → Status → Type 0
TellsCount setup state count before now Memory = now ≡ before
TellsCount setup state count before now status =
    Tells (count_line count ++ reply_text setup state Reply.List) before now status

-- ---- what a crash may leave

-- bytes that a crash might have left at the start, and for `init` behind an accepted network those that one may leave
-- while a journal is written over them
abbrev pub MayBeMade : Status → (List ℕ → Type 0) → List ℕ → Type 0
MayBeMade Done images = IsTornFrom images 0 41
MayBeMade WriteFault images = IsTornFrom images 0 41
MayBeMade DiskFault images = IsTornFrom images 0 41
MayBeMade _ images = images
