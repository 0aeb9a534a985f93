-- What a call of `live` or `room` read, wrote and asked of the disk, for each status with which it ends. Both answer the lines of a
-- stream over the state that a journal leads to, and never write to the disk.
use Rattle.std.specs.Prelude.{false, ◌≡◌, ◌≢◌, ◌⊎◌, ⊤, ℕ, ◌≤◌, ◌+◌, List, [], ◌∷◌, ◌++◌, length, Option, Some, None, IfSome, IsSomeAnd, Result, Ok, Err}
use Rattle.std.specs.Io.KnownBytes.{Keeps}
use Rattle.eon_model.specs.Services.{State}
use Rattle.eon_model.specs.Legal.{Setup}
use Rattle.eon_model.specs.Events.{Event}
use Rattle.eon_model.specs.Journal.{Stands}
use Rattle.eon_model.specs.JournalFault.{IsKept, IsRefusedAt}
use Rattle.eon_model.specs.LineStream.{Replies}
use Rattle.eon_model.specs.LiveStep.{LiveAnswer}
use Rattle.eon_model.specs.Replay.{replay}
use Rattle.eon_outside.specs.Faults.{Standing, counted}
use Rattle.eon_outside.specs.Reading.{NamedFiles}
use Rattle.eon_outside.specs.WholeFile.{IsFile}
use Rattle.journal_replay.specs.Replayed.{why_told}
use Rattle.line_session.specs.Answering.{Answering}
use Rattle.line_session.specs.Ends.{AnswersStream}
use Rattle.line_session.specs.Lines.{IsLeft}
use Rattle.line_session.specs.declared.session.Outcome.{Outcome}
use Rattle.line_session.specs.declared.session.Outcome.TheVariants as outcome
use Rattle.live_failure.specs.Setting.{live_by}
use Rattle.plan_core.specs.Seen.{CoreSeen}
use Rattle.plan_serve.specs.declared.status.Status.{Status}
use Rattle.plan_serve.specs.declared.status.Status.TheVariants.{Done, NetRefused, NetLong, ReadFault, DiskFault, JournalRefused, JournalOther, Memory, WriteFault, InputLong}
use Rattle.plan_serve.specs.Files.{IsDigestedFile, IsNotRead}
use Rattle.plan_serve.specs.Status.{own_line}
use Rattle.plan_serve.specs.Outside.{Outside, NoFault, DiskSeen}
use Rattle.plan_serve.specs.Ends.{Says, EndsAtNetwork}
use Rattle.plan_serve.specs.JournalEnds.{OverDigested, Attaches, FaultsDisk, AsksNothing, LeadsTo}
use Rattle.plan_serve.specs.MigrateEnds.{behind}

-- ---- the state that a journal leads to

-- why it is not reached over this network, whose file has this digest, and what was asked of the disk
abbrev pub IsNotReached : Setup → List ℕ → List ℕ → DiskSeen → DiskSeen → Status → Type 0
IsNotReached setup digest journal old new (JournalRefused at why) =
    Attaches journal false old new × IfSome old.bytes (λ bytes. IsRefusedAt setup bytes digest at (why_told why))
IsNotReached setup digest journal old new (JournalOther kept own) =
    Attaches journal false old new
    × IfSome old.bytes (λ bytes. IsKept bytes setup.journal kept × (kept ≢ digest) × (own ≡ digest))
IsNotReached setup digest journal old new DiskFault = FaultsDisk journal false old new
IsNotReached setup digest journal old new Memory = AsksNothing old new ⊎ Attaches journal false old new
IsNotReached setup digest journal old new _ = ⊥

-- the journal leads to this state: its events, where the disk tells its bytes
abbrev pub IsLed : Setup → List ℕ → List ℕ → DiskSeen → DiskSeen → State → Type 0
IsLed setup digest journal old new state =
    Attaches journal false old new × (events : List Event)
    × IfSome old.bytes (λ b. (p : ℕ) × Stands b digest setup.journal events p × (replay setup events ≡ Some state))

-- a machine over this network follows it, or that is the status with which the call ends
abbrev pub FollowsTo : {T : Type 0} → Setup → List ℕ → List ℕ → DiskSeen → DiskSeen → CoreSeen → Result T Status → Type 0
FollowsTo setup digest journal old new core (Ok x) = (core.setup ≡ setup) × IsLed setup digest journal old new core.state
FollowsTo setup digest journal old new core (Err status) = IsNotReached setup digest journal old new status

-- the same, of a machine that is made
abbrev pub ReachesState : Setup → List ℕ → List ℕ → DiskSeen → DiskSeen → Result CoreSeen Status → Type 0
ReachesState setup digest journal old new (Ok core) = (core.setup ≡ setup) × IsLed setup digest journal old new core.state
ReachesState setup digest journal old new (Err status) = IsNotReached setup digest journal old new status

-- The network of this name was read, and a machine stands over it where the journal leads. Or that is the status with which the call
-- ends: then the network was not read, and nothing was asked of the disk, or it was read, and the state is not reached.
abbrev pub OpensState : List ℕ → List ℕ → Option NamedFiles → ℕ → ℕ → DiskSeen → DiskSeen → Result CoreSeen Status → Type 0
OpensState net journal files before now old new (Ok core) =
    (now ≡ before) × (digest : List ℕ) × IsDigestedFile files net core.setup digest
    × IsLed core.setup digest journal old new core.state
OpensState net journal files before now old new (Err status) =
    (AsksNothing old new × IsNotRead files net before now status)
    ⊎ ((now ≡ before) × OverDigested files net (λ setup digest. IsNotReached setup digest journal old new status))

-- ---- the stream

-- the status with which a call ends whose stream ended so
abbrev pub status_behind : Outcome → Status
status_behind outcome.Done = Done
status_behind outcome.ReadFault = ReadFault
status_behind outcome.WriteFault = WriteFault
status_behind outcome.DiskFault = DiskFault
status_behind outcome.InputLong = InputLong

-- Below, `Went` says of some answers that they were carried out, and then perhaps of one that it was carried out or not.
module _ {S A : Type 0} (by : Answering S A) (Went : List A → Option A → Type 0) (start : S) where
  -- how the answers to the stream of this name end
  abbrev pub OverStream : List ℕ → Outside → Outside → Outcome → Type 0
  OverStream commands before now ended =
      AnswersStream by Went (IsFile before.files commands) start now.left before.given now.given ended

  -- The stream of this name was to be answered: which file was opened, what was read and given, and how many calls failed. Where
  -- reading failed, it was in the stream, or at its opening. Where there was no memory, it was not opened.
  abbrev pub AsksStream : List ℕ → Outside → Outside → Status → Type 0
  AsksStream commands before now Memory =
      (now.opened ≡ before.opened) × NoFault before now × Keeps before.given now.given
  AsksStream commands before now ReadFault =
      (now.opened ≡ before.opened ++ commands ∷ []) × (now.read_faults ≡ counted before.read_faults)
      × (now.write_faults ≡ before.write_faults)
      × ((IsLeft now.left [] × Keeps before.given now.given) ⊎ OverStream commands before now outcome.ReadFault)
  AsksStream commands before now WriteFault =
      (now.opened ≡ before.opened ++ commands ∷ []) × (now.read_faults ≡ before.read_faults)
      × (now.write_faults ≡ counted before.write_faults) × OverStream commands before now outcome.WriteFault
  AsksStream commands before now Done =
      (now.opened ≡ before.opened ++ commands ∷ []) × NoFault before now × OverStream commands before now outcome.Done
  AsksStream commands before now InputLong =
      (now.opened ≡ before.opened ++ commands ∷ []) × NoFault before now × OverStream commands before now outcome.InputLong
  AsksStream commands before now DiskFault =
      (now.opened ≡ before.opened ++ commands ∷ []) × NoFault before now × OverStream commands before now outcome.DiskFault
  AsksStream commands before now _ = ⊥

-- ---- the mode

-- of a mode that keeps nothing, no answer is ever in doubt
abbrev pub NoneInDoubt : {A : Type 0} → List A → Option A → Type 0
NoneInDoubt answers doubt = doubt ≡ None

-- Below, the lines are answered so over a network and a state, from this start on.
module _ {S A : Type 0} (by : Setup → State → Answering S A) (start : S) where
  -- over this network, whose file has this digest: the state is not reached, and no line is answered; or the lines are answered
  -- over it
  abbrev pub AskOver : Setup → List ℕ → List ℕ → List ℕ → Outside → Outside → DiskSeen → DiskSeen → Status → Type 0
  AskOver setup digest journal commands before now old new status =
      ((now.opened ≡ before.opened) × (now.read_faults ≡ before.read_faults)
      × IsNotReached setup digest journal old new status × Says (own_line status) before now)
      ⊎ (Attaches journal false old new × (events : List Event) × (state : State)
      × LeadsTo setup digest old.bytes events state × AsksStream (by setup state) NoneInDoubt start commands before now status)

  -- `MODE NET JOURNAL COMMANDS`: with every status the disk reads as before. It comes no further than the network, and asks nothing of
  -- the disk; or the network is accepted, and it ends as it says over that network.
  abbrev pub AskEnds : List ℕ → List ℕ → List ℕ → Outside → Outside → DiskSeen → DiskSeen → Status → Type 0
  AskEnds net journal commands before now old new status =
      (new.bytes ≡ old.bytes)
      × ((AsksNothing old new × EndsAtNetwork net before now status)
      ⊎ OverDigested before.files net
      (λ setup digest. AskOver setup digest journal commands (behind net before) now old new status))

-- how the live mode answers over a network and a state
abbrev pub live_on : Setup → State → Answering (Option ℕ) LiveAnswer
live_on setup state = live_by (record { network = setup.network; state = state })

-- ---- when nothing is in the way

-- the network is refused: no call of the disk is made
abbrev pub RefusesNetwork : Status → Type 0
RefusesNetwork (NetRefused number why) = ⊤
RefusesNetwork NetLong = ⊤
RefusesNetwork _ = ⊥

-- that is the status with which the call ends
abbrev pub IsRefused : {T : Type 0} → Result T Status → Type 0
IsRefused (Ok x) = ⊥
IsRefused (Err status) = RefusesNetwork status

-- The sink is sure of room for the output of each run over these files and this disk, behind what it was given.
abbrev pub HasRoomToAsk : {S A : Type 0} → (Setup → State → Answering S A) → S → List ℕ → List ℕ → Option NamedFiles
    → Option (List ℕ) → Option (List ℕ) → Standing → Type 0
HasRoomToAsk by start net commands files disk given standing =
    IsSomeAnd given (λ bytes. (setup : Setup) (digest : List ℕ) (events : List Event) (state : State)
    (stream missed output : List ℕ) → IsDigestedFile files net setup digest → LeadsTo setup digest disk events state
    → IsFile files commands stream → Replies (by setup state).machine start stream missed output
    → IsSomeAnd standing.room (λ room. length bytes + length output ≤ room))
