-- The whole call: how it ends, by what the words ask for, and when it is done.
use Rattle.std.specs.Prelude.{◌≡◌, ◌≢◌, ◌⊎◌, ℕ, ◌+◌, ◌≤◌, ⊤, false, List, [], length, Option, Some, None, IsSome, IsSomeAnd}
use Rattle.std.specs.FinMap.{get}
use Rattle.std.specs.Io.KnownBytes.{Keeps}
use Rattle.eon_model.specs.Services.{State}
use Rattle.eon_model.specs.Legal.{Setup}
use Rattle.eon_model.specs.Events.{Event}
use Rattle.eon_model.specs.Modes.{Task, is_long_stream}
use Rattle.eon_model.specs.Modes.Task.{Dry, Init, Replay, Drive, Migrate, Live}
use Rattle.eon_model.specs.TopLines.{usage_line, init_line, replay_text, migrate_line}
use Rattle.eon_model.specs.Journal.{left_at, Stands}
use Rattle.eon_model.specs.DriveSummary.{Drives}
use Rattle.eon_model.specs.Replay.{replay}
use Rattle.eon_model.specs.Run.{Runs}
use Rattle.eon_model.specs.Wider.{Widens}
use Rattle.eon_model.specs.Later.{later_line}
use Rattle.eon_outside.specs.Faults.{Standing, counted}
use Rattle.eon_outside.specs.Reading.{NamedFiles}
use Rattle.eon_outside.specs.WholeFile.{IsFile}
use Rattle.plan_serve.specs.declared.status.Status.{Status}
use Rattle.plan_serve.specs.declared.status.Status.TheVariants.{Words, NetRefused, NetLong, ReadFault, Memory, Later}
use Rattle.eon_model.specs.Answers.{Answers}
use Rattle.plan_serve.specs.AskEnds.{AskEnds, RefusesNetwork, HasRoomToAsk, live_on}
use Rattle.plan_serve.specs.Files.{IsAcceptedFile, IsDigestedFile}
use Rattle.plan_serve.specs.Outside.{Outside, DiskSeen, NotRead}
use Rattle.plan_serve.specs.Ends.{Says, DryEnds}
use Rattle.plan_serve.specs.Driving.{DriveEnds}
use Rattle.plan_serve.specs.JournalEnds.{InitEnds, ReplayEnds, LeadsTo, MayBeMade}
use Rattle.plan_serve.specs.MigrateEnds.{MigrateEnds, StopsEarly, MayBeBound}

-- ---- how it ends

-- nothing was done but to write this line
abbrev pub SaysOnly : List ℕ → Outside → Outside → Type 0
SaysOnly line before now = NotRead before now × Says line before now

-- there was no memory before anything was done
abbrev pub DoesNothing : Outside → Outside → Type 0
DoesNothing before now =
    NotRead before now × (now.write_faults ≡ before.write_faults) × Keeps before.given now.given

-- How a call ends, by what the words ask for: the usage line where they ask for nothing, and `later` for a mode that is
-- not built.
abbrev pub Ends : Option Task → Outside → Outside → DiskSeen → DiskSeen → Status → Type 0
Ends (Some (Dry net commands)) before now old new status = DryEnds net commands before now status
Ends (Some (Init net journal)) before now old new status = InitEnds net journal before now old new status
Ends (Some (Replay net journal)) before now old new status = ReplayEnds net journal before now old new status
Ends (Some (Migrate net next journal)) before now old new status =
    MigrateEnds net next journal before now old new status
Ends (Some (Drive net seed count)) before now old new status = DriveEnds net seed count before now status
Ends (Some (Live net journal commands)) before now old new status =
    AskEnds live_on None net journal commands before now old new status
Ends None before now old new Words = SaysOnly usage_line before now
Ends None before now old new Memory = DoesNothing before now
Ends None before now old new _ = ⊥
Ends (Some _) before now old new Later = SaysOnly later_line before now
Ends (Some _) before now old new Memory = DoesNothing before now
Ends (Some _) before now old new _ = ⊥

-- `Words` comes where the words ask for nothing, and `Later` where the mode is not built; want of memory is free
abbrev pub AskedAt : Option Task → Status → Type 0
AskedAt None status = (status ≡ Words) ⊎ (status ≡ Memory)
AskedAt (Some (Dry net commands)) status = (status ≢ Words) × (status ≢ Later)
AskedAt (Some (Init net journal)) status = (status ≢ Words) × (status ≢ Later)
AskedAt (Some (Replay net journal)) status = (status ≢ Words) × (status ≢ Later)
AskedAt (Some (Migrate net next journal)) status = (status ≢ Words) × (status ≢ Later)
AskedAt (Some (Drive net seed count)) status = (status ≢ Words) × (status ≢ Later)
AskedAt (Some (Live net journal commands)) status = (status ≢ Words) × (status ≢ Later)
AskedAt (Some _) status = (status ≡ Later) ⊎ (status ≡ Memory)

-- ---- the disk

-- the network was not read, or is refused
abbrev pub IsEarly : Status → Type 0
IsEarly (NetRefused number why) = ⊤
IsEarly NetLong = ⊤
IsEarly ReadFault = ⊤
IsEarly _ = ⊥

-- no call of the disk is made: the mode has no journal, or it comes no further than the network
abbrev pub NeedsNoDisk : Option Task → Status → Type 0
NeedsNoDisk (Some (Init net journal)) status = IsEarly status
NeedsNoDisk (Some (Replay net journal)) status = IsEarly status
NeedsNoDisk (Some (Migrate net next journal)) status = StopsEarly status
NeedsNoDisk (Some (Live net journal commands)) status = RefusesNetwork status
NeedsNoDisk task status = ⊤

-- what a crash may leave is told, for a mode that binds a journal only where the disk tells its bytes
abbrev pub IsToldFor : Option Task → Option (List ℕ) → Type 0
IsToldFor (Some (Migrate net next journal)) bytes = IsSome bytes
IsToldFor task bytes = ⊤

-- What a crash may leave at any moment of the call, by what it might have left at the start: the same, but for a journal that
-- is made, or bound to a wider network.
abbrev pub MayBeLeft : Option Task → Status → Option NamedFiles → Option (List ℕ) → (List ℕ → Type 0) → List ℕ → Type 0
MayBeLeft (Some (Init net journal)) status files bytes images = MayBeMade status images
MayBeLeft (Some (Migrate net next journal)) status files (Some bytes) images = MayBeBound files net next bytes images
MayBeLeft task status files bytes images = images

-- no call of the disk failed, where the mode has a journal
abbrev pub NoDiskFault : Option Task → ℕ → ℕ → Type 0
NoDiskFault (Some (Init net journal)) before now = now ≢ counted before
NoDiskFault (Some (Replay net journal)) before now = now ≢ counted before
NoDiskFault (Some (Migrate net next journal)) before now = now ≢ counted before
NoDiskFault (Some (Live net journal commands)) before now = now ≢ counted before
NoDiskFault task before now = ⊤

-- ---- when nothing is in the way

-- The files are told and there, the network is accepted, and the stream is not too long.
pub record MayServe (told : NamedFiles) (net commands : List ℕ) : Type 0 where
  pub setup : Setup
  pub network : IsAcceptedFile (Some told) net setup
  pub stream : List ℕ
  pub file : get told commands ≡ Some stream
  pub short : is_long_stream stream ≡ false

-- The network is accepted, and the disk has no bytes.
pub record MayMake (told : NamedFiles) (net bytes : List ℕ) : Type 0 where
  pub setup : Setup
  pub network : IsAcceptedFile (Some told) net setup
  pub empty : bytes ≡ []

-- The network is accepted, and the journal on the disk is bound to it and stands for events that replay.
pub record MayTell (told : NamedFiles) (net bytes : List ℕ) : Type 0 where
  pub setup : Setup
  pub digest : List ℕ
  pub network : IsDigestedFile (Some told) net setup digest
  pub events : List Event
  pub place : ℕ
  pub stands : Stands bytes digest setup.journal events place
  pub replays : IsSome (replay setup events)

-- So they are, and the stream is there and not too long.
pub record MayAsk (told : NamedFiles) (net commands bytes : List ℕ) : Type 0 where
  pub journal : MayTell told net bytes
  pub stream : List ℕ
  pub file : get told commands ≡ Some stream
  pub short : is_long_stream stream ≡ false

-- The network is accepted, and one that widens it; the journal on the disk is bound to the first, stands for events that replay,
-- and has room for the binding.
pub record MayBind (told : NamedFiles) (net next bytes : List ℕ) : Type 0 where
  pub setup : Setup
  pub own : List ℕ
  pub network : IsDigestedFile (Some told) net setup own
  pub wider : Setup
  pub digest : List ℕ
  pub next_network : IsDigestedFile (Some told) next wider digest
  pub widens : Widens setup wider
  pub events : List Event
  pub place : ℕ
  pub stands : Stands bytes own setup.journal events place
  pub replays : IsSome (replay setup events)
  pub room : 40 ≤ left_at setup.journal place

-- The network is accepted.
pub record MayDrive (told : NamedFiles) (net : List ℕ) : Type 0 where
  pub setup : Setup
  pub network : IsAcceptedFile (Some told) net setup

-- the words ask for a mode that is built, and its files and its disk allow it
abbrev pub MayEnd : Option Task → Option NamedFiles → Option (List ℕ) → Type 0
MayEnd (Some (Dry net commands)) (Some told) bytes = MayServe told net commands
MayEnd (Some (Init net journal)) (Some told) (Some bytes) = MayMake told net bytes
MayEnd (Some (Replay net journal)) (Some told) (Some bytes) = MayTell told net bytes
MayEnd (Some (Migrate net next journal)) (Some told) (Some bytes) = MayBind told net next bytes
MayEnd (Some (Drive net seed count)) (Some told) bytes = MayDrive told net
MayEnd (Some (Live net journal commands)) (Some told) (Some bytes) = MayAsk told net commands bytes
MayEnd task files bytes = ⊥

-- the sink is sure of room for so many bytes more
abbrev pub HasRoom : Option (List ℕ) → Standing → ℕ → Type 0
HasRoom given standing more =
    IsSomeAnd given (λ bytes. IsSomeAnd standing.room (λ room. length bytes + more ≤ room))

-- the sink is sure of room for all that may be written over these files and this disk, behind what it was given
abbrev pub IsRoomy : Option Task → Option NamedFiles → Option (List ℕ) → Option (List ℕ) → Standing → Type 0
IsRoomy (Some (Dry net commands)) files disk given standing =
    IsSomeAnd given (λ bytes. (setup : Setup) (stream missed output : List ℕ) (changes : List Event)
    → IsAcceptedFile files net setup → IsFile files commands stream
    → Runs Answers setup [] None stream missed output changes
    → IsSomeAnd standing.room (λ room. length bytes + length output ≤ room))
IsRoomy (Some (Init net journal)) files disk given standing = HasRoom given standing (length init_line)
IsRoomy (Some (Replay net journal)) files disk given standing =
    (setup : Setup) (digest : List ℕ) (events : List Event) (state : State)
    → IsDigestedFile files net setup digest → LeadsTo setup digest disk events state
    → HasRoom given standing (length (replay_text setup events state))
IsRoomy (Some (Migrate net next journal)) files disk given standing = HasRoom given standing (length migrate_line)
IsRoomy (Some (Drive net seed count)) files disk given standing =
    (setup : Setup) (missed output : List ℕ) → IsAcceptedFile files net setup → Drives setup seed count missed output
    → HasRoom given standing (length output)
IsRoomy (Some (Live net journal commands)) files disk given standing =
    HasRoomToAsk live_on None net commands files disk given standing
IsRoomy task files disk given standing = ⊤
