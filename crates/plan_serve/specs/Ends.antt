-- What a call of the planner read and wrote, for each status with which it ends.
use Rattle.std.specs.Prelude.{◌≡◌, ◌≢◌, ◌⊎◌, ℕ, ◌≤◌, IsTrue, true, false, List, [], ◌∷◌, ◌++◌, length, take, Option, None, IfSome, All}
use Rattle.std.specs.Io.KnownBytes.{Appends, Keeps}
use Rattle.eon_model.specs.Legal.{Setup}
use Rattle.eon_model.specs.Events.{Event}
use Rattle.eon_model.specs.Modes.{stream_limit, is_long_stream}
use Rattle.eon_model.specs.TopLines.{network_fault_line, network_long_line}
use Rattle.eon_model.specs.Answers.{takes_memory}
use Rattle.eon_model.specs.LineStream.{lines_of}
use Rattle.eon_model.specs.Run.{Situation, situation, Runs, BeginsRun, MissesOnly, states_of}
use Rattle.eon_model.specs.LawsOfRuns.{IsLegalAndSound}
use Rattle.eon_outside.specs.Faults.{Standing, counted, with_fault}
use Rattle.eon_outside.specs.Reading.{NamedFiles}
use Rattle.eon_outside.specs.WholeFile.{IsFile}
use Rattle.net_file.specs.Told.{why_told}
use Rattle.plan_serve.specs.declared.status.Status.{Status}
use Rattle.plan_serve.specs.declared.status.Status.TheVariants.{Done, NetRefused, NetLong, ReadFault, Memory, WriteFault, InputLong}
use Rattle.plan_serve.specs.Files.{IsLeft, IsAcceptedFile, IsRefusedFile, IsLongFile}
use Rattle.plan_serve.specs.Lines.{whole_lines, quits_within, most_read}
use Rattle.eon_model.specs.Answers.{Answers}
use Rattle.plan_serve.specs.Outside.{Outside, NoFault}

-- ---- runs

-- The bytes given grew by the output of a run over these bytes, from where the planner stood. Each missed line is that of a command
-- that takes memory. Every state of the run is legal, and sound.
pub record Serves (setup : Setup) (start : Situation) (bytes : List ℕ) (before now : Option (List ℕ)) : Type 0 where
  pub missed : List ℕ
  pub output : List ℕ
  pub changes : List Event
  pub run : Runs Answers setup start.state start.left bytes missed output changes
  pub only : MissesOnly takes_memory missed 1 (lines_of bytes)
  pub sound : All (IsLegalAndSound setup) (states_of setup start.state run.answers)
  pub given : Appends before now output

-- The bytes given grew by a front of the output of such a run. Its states up to there are legal, and sound.
pub record Begins (setup : Setup) (start : Situation) (bytes : List ℕ) (before now : Option (List ℕ)) : Type 0 where
  pub missed : List ℕ
  pub part : List ℕ
  pub run : BeginsRun Answers setup start.state start.left bytes missed part
  pub only : MissesOnly takes_memory missed 1 (lines_of bytes)
  pub sound : All (IsLegalAndSound setup) (states_of setup start.state run.answers)
  pub given : Appends before now part

-- a run over these bytes has this text in front of its output, and more behind it
pub record GoesOnBehind (setup : Setup) (start : Situation) (bytes part : List ℕ) : Type 0 where
  pub missed : List ℕ
  pub rest : List ℕ
  pub changes : List Event
  pub more : rest ≢ []
  pub run : Runs Answers setup start.state start.left bytes missed (part ++ rest) changes

-- ---- streams

-- Below, `IsStream` says which bytes the stream has, and `left` what is left of it at the end.

-- The stream was read to its end, or a `quit` line ended in what was read, in the last piece of it. Each of its lines was
-- answered, up to `quit`.
pub record AnswersAll (IsStream : List ℕ → Type 0) (setup : Setup) (start : Situation) (left before now : Option (List ℕ))
    : Type 0 where
  pub read : List ℕ
  pub rest : List ℕ
  pub told : IsStream (read ++ rest)
  pub unread : IsLeft left rest
  pub to_end : rest ≢ [] → IsTrue (quits_within read)
  pub no_further : (front last : List ℕ) × (front ++ last ≡ read) × (length last ≤ most_read)
      × (quits_within front ≡ false)
  pub short : is_long_stream (read ++ rest) ≡ false
  pub serves : Serves setup start (read ++ rest) before now

-- The stream is too long. The lines that ended within its longest allowed front were answered.
pub record StopsAtLong (IsStream : List ℕ → Type 0) (setup : Setup) (start : Situation) (before now : Option (List ℕ))
    : Type 0 where
  pub stream : List ℕ
  pub told : IsStream stream
  pub long : is_long_stream stream ≡ true
  pub serves : Serves setup start (whole_lines (take stream_limit stream)) before now
  pub begins : Begins setup start stream before now

-- Reading failed in the stream. No `quit` line ended in what was read before, and the lines that did were answered.
pub record StopsReading (IsStream : List ℕ → Type 0) (setup : Setup) (start : Situation)
    (left before now : Option (List ℕ)) : Type 0 where
  pub read : List ℕ
  pub rest : List ℕ
  pub told : IsStream (read ++ rest)
  pub unread : IsLeft left rest
  pub short : length read ≤ stream_limit
  pub no_quit : quits_within read ≡ false
  pub serves : Serves setup start (whole_lines read) before now
  pub begins : Begins setup start (read ++ rest) before now

-- Writing failed. Where the bytes given are told, they are not all of the output.
pub record StopsWriting (IsStream : List ℕ → Type 0) (setup : Setup) (start : Situation) (before now : Option (List ℕ))
    : Type 0 where
  pub stream : List ℕ
  pub told : IsStream stream
  pub begins : Begins setup start stream before now
  pub early : IfSome before (λ _. GoesOnBehind setup start stream begins.part)

-- how the answers to a stream end
abbrev pub AnswersStream : (List ℕ → Type 0) → Setup → Situation → Option (List ℕ) → Option (List ℕ) → Option (List ℕ)
    → Status → Type 0
AnswersStream IsStream setup start left before now Done = AnswersAll IsStream setup start left before now
AnswersStream IsStream setup start left before now ReadFault = StopsReading IsStream setup start left before now
AnswersStream IsStream setup start left before now WriteFault = StopsWriting IsStream setup start before now
AnswersStream IsStream setup start left before now InputLong = StopsAtLong IsStream setup start before now
AnswersStream IsStream setup start left before now _ = ⊥

-- how many calls failed in it: one of the shelf at `ReadFault`
abbrev pub CountsReads : Status → ℕ → ℕ → Type 0
CountsReads ReadFault before now = now ≡ counted before
CountsReads _ before now = now ≡ before

-- and one of the sink at `WriteFault`
abbrev pub StandsAt : Status → Standing → Standing → Type 0
StandsAt WriteFault before now = now ≡ with_fault before
StandsAt _ before now = now ≡ before

-- ---- a line beside the replies

-- The line was given whole and no write failed, or one did, and only a front of it was given.
pub record GivesLine (line : List ℕ) (before now : Option (List ℕ)) (old new : ℕ) : Type 0 where
  pub front : List ℕ
  pub rest : List ℕ
  pub is : front ++ rest ≡ line
  pub given : Appends before now front
  pub counts : ((rest ≡ []) × (new ≡ old)) ⊎ ((rest ≢ []) × (new ≡ counted old))

-- nothing was given but this line
abbrev pub Says : List ℕ → Outside → Outside → Type 0
Says line before now = GivesLine line before.given now.given before.write_faults now.write_faults

-- how a call ends that comes no further than the network
abbrev pub EndsAtNetwork : List ℕ → Outside → Outside → Status → Type 0
EndsAtNetwork net before now (NetRefused number why) =
    (now.opened ≡ before.opened ++ net ∷ []) × (now.read_faults ≡ before.read_faults)
    × IsRefusedFile before.files net number (why_told why)
    × Says (network_fault_line number (why_told why)) before now
EndsAtNetwork net before now NetLong =
    (now.opened ≡ before.opened ++ net ∷ []) × (now.read_faults ≡ before.read_faults)
    × IsLongFile before.files net × Says network_long_line before now
EndsAtNetwork net before now ReadFault =
    (now.read_faults ≡ counted before.read_faults) × (now.write_faults ≡ before.write_faults)
    × (now.opened ≡ before.opened ++ net ∷ []) × Keeps before.given now.given
EndsAtNetwork net before now Memory =
    ((now.opened ≡ before.opened) ⊎ (now.opened ≡ before.opened ++ net ∷ [])) × NoFault before now
    × Keeps before.given now.given
EndsAtNetwork net before now _ = ⊥

-- ---- `dry`

-- the file of this name is the text of a network, and so it went over that network
abbrev pub OverNetwork : Option NamedFiles → List ℕ → (Setup → Type 0) → Type 0
OverNetwork files net P = (setup : Setup) × IsAcceptedFile files net setup × P setup

-- how the answers to the stream end over a setup, with no service at first
abbrev pub DryStream : List ℕ → Outside → Outside → Status → Setup → Type 0
DryStream commands before now status setup =
    AnswersStream (IsFile before.files commands) setup (situation [] None) now.left before.given now.given status

-- Where reading failed: in the network, at the opening of the stream, or in the stream.
pub data FaultsReading (net commands : List ℕ) (before now : Outside) : Type 0 where
  AtNetwork : now.opened ≡ before.opened ++ net ∷ [] → Keeps before.given now.given
      → FaultsReading net commands before now
  AtOpening : (setup : Setup) → now.opened ≡ before.opened ++ net ∷ commands ∷ []
      → IsAcceptedFile before.files net setup → IsLeft now.left [] → Keeps before.given now.given
      → FaultsReading net commands before now
  InStream : now.opened ≡ before.opened ++ net ∷ commands ∷ []
      → OverNetwork before.files net (DryStream commands before now ReadFault)
      → FaultsReading net commands before now

-- the answers to a stream over this setup: which file was opened, and how many calls failed
abbrev pub StreamEnds : Setup → List ℕ → Outside → Outside → Status → Type 0
StreamEnds setup commands before now Memory =
    (now.opened ≡ before.opened) × NoFault before now × Keeps before.given now.given
StreamEnds setup commands before now ReadFault =
    (now.opened ≡ before.opened ++ commands ∷ []) × (now.read_faults ≡ counted before.read_faults)
    × (now.write_faults ≡ before.write_faults)
    × ((IsLeft now.left [] × Keeps before.given now.given) ⊎ DryStream commands before now ReadFault setup)
StreamEnds setup commands before now WriteFault =
    (now.opened ≡ before.opened ++ commands ∷ []) × (now.read_faults ≡ before.read_faults)
    × (now.write_faults ≡ counted before.write_faults) × DryStream commands before now WriteFault setup
StreamEnds setup commands before now status =
    (now.opened ≡ before.opened ++ commands ∷ []) × NoFault before now × DryStream commands before now status setup

-- `dry NET COMMANDS`: which files were opened, what was read and given, and how many calls failed
abbrev pub DryEnds : List ℕ → List ℕ → Outside → Outside → Status → Type 0
DryEnds net commands before now Done =
    (now.opened ≡ before.opened ++ net ∷ commands ∷ []) × NoFault before now
    × OverNetwork before.files net (DryStream commands before now Done)
DryEnds net commands before now InputLong =
    (now.opened ≡ before.opened ++ net ∷ commands ∷ []) × NoFault before now
    × OverNetwork before.files net (DryStream commands before now InputLong)
DryEnds net commands before now WriteFault =
    (now.opened ≡ before.opened ++ net ∷ commands ∷ []) × (now.read_faults ≡ before.read_faults)
    × (now.write_faults ≡ counted before.write_faults)
    × OverNetwork before.files net (DryStream commands before now WriteFault)
DryEnds net commands before now ReadFault =
    (now.read_faults ≡ counted before.read_faults) × (now.write_faults ≡ before.write_faults)
    × FaultsReading net commands before now
DryEnds net commands before now status = EndsAtNetwork net before now status
