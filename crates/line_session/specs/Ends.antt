-- How the answers to a stream end. `IsStream` says which bytes the stream has, and `left` what is left of it at the end. `Went` says of
-- some answers that they were carried out from the start until now, and then perhaps of one that it was carried out or not.
use Rattle.std.specs.Prelude.{◌≡◌, ◌≢◌, ℕ, ◌≤◌, IsTrue, true, false, List, [], ◌++◌, length, take, Option, None, Some, IfSome}
use Rattle.eon_model.specs.Modes.{stream_limit, is_long_stream}
use Rattle.eon_outside.specs.Faults.{Standing, counted, with_fault}
use Rattle.line_session.specs.Lines.{IsLeft, whole_lines, quits_within, most_read}
use Rattle.line_session.specs.Answering.{Answering}
use Rattle.line_session.specs.Runs.{Serves, Begins, GoesOnBehind, Carries}
use Rattle.line_session.specs.declared.session.Outcome.{Outcome}
use Rattle.line_session.specs.declared.session.Outcome.TheVariants.{Done, ReadFault, WriteFault, DiskFault, InputLong}

module _ {S A : Type 0} (by : Answering S A) (Went : List A → Option A → Type 0) (IsStream : List ℕ → Type 0) (start : S) where
  -- The stream was read to its end, or a `quit` line ended in what was read, in the last piece of it. Each of its lines was
  -- answered, up to `quit`.
  pub record AnswersAll (left before now : Option (List ℕ)) : Type 0 where
    pub read : List ℕ
    pub rest : List ℕ
    pub told : IsStream (read ++ rest)
    pub unread : IsLeft left rest
    pub to_end : rest ≢ [] → IsTrue (quits_within read)
    pub no_further : (front last : List ℕ) × (front ++ last ≡ read) × (length last ≤ most_read)
        × (quits_within front ≡ false)
    pub short : is_long_stream (read ++ rest) ≡ false
    pub serves : Serves by Went start (read ++ rest) before now

  -- The stream is too long. The lines that ended within its longest allowed front were answered.
  pub record StopsAtLong (before now : Option (List ℕ)) : Type 0 where
    pub stream : List ℕ
    pub told : IsStream stream
    pub long : is_long_stream stream ≡ true
    pub serves : Serves by Went start (whole_lines (take stream_limit stream)) before now
    pub begins : Begins by start stream before now

  -- Reading failed in the stream. No `quit` line ended in what was read before, and the lines that did were answered.
  pub record StopsReading (left before now : Option (List ℕ)) : Type 0 where
    pub read : List ℕ
    pub rest : List ℕ
    pub told : IsStream (read ++ rest)
    pub unread : IsLeft left rest
    pub short : length read ≤ stream_limit
    pub no_quit : quits_within read ≡ false
    pub serves : Serves by Went start (whole_lines read) before now
    pub begins : Begins by start (read ++ rest) before now

  -- Writing failed, or the disk did: then one answer is in doubt. Where the bytes given are told, they are not all of the output.
  pub record StopsEarly (doubt : Option A) (before now : Option (List ℕ)) : Type 0 where
    pub stream : List ℕ
    pub told : IsStream stream
    pub begins : Begins by start stream before now
    pub early : IfSome before (λ _. GoesOnBehind by start stream begins.part)
    pub carries : Carries by Went start stream before now doubt

  -- how the answers to a stream end
  abbrev pub AnswersStream : Option (List ℕ) → Option (List ℕ) → Option (List ℕ) → Outcome → Type 0
  AnswersStream left before now Done = AnswersAll left before now
  AnswersStream left before now ReadFault = StopsReading left before now
  AnswersStream left before now WriteFault = StopsEarly None before now
  AnswersStream left before now DiskFault = (a : A) × StopsEarly (Some a) before now
  AnswersStream left before now InputLong = StopsAtLong before now

-- how many calls of the shelf failed: one at `ReadFault`
abbrev pub CountsReads : Outcome → ℕ → ℕ → Type 0
CountsReads ReadFault before now = now ≡ counted before
CountsReads _ before now = now ≡ before

-- and one of the sink at `WriteFault`
abbrev pub StandsAt : Outcome → Standing → Standing → Type 0
StandsAt WriteFault before now = now ≡ with_fault before
StandsAt _ before now = now ≡ before
