-- Runs of a machine over a stream of lines.
use Rattle.std.specs.Prelude.{◌≡◌, ◌≢◌, ℕ, ◌≤◌, List, [], ◌++◌, length, Option, None, IfSome}
use Rattle.std.specs.Option.{option_to_list}
use Rattle.std.specs.List.{count_by}
use Rattle.std.specs.Io.KnownBytes.{Appends}
use Rattle.eon_model.specs.LineStream.{AnswersEach, each_text, Replies, BeginsReplies, lines_of, IsPrefix}
use Rattle.line_session.specs.Answering.{Answering, MissesOnlyWhere}

-- The sink below took this text behind the bytes that it had before. Nothing is said where one of them is not told.
abbrev pub TookBehind : Option (List ℕ) → Option (List ℕ) → List ℕ → Type 0
TookBehind before below text = IfSome before (λ bytes. IfSome below (λ taken. IsPrefix (bytes ++ text) taken))

-- Of the answers that were carried out from the start on, all were taken below but some last ones, with one change at most
-- among them.
pub record IsAcknowledged {S A : Type 0} (by : Answering S A) (start : S) (answers : List A) (before below : Option (List ℕ))
    : Type 0 where
  pub front : List A
  pub last : List A
  pub are : front ++ last ≡ answers
  pub few : count_by by.is_change last ≤ 1
  pub took : TookBehind before below (each_text by.machine start front)

-- The bytes given grew by the output of a run over these bytes. Each missed line is one for which there may be no memory.
pub record Serves {S A : Type 0} (by : Answering S A) (Went : List A → Option A → Type 0) (start : S) (bytes : List ℕ)
    (before now : Option (List ℕ)) : Type 0 where
  pub missed : List ℕ
  pub output : List ℕ
  pub run : Replies by.machine start bytes missed output
  pub only : MissesOnlyWhere by.MayMiss missed 1 (lines_of bytes)
  pub given : Appends before now output
  pub went : Went run.answers None

-- The bytes given grew by a front of the output of such a run.
pub record Begins {S A : Type 0} (by : Answering S A) (start : S) (bytes : List ℕ) (before now : Option (List ℕ)) : Type 0 where
  pub missed : List ℕ
  pub part : List ℕ
  pub run : BeginsReplies by.machine start bytes missed part
  pub only : MissesOnlyWhere by.MayMiss missed 1 (lines_of bytes)
  pub given : Appends before now part

-- a run over these bytes has this text in front of its output, and more behind it
pub record GoesOnBehind {S A : Type 0} (by : Answering S A) (start : S) (bytes part : List ℕ) : Type 0 where
  pub missed : List ℕ
  pub rest : List ℕ
  pub more : rest ≢ []
  pub run : Replies by.machine start bytes missed (part ++ rest)

-- The first lines of a stream have these answers. All of them, or all but the last, were carried out, and `doubt` is the last
-- one where it was carried out or not. A front of their text was given, and not all of it where the bytes given are told; it holds all
-- that is acknowledged.
pub record Carries {S A : Type 0} (by : Answering S A) (Went : List A → Option A → Type 0) (start : S) (bytes : List ℕ)
    (before now : Option (List ℕ)) (doubt : Option A) : Type 0 where
  pub missed : List ℕ
  pub lines : List (List ℕ)
  pub later : List (List ℕ)
  pub are : lines ++ later ≡ lines_of bytes
  pub answers : List A
  pub answered : AnswersEach by.machine missed 1 start lines answers
  pub only : MissesOnlyWhere by.MayMiss missed 1 lines
  pub done : List A
  pub rest : List A
  pub carried : (done ++ option_to_list doubt) ++ rest ≡ answers
  pub near : length (option_to_list doubt ++ rest) ≤ 1
  pub went : Went done doubt
  pub front : List ℕ
  pub left : List ℕ
  pub text : front ++ left ≡ each_text by.machine start answers
  pub more : IfSome before (λ _. left ≢ [])
  pub given : Appends before now front
  pub acknowledged : IsAcknowledged by start (done ++ option_to_list doubt) before now
