-- What the run over a stream does with a piece of it.
use Rattle.std.specs.Prelude.{◌≡◌, ◌≢◌, ◌⊎◌, ℕ, ◌+◌, ◌≤◌, true, not, List, [], ◌∷◌, ◌++◌, length, take, IsTrue, Option, None, Some, Result, Ok, Err}
use Rattle.std.specs.Option.{option_to_list}
use Rattle.std.specs.List.{list_all, list_any}
use Rattle.std.specs.Io.KnownBytes.{Appends}
use Rattle.eon_model.specs.LineStream.{is_quit, MissesNoneFrom, AnswersEach, after_each, each_text}
use Rattle.line_session.specs.Lines.{has_no_end, most_kept, Splits}
use Rattle.line_session.specs.Answering.{Answering, MissesOnlyWhere}
use Rattle.line_session.specs.Runs.{IsAcknowledged}
use Rattle.line_session.specs.declared.session.Outcome.{Outcome}
use Rattle.line_session.specs.declared.session.Outcome.TheVariants.{Done, WriteFault, DiskFault}
use Rattle.line_session.specs.declared.answerer.Flow.{Flow}
use Rattle.line_session.specs.declared.answerer.Flow.TheVariants.{On, Ended}
use Rattle.line_session.specs.declared.answerer.Stopped.{Stopped}
use Rattle.line_session.specs.declared.answerer.Stopped.TheVariants.{Output, Disk}

-- what was taken grew, where it is told
abbrev pub Grows : Option (List ℕ) → Option (List ℕ) → Type 0
Grows old new = (more : List ℕ) × Appends old new more

-- These lines are answered one after the other, from the start on, and the machine then stands so. Each missed line is one for
-- which there may be no memory, and none is missed behind them.
pub record AreAnswered {S A : Type 0} (by : Answering S A) (start : S) (lines : List (List ℕ)) (here : S) (answers : List A)
    : Type 0 where
  pub missed : List ℕ
  pub answered : AnswersEach by.machine missed 1 start lines answers
  pub behind : MissesNoneFrom missed (1 + length lines)
  pub only : MissesOnlyWhere by.MayMiss missed 1 lines
  pub stands : here ≡ after_each by.machine start answers

-- These answers were carried out, and their text was given, held back or not. `total` is all that was given, and `below` what the
-- sink below took of it.
pub record AreGiven {S A : Type 0} (by : Answering S A) (Went : List A → Option A → Type 0) (start : S) (answers : List A)
    (before total below : Option (List ℕ)) : Type 0 where
  pub went : Went answers None
  pub given : Appends before total (each_text by.machine start answers)
  pub grown : Grows before below
  pub acknowledged : IsAcknowledged by start answers before below

-- The lines that ended in these bytes are answered, and none is `quit`. Of the line that has begun its first bytes are kept.
pub record Goes {S A : Type 0} (by : Answering S A) (Went : List A → Option A → Type 0) (start : S) (before : Option (List ℕ))
    (here : S) (begun bytes : List ℕ) (total below : Option (List ℕ)) : Type 0 where
  pub lines : List (List ℕ)
  pub rest : List ℕ
  pub splits : Splits bytes lines rest
  pub unended : IsTrue (has_no_end rest)
  pub kept : begun ≡ take most_kept rest
  pub none_quits : IsTrue (list_all (λ line. not (is_quit line)) lines)
  pub answers : List A
  pub answered : AreAnswered by start lines here answers
  pub are : AreGiven by Went start answers before total below

-- Of the lines that ended in these bytes those up to a `quit` are answered. The answers are the same whatever lines come behind it.
pub record Quits {S A : Type 0} (by : Answering S A) (Went : List A → Option A → Type 0) (start : S) (before : Option (List ℕ))
    (bytes : List ℕ) (total below : Option (List ℕ)) : Type 0 where
  pub lines : List (List ℕ)
  pub rest : List ℕ
  pub splits : Splits bytes lines rest
  pub quits : list_any is_quit lines ≡ true
  pub here : S
  pub answers : List A
  pub answered : AreAnswered by start lines here answers
  pub whole : (more : List (List ℕ)) → AnswersEach by.machine answered.missed 1 start (lines ++ more) answers
  pub are : AreGiven by Went start answers before total below

-- Of the lines that ended in these bytes those up to one are answered. All answers, or all but the last, were carried out, and the last
-- may be in doubt. A front of their text was given; what is held and what is left of it are not nothing.
pub record Breaks {S A : Type 0} (by : Answering S A) (Went : List A → Option A → Type 0) (start : S) (doubt : Option A)
    (before : Option (List ℕ)) (bytes held : List ℕ) (total below : Option (List ℕ)) : Type 0 where
  pub lines : List (List ℕ)
  pub rest : List ℕ
  pub splits : Splits bytes lines rest
  pub here : S
  pub answers : List A
  pub answered : AreAnswered by start lines here answers
  pub done : List A
  pub others : List A
  pub carried : (done ++ option_to_list doubt) ++ others ≡ answers
  pub near : length (option_to_list doubt ++ others) ≤ 1
  pub went : Went done doubt
  pub front : List ℕ
  pub left : List ℕ
  pub is : front ++ left ≡ each_text by.machine start answers
  pub some : held ++ left ≢ []
  pub given : Appends before total front
  pub grown : Grows before below
  pub acknowledged : IsAcknowledged by start (done ++ option_to_list doubt) before below

module _ {S A : Type 0} (by : Answering S A) (Went : List A → Option A → Type 0) (start : S) (before : Option (List ℕ)) where
  -- what came of these bytes, by the result; after a failure so much is held
  abbrev pub Feeds : S → List ℕ → List ℕ → List ℕ → Option (List ℕ) → Option (List ℕ) → Result Flow Stopped → Type 0
  Feeds here begun bytes held total below (Ok On) = Goes by Went start before here begun bytes total below
  Feeds here begun bytes held total below (Ok Ended) = Quits by Went start before bytes total below
  Feeds here begun bytes held total below (Err Output) = Breaks by Went start None before bytes held total below
  Feeds here begun bytes held total below (Err Disk) = (a : A) × Breaks by Went start (Some a) before bytes held total below

  -- What has begun, if it is something, is answered as if a byte 10 followed it.
  abbrev pub FinishesAt : S → List ℕ → List ℕ → List ℕ → Option (List ℕ) → Option (List ℕ) → Outcome → Type 0
  FinishesAt here begun bytes held total below Done =
      ((begun ≡ []) × Goes by Went start before here begun bytes total below)
      ⊎ ((begun ≢ []) × (((new : List ℕ) × Goes by Went start before here new (bytes ++ 10 ∷ []) total below)
      ⊎ Quits by Went start before (bytes ++ 10 ∷ []) total below))
  FinishesAt here begun bytes held total below WriteFault =
      (begun ≢ []) × Breaks by Went start None before (bytes ++ 10 ∷ []) held total below
  FinishesAt here begun bytes held total below DiskFault =
      (begun ≢ []) × ((a : A) × Breaks by Went start (Some a) before (bytes ++ 10 ∷ []) held total below)
  FinishesAt here begun bytes held total below _ = ⊥

-- how a run ends behind a line that was not answered whole
abbrev pub outcome_of : Stopped → Outcome
outcome_of Output = WriteFault
outcome_of Disk = DiskFault
