-- What the run over a stream does with a piece of it.
use Rattle.std.specs.Prelude.{◌≡◌, ◌≢◌, ◌⊎◌, ℕ, ◌+◌, true, not, List, [], ◌∷◌, ◌++◌, length, take, IsTrue, Option, Result, Ok, Err}
use Rattle.std.specs.List.{list_all, list_any}
use Rattle.std.specs.Io.KnownBytes.{Appends}
use Rattle.eon_model.specs.Legal.{Setup}
use Rattle.eon_model.specs.Answers.{Answer, takes_memory}
use Rattle.eon_model.specs.LineStream.{is_quit, MissesNoneFrom, after_each}
use Rattle.eon_model.specs.Run.{Situation, planner, AnswersLines, answers_text, MissesOnly}
use Rattle.plan_serve.specs.declared.status.Status.{Status}
use Rattle.plan_serve.specs.declared.status.Status.TheVariants.{Done, WriteFault}
use Rattle.plan_serve.specs.declared.answering.Flow.{Flow}
use Rattle.plan_serve.specs.declared.answering.Flow.TheVariants.{On, Ended}
use Rattle.eon_model.specs.Answers.{Answers}
use Rattle.plan_serve.specs.Lines.{has_no_end, most_kept, Splits}

-- the answers to these lines, from the first of a stream on
abbrev pub Answered : Setup → List ℕ → Situation → List (List ℕ) → List Answer → Type 0
Answered setup missed start lines answers = AnswersLines Answers setup missed 1 start.state start.left lines answers

-- These lines are answered one after the other, from where the planner stood. The planner then stands so, and the answers have this text. Each
-- missed line is that of a command that takes memory, and none is missed behind them.
pub record AreAnswered (setup : Setup) (start : Situation) (lines : List (List ℕ)) (here : Situation) (text : List ℕ)
    : Type 0 where
  pub missed : List ℕ
  pub answers : List Answer
  pub answered : Answered setup missed start lines answers
  pub behind : MissesNoneFrom missed (1 + length lines)
  pub only : MissesOnly takes_memory missed 1 lines
  pub stands : here ≡ after_each (planner Answers setup) start answers
  pub told : text ≡ answers_text setup start.state answers

-- The lines that ended in these bytes are answered, and none is `quit`. Of the line that has begun its first bytes are
-- kept.
pub record Goes (setup : Setup) (start : Situation) (before : Option (List ℕ)) (here : Situation) (begun bytes : List ℕ)
    (now : Option (List ℕ)) : Type 0 where
  pub lines : List (List ℕ)
  pub rest : List ℕ
  pub splits : Splits bytes lines rest
  pub unended : IsTrue (has_no_end rest)
  pub kept : begun ≡ take most_kept rest
  pub none_quits : IsTrue (list_all (λ line. not (is_quit line)) lines)
  pub text : List ℕ
  pub answered : AreAnswered setup start lines here text
  pub given : Appends before now text

-- Of the lines that ended in these bytes those up to a `quit` are answered. The answers are the same whatever lines come
-- behind it.
pub record Quits (setup : Setup) (start : Situation) (before : Option (List ℕ)) (bytes : List ℕ) (now : Option (List ℕ))
    : Type 0 where
  pub lines : List (List ℕ)
  pub rest : List ℕ
  pub splits : Splits bytes lines rest
  pub quits : list_any is_quit lines ≡ true
  pub here : Situation
  pub text : List ℕ
  pub answered : AreAnswered setup start lines here text
  pub whole : (more : List (List ℕ)) → Answered setup answered.missed start (lines ++ more) answered.answers
  pub given : Appends before now text

-- Of the lines that ended in these bytes those up to one are answered. A front of the answers was given; what is held
-- and what is left of them are not nothing.
pub record Breaks (setup : Setup) (start : Situation) (before : Option (List ℕ)) (bytes : List ℕ) (held : List ℕ)
    (now : Option (List ℕ)) : Type 0 where
  pub lines : List (List ℕ)
  pub rest : List ℕ
  pub splits : Splits bytes lines rest
  pub here : Situation
  pub text : List ℕ
  pub answered : AreAnswered setup start lines here text
  pub front : List ℕ
  pub left : List ℕ
  pub is : front ++ left ≡ text
  pub some : held ++ left ≢ []
  pub given : Appends before now front

-- what came of these bytes, by the result; after a failure so much is held
abbrev pub Feeds : {E : Type 0} → Setup → Situation → Option (List ℕ) → Situation → List ℕ → List ℕ → List ℕ → Option (List ℕ)
    → Result Flow E → Type 0
Feeds setup start before here begun bytes held now (Ok On) = Goes setup start before here begun bytes now
Feeds setup start before here begun bytes held now (Ok Ended) = Quits setup start before bytes now
Feeds setup start before here begun bytes held now (Err _) = Breaks setup start before bytes held now

-- What has begun, if it is something, is answered as if a byte 10 followed it.
abbrev pub FinishesAt : Setup → Situation → Option (List ℕ) → Situation → List ℕ → List ℕ → List ℕ → Option (List ℕ) → Status
    → Type 0
FinishesAt setup start before here begun bytes held now Done =
    ((begun ≡ []) × Goes setup start before here begun bytes now)
    ⊎ ((begun ≢ []) × (((new : List ℕ) × Goes setup start before here new (bytes ++ 10 ∷ []) now)
    ⊎ Quits setup start before (bytes ++ 10 ∷ []) now))
FinishesAt setup start before here begun bytes held now WriteFault =
    (begun ≢ []) × Breaks setup start before (bytes ++ 10 ∷ []) held now
FinishesAt setup start before here begun bytes held now _ = ⊥
