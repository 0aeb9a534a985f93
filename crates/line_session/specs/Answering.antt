-- What a machine that answers lines does with one line.
use Rattle.std.specs.Prelude.{◌≡◌, ◌⊎◌, ℕ, ◌+◌, ◌<◌, ⊤, IsTrue, IfSome, MatchBool, Bool, true, false, List, [], ◌∷◌, length, take, Option, None, Some, Result, Ok, Err}
use Rattle.std.specs.Io.KnownBytes.{Appends}
use Rattle.eon_model.specs.Lists.{has_number}
use Rattle.eon_model.specs.LineStream.{Machine, is_quit, IsPrefix}
use Rattle.eon_model.specs.LawsOfMachines.{MayEndEarly}
use Rattle.eon_outside.specs.Faults.{Standing, with_fault}
use Rattle.eon_outside.specs.Writing.{AppendsPart}
use Rattle.line_session.specs.Lines.{most_kept}
use Rattle.line_session.specs.declared.answerer.Flow.{Flow}
use Rattle.line_session.specs.declared.answerer.Flow.TheVariants.{On, Ended}
use Rattle.line_session.specs.declared.answerer.Stopped.{Stopped}
use Rattle.line_session.specs.declared.answerer.Stopped.TheVariants.{Output, Disk}

-- How lines are answered: the machine, the lines for which there may be no memory, and the answers that tell of a change,
-- which is kept before the answer is given.
pub record Answering (S A : Type 0) : Type 1 where
  pub machine : Machine S A
  pub MayMiss : List ℕ → Type 0
  pub is_change : A → Bool

-- What is asked of the way in which lines are answered, at a place where the machine stands well. Where it stands well it answers every
-- line that is not missed, and stands well behind any answer; a beginning of the output of a run is one that ends early. A line of more
-- than 4,096 bytes is not missed, and has the answer of its first 4,097.
pub record IsLawful {S A : Type 0} (by : Answering S A) (Well : S → Type 0) (start : S) : Type 0 where
  pub starts : Well start
  pub some : (s : S) (line : List ℕ) → Well s → (a : A) × by.machine.IsAnswer s line false a
  pub stays : (s : S) (line : List ℕ) (is_missed : Bool) (a : A) → Well s → by.machine.IsAnswer s line is_missed a
      → Well (by.machine.after s a)
  pub early : MayEndEarly by.machine Well
  pub long : (s : S) (line : List ℕ) (is_missed : Bool) (a : A) → 4096 < length line
      → by.machine.IsAnswer s (take most_kept line) is_missed a
      → (is_missed ≡ false) × by.machine.IsAnswer s line is_missed a

-- each line with one of these numbers, the first of which has this one, may be missed
abbrev pub MissesOnlyWhere : (List ℕ → Type 0) → List ℕ → ℕ → List (List ℕ) → Type 0
MissesOnlyWhere May missed number [] = ⊤
MissesOnlyWhere May missed number (line ∷ lines) =
    MatchBool (has_number missed number) (May line) ⊤ × MissesOnlyWhere May missed (number + 1) lines

-- the run ends at `quit`, and goes on at every other line
abbrev pub GoesOn : Flow → List ℕ → Type 0
GoesOn On line = is_quit line ≡ false
GoesOn Ended line = is_quit line ≡ true

-- All bytes that were given when there were so many, held back or not, were since then taken by the sink below. Nothing is said
-- where one of them is not told.
abbrev pub Took : Option (List ℕ) → Option (List ℕ) → Type 0
Took given below = IfSome given (λ bytes. IfSome below (λ taken. IsPrefix bytes taken))

-- What came of a line with this answer. `Went` says of some answers that they were carried out from before the line until
-- now, and then perhaps of one that it was carried out or not. `below` is what the sink below took until now.
--
-- A whole answer was given, and carried out. Or a write failed: a part of the answer was given, and it was carried out or not.
-- Or the disk failed: none of the answer was given, and it was carried out or not. Where a change was made, or may have been,
-- all that was given before the line was taken below.
abbrev pub Comes : {S A : Type 0} → Answering S A → (List A → Option A → Type 0) → S → S → List ℕ → A → Option (List ℕ)
    → Option (List ℕ) → Option (List ℕ) → Result Flow Stopped → Type 0
Comes by Went old new line a before now below (Ok flow) =
    (new ≡ by.machine.after old a) × GoesOn flow line × Appends before now (by.machine.text old a)
    × Went (a ∷ []) None × (IsTrue (by.is_change a) → Took before below)
Comes by Went old new line a before now below (Err Output) =
    AppendsPart before now (by.machine.text old a)
    × (Went [] None ⊎ (Went (a ∷ []) None × (IsTrue (by.is_change a) → Took before below)))
Comes by Went old new line a before now below (Err Disk) =
    AppendsPart before now (by.machine.text old a) × Went [] (Some a) × Took before below

-- What a machine does with one line.
pub record AnswersLine {S A : Type 0} (by : Answering S A) (Went : List A → Option A → Type 0) (old new : S)
    (line : List ℕ) (before now below : Option (List ℕ)) (result : Result Flow Stopped) : Type 0 where
  pub missed : Bool
  pub answer : A
  pub is : by.machine.IsAnswer old line missed answer
  pub only : MatchBool missed (by.MayMiss line) ⊤
  pub comes : Comes by Went old new line answer before now below result

-- the standing of the sink behind a line: one more fault where a write failed, and as before where none did
abbrev pub StandsBehind : {T : Type 0} → Result T Stopped → Standing → Standing → Type 0
StandsBehind (Ok _) before now = now ≡ before
StandsBehind (Err Output) before now = now ≡ with_fault before
StandsBehind (Err Disk) before now = now ≡ before
