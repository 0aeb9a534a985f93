-- What the planner does with one line.
use Rattle.std.specs.Prelude.{◌≡◌, ℕ, ◌≤◌, ⊤, IsTrue, MatchBool, Bool, true, false, List, length, Option, Result, IfOk, OnErr}
use Rattle.std.specs.Io.KnownBytes.{Appends}
use Rattle.eon_model.specs.Legal.{Setup}
use Rattle.eon_model.specs.Commands.{Command}
use Rattle.eon_model.specs.CommandText.{IsLineOf}
use Rattle.eon_model.specs.Answers.{Answer, Answers, takes_memory}
use Rattle.eon_model.specs.LineStream.{is_quit}
use Rattle.eon_model.specs.Run.{Situation, situation_after, answer_text}
use Rattle.eon_outside.specs.Writing.{AppendsPart}
use Rattle.reply_text.specs.Replied.{reply_told}
use Rattle.reply_text.specs.Tellable.{can_tell}
use Rattle.reply_text.specs.declared.reply.Reply.{Reply}
use Rattle.plan_serve.specs.declared.answering.Flow.{Flow}
use Rattle.plan_serve.specs.declared.answering.Flow.TheVariants.{On, Ended}

-- the line is that of a command that takes memory
abbrev pub TakesMemory : List ℕ → Type 0
TakesMemory line = (c : Command) × IsLineOf line c × IsTrue (takes_memory c)

-- The line has this answer where the planner stands so. A missed line is one for which there was no memory: its command takes some.
pub record HasAnswer (setup : Setup) (s : Situation) (line : List ℕ) (missed : Bool) (a : Answer) : Type 0 where
  pub is : Answers setup s.state s.left line missed a
  pub only : MatchBool missed (TakesMemory line) ⊤

-- What is decided on a line: a reply, which can be told of the state after it.
pub record Decides (setup : Setup) (old new : Situation) (line : List ℕ) (reply : Reply) : Type 0 where
  pub missed : Bool
  pub answer : Answer
  pub has : HasAnswer setup old line missed answer
  pub stands : new ≡ situation_after setup old answer
  pub is : answer.reply ≡ reply_told reply
  pub can_tell : IsTrue (can_tell setup new.state (reply_told reply))

-- what is decided on each line of the command
abbrev pub DecidesCommand : Setup → Situation → Situation → Command → Reply → Type 0
DecidesCommand setup old new c reply =
    (line : List ℕ) → length line ≤ 4096 → IsLineOf line c → Decides setup old new line reply

-- the run ends at `quit`, and goes on at every other line
abbrev pub GoesOn : Flow → List ℕ → Type 0
GoesOn On line = is_quit line ≡ false
GoesOn Ended line = is_quit line ≡ true

-- What the planner does with one line: it gives the reply. After a failure a part of it was given, and not all; the
-- change stands.
pub record AnswersLine {E : Type 0} (setup : Setup) (old new : Situation) (line : List ℕ)
    (before now : Option (List ℕ)) (result : Result Flow E) : Type 0 where
  pub missed : Bool
  pub answer : Answer
  pub has : HasAnswer setup old line missed answer
  pub stands : new ≡ situation_after setup old answer
  pub ok : IfOk result (λ flow. Appends before now (answer_text setup old.state answer) × GoesOn flow line)
  pub err : OnErr result (AppendsPart before now (answer_text setup old.state answer))
