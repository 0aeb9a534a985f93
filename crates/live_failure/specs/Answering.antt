-- What is answered to commands and to lines.
use Rattle.std.specs.Prelude.{◌≡◌, ℕ, ◌≤◌, Bool, List, length, Option, Result, IfOk, OnErr}
use Rattle.std.specs.Io.KnownBytes.{Appends}
use Rattle.eon_model.specs.LiveCommands.{LiveCommand, IsLiveLineOf}
use Rattle.eon_model.specs.LiveRun.{LiveAnswers, live_answer_text}
use Rattle.eon_model.specs.LiveStep.{LiveAnswer, live_answer}
use Rattle.eon_model.specs.Services.{State}
use Rattle.eon_outside.specs.Writing.{AppendsPart}
use Rattle.line_session.specs.declared.answerer.Flow.{Flow}
use Rattle.line_session.specs.Answering.{GoesOn}
use Rattle.live_failure.specs.declared.reply.LiveReply.{LiveReply}
use Rattle.live_failure.specs.Replied.{reply_told}
use Rattle.live_failure.specs.Seen.{LiveSeen}

-- the answer that a reply is, with the group that has failed after it
abbrev pub answer_told : State → LiveReply → Option ℕ → LiveAnswer
answer_told state r failed = record { reply = reply_told state r; failed = failed }

-- What is said to a command, and which group has failed after it. The setup and the services stay.
pub record Does (old new : LiveSeen) (c : LiveCommand) (r : LiveReply) : Type 0 where
  pub setup : new.setup ≡ old.setup
  pub state : new.state ≡ old.state
  pub answer : answer_told old.state r new.failed ≡ live_answer old.setup.network old.state old.failed c

-- What is decided on a line: a reply, and the group that has failed after it. The setup and the services stay.
pub record Decides (old new : LiveSeen) (line : List ℕ) (r : LiveReply) : Type 0 where
  pub setup : new.setup ≡ old.setup
  pub state : new.state ≡ old.state
  pub missed : Bool
  pub is : LiveAnswers old.setup.network old.state old.failed line missed (answer_told old.state r new.failed)

-- what is decided on each line of the command
abbrev pub DecidesCommand : LiveSeen → LiveSeen → LiveCommand → LiveReply → Type 0
DecidesCommand old new c r = (line : List ℕ) → length line ≤ 4096 → IsLiveLineOf line c → Decides old new line r

-- What is done with one line: the answer of the live mode is given. After a failure a part of it was given, and not all;
-- the group that has failed is that of the answer.
pub record GivesAnswer {E : Type 0} (old new : LiveSeen) (line : List ℕ) (before now : Option (List ℕ))
    (result : Result Flow E) : Type 0 where
  pub setup : new.setup ≡ old.setup
  pub state : new.state ≡ old.state
  pub missed : Bool
  pub answer : LiveAnswer
  pub is : LiveAnswers old.setup.network old.state old.failed line missed answer
  pub failed : new.failed ≡ answer.failed
  pub ok : IfOk result (λ flow. Appends before now (live_answer_text old.setup.network answer) × GoesOn flow line)
  pub err : OnErr result (AppendsPart before now (live_answer_text old.setup.network answer))
