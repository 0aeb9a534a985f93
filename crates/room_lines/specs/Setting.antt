-- How the lines of a stream are answered over a list of services.
use Rattle.std.specs.Prelude.{ℕ, ◌≤◌, Bool, false, ⊤, List, length, Option, Result, IfOk, OnErr}
use Rattle.std.specs.Io.KnownBytes.{Appends}
use Rattle.eon_model.specs.RoomCommands.{Question, RoomCommand, IsRoomLineOf}
use Rattle.eon_model.specs.RoomAnswers.{AnswersRoom}
use Rattle.eon_model.specs.RoomReplies as said
use Rattle.eon_model.specs.RoomRun.{room}
use Rattle.eon_outside.specs.Writing.{AppendsPart}
use Rattle.line_session.specs.Answering.{Answering, GoesOn}
use Rattle.line_session.specs.declared.answerer.Flow.{Flow}
use Rattle.room_lines.specs.declared.reply.RoomReply.{RoomReply}
use Rattle.room_lines.specs.Replied.{reply_told}
use Rattle.room_lines.specs.Seen.{RoomsSeen}

-- the line is that of a question
abbrev pub AsksRoom : List ℕ → Type 0
AsksRoom line = (q : Question) × IsRoomLineOf line (RoomCommand.Room q)

-- Questions are answered. Only their lines are missed, and no answer tells of a change.
abbrev pub room_by : RoomsSeen → Answering ⊤ said.RoomReply
room_by s = record { machine = room s.setup s.state; MayMiss = AsksRoom; is_change = λ a. false }

-- What is decided on a line.
pub record Decides (s : RoomsSeen) (line : List ℕ) (r : RoomReply) : Type 0 where
  pub missed : Bool
  pub is : AnswersRoom s.setup s.state line missed (reply_told r)

-- on each line of the command
abbrev pub DecidesCommand : RoomsSeen → RoomCommand → RoomReply → Type 0
DecidesCommand s c r = (line : List ℕ) → length line ≤ 4096 → IsRoomLineOf line c → Decides s line r

-- What is done with one line: its answer is given. After a failure a part of it was given, and not all.
pub record GivesAnswer {E : Type 0} (s : RoomsSeen) (line : List ℕ) (before now : Option (List ℕ)) (result : Result Flow E)
    : Type 0 where
  pub missed : Bool
  pub answer : said.RoomReply
  pub is : AnswersRoom s.setup s.state line missed answer
  pub ok : IfOk result (λ flow. Appends before now (said.room_reply_text s.setup s.state answer) × GoesOn flow line)
  pub err : OnErr result (AppendsPart before now (said.room_reply_text s.setup s.state answer))
