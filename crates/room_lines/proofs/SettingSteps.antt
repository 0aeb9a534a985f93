-- What is decided on a line, and given.
use Rattle.std.proofs.Common.{◌≡◌, refl, sym, subst, inl, ℕ, ◌<◌, ◌≤◌, Bool, true, false, List, Option, None, Ok, Err, length}
use Rattle.std.specs.Prelude.{IsTrue, MatchBool, ⊤}
use Rattle.std.specs.Io.KnownBytes.{Appends}
use Rattle.std.proofs.lemmas.Bool.{false≢true}
use Rattle.eon_model.specs.OneLine as one
use Rattle.eon_model.specs.RoomAnswers.{AnswersRoom, RepliesTo}
use Rattle.eon_model.specs.RoomCommands.{RoomCommand, room_takes_memory, IsRoomLineOf, IsRoomLine, IsRoomFaultPlace}
use Rattle.eon_model.specs.RoomReplies as said
use Rattle.eon_model.specs.Legal.{Setup}
use Rattle.eon_model.specs.Services.{State}
use Rattle.eon_outside.specs.Writing.{AppendsPart}
use Rattle.line_session.specs.declared.answerer.Flow.{Flow}
use Rattle.line_session.specs.declared.answerer.Stopped.TheVariants.{Output}
use Rattle.line_session.specs.Answering.{GoesOn, AnswersLine}
use Rattle.room_lines.specs.declared.reply.RoomReply.{RoomReply}
use Rattle.room_lines.specs.declared.reply.RoomReply.TheVariants as reply
use Rattle.room_lines.specs.Replied.{reply_told}
use Rattle.room_lines.specs.Seen.{RoomsSeen}
use Rattle.room_lines.specs.Setting.{AsksRoom, room_by, Decides, DecidesCommand, GivesAnswer}

-- what is said to a command
pub command_decides : (s : RoomsSeen) (c : RoomCommand) (r : RoomReply) → RepliesTo s.setup s.state c (reply_told r) →
    DecidesCommand s c r
command_decides s c r h = λ line short of. record { missed = false; is = one.Answered c refl short of h }

-- there was no memory for a question
pub memory_decides : (s : RoomsSeen) (c : RoomCommand) → IsTrue (room_takes_memory c) → DecidesCommand s c reply.Memory
memory_decides s c free = λ line short of. record { missed = true; is = one.Missed c refl short of free refl }

-- a line of more bytes than a command has
pub long_decides : (s : RoomsSeen) (line : List ℕ) (at : ℕ) → 4096 < length line → at ≡ 4096 → Decides s line (reply.Line at)
long_decides s line at long is = subst (λ (n : ℕ). Decides s line (reply.Line n)) (sym is)
    (record { missed = false; is = one.Long refl long refl })

-- a line that is no command
pub fault_decides : (s : RoomsSeen) (line : List ℕ) (at : ℕ) → length line ≤ 4096 → (IsRoomLine line → ⊥) →
    IsRoomFaultPlace line at → Decides s line (reply.Line at)
fault_decides s line at short none place = record { missed = false; is = one.Fault at refl short none place refl }

-- ---- the reply is given

module _ {E : Type 0} (s : RoomsSeen) (line : List ℕ) (before now : Option (List ℕ)) where
  pub gives_whole : (r : RoomReply) (flow : Flow) → Decides s line r →
      Appends before now (said.room_reply_text s.setup s.state (reply_told r)) → GoesOn flow line →
      GivesAnswer {E = E} s line before now (Ok flow)
  gives_whole r flow h given on =
      record { missed = h.missed; answer = reply_told r; is = h.is; ok = (given, on); err = tt }

  pub gives_part : (r : RoomReply) (e : E) → Decides s line r →
      AppendsPart before now (said.room_reply_text s.setup s.state (reply_told r)) → GivesAnswer {E = E} s line before now (Err e)
  gives_part r e h part = record { missed = h.missed; answer = reply_told r; is = h.is; ok = tt; err = part }

-- only the line of a question is missed
asks_by : (line : List ℕ) (c : RoomCommand) → IsTrue (room_takes_memory c) → IsRoomLineOf line c → AsksRoom line
asks_by line (RoomCommand.Room q) free of = (q, of)
asks_by line RoomCommand.Quit free of = absurd (false≢true free)

only_missed : (setup : Setup) (state : State) (line : List ℕ) (missed : Bool) (a : said.RoomReply) →
    AnswersRoom setup state line missed a → MatchBool missed (AsksRoom line) ⊤
only_missed setup state line false a h = tt
only_missed setup state line true a (one.Missed c is short of free said) = asks_by line c free of
only_missed setup state line true a (one.Long is long said) = absurd (false≢true (sym is))
only_missed setup state line true a (one.Fault at is short none place said) = absurd (false≢true (sym is))
only_missed setup state line true a (one.Answered c is short of does) = absurd (false≢true (sym is))

module _ {E : Type 0} (s : RoomsSeen) (line : List ℕ) (before now below : Option (List ℕ)) where
  pub line_whole : (flow : Flow) → GivesAnswer {E = E} s line before now (Ok flow) →
      AnswersLine (room_by s) (λ answers doubt. doubt ≡ None) tt tt line before now below (Ok flow)
  line_whole flow h = record {
    missed = h.missed;
    answer = h.answer;
    is = h.is;
    only = only_missed s.setup s.state line h.missed h.answer h.is;
    comes = (refl, h.ok.1, h.ok.0, refl, λ change. absurd (false≢true change));
  }

  pub line_part : (e : E) → GivesAnswer {E = E} s line before now (Err e) →
      AnswersLine (room_by s) (λ answers doubt. doubt ≡ None) tt tt line before now below (Err Output)
  line_part e h = record {
    missed = h.missed;
    answer = h.answer;
    is = h.is;
    only = only_missed s.setup s.state line h.missed h.answer h.is;
    comes = (h.err, inl refl);
  }
