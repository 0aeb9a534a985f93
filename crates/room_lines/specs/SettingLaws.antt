-- What is asked of the way in which lines are answered over a list of services.
use Rattle.std.proofs.Common.{◌≡◌, ℕ, ◌<◌, ◌≤◌, min, Bool, false, List, length, take, arith}
use Rattle.std.specs.Prelude.{⊤}
use Rattle.std.proofs.lemmas.List.{length-take}
use Rattle.eon_model.specs.Legal.{Setup, Legal}
use Rattle.eon_model.specs.OneLine.{Long, Fault, Missed, Answered}
use Rattle.eon_model.specs.RoomAnswers.{AnswersRoom}
use Rattle.eon_model.specs.RoomReplies.{RoomReply}
use Rattle.eon_model.specs.Services.{State}
use Rattle.eon_model.proofs.RoomRunLaws.{room_line-answered}
use Rattle.eon_model.proofs.RoomStreamLaws.{room-ends_early}
use Rattle.line_session.specs.Answering.{IsLawful}
use Rattle.room_lines.specs.Seen.{RoomsSeen}
use Rattle.room_lines.specs.Setting.{room_by}

too_short : (line : List ℕ) (P : Type 0) → 4096 < length line → length (take 4097 line) ≤ 4096 → P
too_short line P long short =
    let is : length (take 4097 line) ≡ min 4097 (length line) = length-take 4097 line in absurd (omega arith)

-- a line of more bytes than a command has is answered by its first ones
answered_long : (setup : Setup) (state : State) (line : List ℕ) (missed : Bool) (a : RoomReply) →
    4096 < length line → AnswersRoom setup state (take 4097 line) missed a →
    (missed ≡ false) × AnswersRoom setup state line missed a
answered_long setup state line missed a long (Long none more is) = (none, Long none long is)
answered_long setup state line missed a long (Fault place none short other fault is) = too_short line _ long short
answered_long setup state line missed a long (Missed c missing short of may is) = too_short line _ long short
answered_long setup state line missed a long (Answered c none short of does) = too_short line _ long short

-- in a legal state every line has an answer
pub room_lawful : (s : RoomsSeen) → Legal s.setup s.state → IsLawful (room_by s) (λ _. ⊤) tt
room_lawful s legal = record {
  starts = tt;
  some = λ here line well. room_line-answered s.setup s.state legal line;
  stays = λ here line missed a well h. tt;
  early = (room-ends_early s.setup s.state legal).1;
  long = λ here line missed a more h. answered_long s.setup s.state line missed a more h;
}
