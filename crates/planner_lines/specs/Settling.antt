-- How a line stands before its reply is given.
use Rattle.std.specs.Prelude.{◌≡◌, ℕ, ⊤, IsTrue, MatchBool, Bool, ◌&&◌, List, [], Option, None, is_some, Result, Ok, Err}
use Rattle.std.specs.Option.{option_to_list}
use Rattle.std.specs.Io.KnownBytes.{Appends}
use Rattle.eon_model.specs.Legal.{Setup}
use Rattle.eon_model.specs.Events.{Event}
use Rattle.eon_model.specs.Replies as model
use Rattle.eon_model.specs.Answers.{Answer, Answers}
use Rattle.eon_model.specs.Run.{Situation, situation_after}
use Rattle.reply_text.specs.Replied.{reply_told}
use Rattle.reply_text.specs.Tellable.{can_tell}
use Rattle.reply_text.specs.declared.reply.Reply.{Reply}
use Rattle.line_session.specs.Answering.{AnswersLine, Took}
use Rattle.line_session.specs.declared.answerer.Stopped.{Stopped}
use Rattle.planner_lines.specs.Answering.{TakesMemory, answering, WentBy}

module _ (setup : Setup) (acknowledges : Bool) (Keeps : List Event → Option Event → Type 0) (old new : Situation)
    (line : List ℕ) (before now below : Option (List ℕ)) where
  -- Its answer, which has this reply, was carried out. No more was given. Where it tells of a change, all that was given before was
  -- taken below.
  pub record Settled (reply : model.Reply) : Type 0 where
    pub missed : Bool
    pub answer : Answer
    pub is : Answers setup old.state old.left line missed answer
    pub only : MatchBool missed (TakesMemory line) ⊤
    pub stands : new ≡ situation_after setup old answer
    pub says : answer.reply ≡ reply
    pub tellable : IsTrue (can_tell setup new.state reply)
    pub kept : Keeps (option_to_list answer.event) None
    pub same : Appends before now []
    pub took : IsTrue (acknowledges && is_some answer.event) → Took before below

  -- so, or the run ends with it
  abbrev pub Settles : Result Reply Stopped → Type 0
  Settles (Ok reply) = Settled (reply_told reply)
  Settles (Err stopped) =
      AnswersLine (answering (record { setup = setup; acknowledges = acknowledges; core = 0; log = 0 })) (WentBy Keeps) old new line
      before now below (Err stopped)
