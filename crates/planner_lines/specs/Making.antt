-- What comes of a change that is to be kept and made.
use Rattle.std.specs.Prelude.{◌≡◌, ◌≢◌, IsTrue, List, [], Option, None, Some, Result, Ok, Err}
use Rattle.std.specs.Option.{option_to_list}
use Rattle.eon_model.specs.Legal.{Setup}
use Rattle.eon_model.specs.Events.{Event, apply}
use Rattle.eon_model.specs.Replies as model
use Rattle.eon_model.specs.Step as step
use Rattle.eon_model.specs.Answers.{Answer, with_room, Gives}
use Rattle.eon_model.specs.Run.{Situation, situation_after}
use Rattle.reply_text.specs.Replied.{reply_told}
use Rattle.reply_text.specs.Tellable.{can_tell}
use Rattle.reply_text.specs.declared.reply.Reply.{Reply}
use Rattle.line_session.specs.declared.answerer.Stopped.{Stopped}
use Rattle.line_session.specs.declared.answerer.Stopped.TheVariants.{Output, Disk}

module _ (setup : Setup) (Keeps : List Event → Option Event → Type 0) (old new : Situation) (e : Event) (r : model.Reply) where
  -- It was kept and made, or there was no room for it: the answer, which has this reply, was carried out.
  pub record Makes (reply : model.Reply) : Type 0 where
    pub answer : Answer
    pub gives : Gives setup old.state (with_room old.left (step.Change e r)) answer
    pub stands : new ≡ situation_after setup old answer
    pub says : answer.reply ≡ reply
    pub tellable : IsTrue (can_tell setup (apply setup.network old.state e) r) → IsTrue (can_tell setup new.state reply)
    pub kept : Keeps (option_to_list answer.event) None

  -- There was room for it, and it was kept or not. So bytes are counted.
  pub record MayBeKept : Type 0 where
    pub gives : Gives setup old.state (with_room old.left (step.Change e r)) (record { reply = r; event = Some e })
    pub kept : Keeps [] (Some e)
    pub counted : old.left ≢ None

  -- what came of it
  abbrev pub MakesBy : Result Reply Stopped → Type 0
  MakesBy (Ok reply) = Makes (reply_told reply)
  MakesBy (Err Output) = ⊥
  MakesBy (Err Disk) = MayBeKept
