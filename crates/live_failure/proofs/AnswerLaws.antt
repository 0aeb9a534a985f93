-- What is decided on a line, and given.
use Rattle.std.proofs.Common.{◌≡◌, refl, sym, subst, ℕ, ◌<◌, ◌≤◌, true, false, List, Option, Ok, Err, length}
use Rattle.std.specs.Prelude.{IsTrue}
use Rattle.std.specs.Io.KnownBytes.{Appends}
use Rattle.eon_model.specs.LiveCommands.{LiveCommand, live_takes_memory, IsLiveLine, IsLiveFaultPlace}
use Rattle.eon_model.specs.LiveReplies.{live_reply_text}
use Rattle.eon_model.specs.OneLine as one
use Rattle.eon_outside.specs.Writing.{AppendsPart}
use Rattle.line_session.specs.declared.answerer.Flow.{Flow}
use Rattle.line_session.specs.Answering.{GoesOn}
use Rattle.live_failure.specs.declared.reply.LiveReply.{LiveReply}
use Rattle.live_failure.specs.declared.reply.LiveReply.TheVariants as reply
use Rattle.live_failure.specs.Answering.{answer_told, Does, Decides, DecidesCommand, GivesAnswer}
use Rattle.live_failure.specs.Replied.{reply_told}
use Rattle.live_failure.specs.Seen.{LiveSeen}

-- what is said to a command
pub command_decides : (old new : LiveSeen) (c : LiveCommand) (r : LiveReply) → Does old new c r → DecidesCommand old new c r
command_decides old new c r h = λ line short of. record {
  setup = h.setup;
  state = h.state;
  missed = false;
  is = one.Answered c refl short of h.answer;
}

-- there was no memory, and the command takes some
pub memory_decides : (old : LiveSeen) (c : LiveCommand) → IsTrue (live_takes_memory c) →
    DecidesCommand old old c reply.Memory
memory_decides old c free = λ line short of. record {
  setup = refl;
  state = refl;
  missed = true;
  is = one.Missed c refl short of free refl;
}

-- a line of more bytes than a command has
pub long_decides : (old : LiveSeen) (line : List ℕ) (at : ℕ) → 4096 < length line → at ≡ 4096 →
    Decides old old line (reply.Line at)
long_decides old line at long is = subst (λ (n : ℕ). Decides old old line (reply.Line n)) (sym is) (record {
  setup = refl;
  state = refl;
  missed = false;
  is = one.Long refl long refl;
})

-- a line that is no command
pub fault_decides : (old : LiveSeen) (line : List ℕ) (at : ℕ) → length line ≤ 4096 → (IsLiveLine line → ⊥) →
    IsLiveFaultPlace line at → Decides old old line (reply.Line at)
fault_decides old line at short none place = record {
  setup = refl;
  state = refl;
  missed = false;
  is = one.Fault at refl short none place refl;
}

-- ---- the reply is given

module _ (old new : LiveSeen) (line : List ℕ) (r : LiveReply) (before now : Option (List ℕ)) (h : Decides old new line r) where
  text-is : live_reply_text new.setup.network (reply_told new.state r) ≡ live_reply_text old.setup.network (reply_told old.state r)
  text-is = λ i. live_reply_text (h.setup i).network (reply_told (h.state i) r)

  pub answers_whole : {E : Type 0} (flow : Flow) →
      Appends before now (live_reply_text new.setup.network (reply_told new.state r)) → GoesOn flow line →
      GivesAnswer {E = E} old new line before now (Ok flow)
  answers_whole flow given on = record {
    setup = h.setup;
    state = h.state;
    missed = h.missed;
    answer = answer_told old.state r new.failed;
    is = h.is;
    failed = refl;
    ok = (subst (λ (v : List ℕ). Appends before now v) text-is given, on);
    err = tt;
  }

  pub answers_part : {E : Type 0} (e : E) →
      AppendsPart before now (live_reply_text new.setup.network (reply_told new.state r)) →
      GivesAnswer {E = E} old new line before now (Err e)
  answers_part e part = record {
    setup = h.setup;
    state = h.state;
    missed = h.missed;
    answer = answer_told old.state r new.failed;
    is = h.is;
    failed = refl;
    ok = tt;
    err = subst (λ (v : List ℕ). AppendsPart before now v) text-is part;
  }
