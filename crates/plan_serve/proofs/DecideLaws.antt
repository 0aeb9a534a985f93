-- What is decided on a line.
use Rattle.std.proofs.Common.{◌≡◌, ◌≢◌, refl, sym, ◌∙◌, ap, subst, ℕ, ◌<◌, ◌≤◌, true, false, List, Option, Some, None, Ok, Err, length}
use Rattle.std.specs.Prelude.{IsTrue}
use Rattle.std.specs.Io.KnownBytes.{Appends}
use Rattle.std.proofs.lemmas.Bool.{true_from_ne_false}
use Rattle.eon_model.specs.Services.{State}
use Rattle.eon_model.specs.Legal.{Setup}
use Rattle.eon_model.specs.Commands.{Command}
use Rattle.eon_model.specs.CommandText.{IsLine, IsFaultPlace}
use Rattle.eon_model.specs.Replies as model
use Rattle.eon_model.specs.ReplyText.{reply_text}
use Rattle.eon_model.specs.Events as changes
use Rattle.eon_model.specs.Step.{outcome_of}
use Rattle.eon_model.specs.Answers.{Gives, said, state_after, left_after, takes_memory}
use Rattle.eon_model.specs.OneLine as one
use Rattle.eon_model.specs.Run.{Situation, situation, situation_after, answer_text}
use Rattle.eon_outside.specs.Writing.{AppendsPart}
use Rattle.reply_text.specs.Replied.{reply_told}
use Rattle.reply_text.specs.Tellable.{can_tell}
use Rattle.reply_text.specs.declared.reply.Reply.{Reply}
use Rattle.reply_text.specs.declared.reply.Reply.TheVariants as reply
use Rattle.journal_record.specs.declared.event.Event.{Event}
use Rattle.journal_record.specs.Told.{event_told}
use Rattle.plan_core.specs.declared.decision.Decision.{Decision}
use Rattle.plan_core.specs.declared.decision.Decision.TheVariants.{Say, Change}
use Rattle.plan_core.specs.Told.{answer_of, CanBeTold}
use Rattle.plan_serve.specs.declared.answering.Flow.{Flow}
use Rattle.plan_serve.specs.Answering.{Decides, DecidesCommand, GoesOn, AnswersLine}

-- a reply alone
pub say_decides : (setup : Setup) (old new : State) (c : Command) (d : Decision) (r : Reply) → d ≡ Say r →
    new ≡ old → Gives setup old (outcome_of setup old c) (answer_of d) → CanBeTold setup old d →
    DecidesCommand setup (situation old None) (situation new None) c r
say_decides setup old new c d r is same gives tellable = λ line short of.
    let given = subst (λ (v : Decision). Gives setup old (outcome_of setup old c) (answer_of v)) is gives in
    let told = subst (λ (v : Decision). CanBeTold setup old v) is tellable in record {
      missed = false;
      answer = answer_of (Say r);
      has = record { is = one.Answered c refl short of given; only = tt };
      stands = ap (λ (v : State). situation v None) same;
      is = refl;
      can_tell = subst (λ (v : State). IsTrue (can_tell setup v (reply_told r))) (sym same) told;
    }

-- a change and its reply
pub change_decides : (setup here : Setup) (old mid new : State) (c : Command) (d : Decision) (e : Event)
    (r : Reply) → d ≡ Change e r → here ≡ setup → mid ≡ old →
    new ≡ changes.apply here.network mid (event_told e) →
    Gives setup old (outcome_of setup old c) (answer_of d) → CanBeTold setup old d →
    DecidesCommand setup (situation old None) (situation new None) c r
change_decides setup here old mid new c d e r is same stays changed gives tellable = λ line short of.
    let given = subst (λ (v : Decision). Gives setup old (outcome_of setup old c) (answer_of v)) is gives in
    let told = subst (λ (v : Decision). CanBeTold setup old v) is tellable in
    let after : new ≡ changes.apply setup.network old (event_told e) =
    changed ∙ ap (λ (v : Setup). changes.apply v.network mid (event_told e)) same
    ∙ ap (λ (v : State). changes.apply setup.network v (event_told e)) stays in record {
      missed = false;
      answer = answer_of (Change e r);
      has = record { is = one.Answered c refl short of given; only = tt };
      stands = ap (λ (v : State). situation v None) after;
      is = refl;
      can_tell = subst (λ (v : State). IsTrue (can_tell setup v (reply_told r))) (sym after) told;
    }

not_quit : (c : Command) → (takes_memory c ≡ false → ⊥) → c ≢ Command.Quit
not_quit c free e = free (ap takes_memory e)

-- there was no memory, and the command takes some
pub memory_decides : (setup : Setup) (old new : State) (c : Command) → new ≡ old →
    (takes_memory c ≡ false → ⊥) →
    DecidesCommand setup (situation old None) (situation new None) c reply.Memory
memory_decides setup old new c same free = λ line short of. record {
  missed = true;
  answer = said model.Reply.Memory;
  has = record {
    is = one.Missed c refl short of (not_quit c free) refl;
    only = (c, of, true_from_ne_false (takes_memory c) free);
  };
  stands = ap (λ (v : State). situation v None) same;
  is = refl;
  can_tell = refl;
}

-- where nothing changes
stays_there : (setup : Setup) (s : Situation) (r : model.Reply) → s ≡ situation_after setup s (said r)
stays_there setup s r = ap (situation s.state) (sym (same_left s.left))
  where
    same_left : (left : Option ℕ) → left_after left None ≡ left
    same_left None = refl
    same_left (Some left) = refl

-- a line of more bytes than a command has
pub long_decides : (setup : Setup) (s : Situation) (line : List ℕ) (r : Reply) → 4096 < length line →
    r ≡ reply.Line 4096 → Decides setup s s line r
long_decides setup s line r long is = subst (λ (v : Reply). Decides setup s s line v) (sym is)
    (record {
      missed = false;
      answer = said (model.Reply.Line 4096);
      has = record { is = one.Long refl long refl; only = tt };
      stands = stays_there setup s (model.Reply.Line 4096);
      is = refl;
      can_tell = refl;
    })

-- a line that is no command
pub fault_decides : (setup : Setup) (s : Situation) (line : List ℕ) (at : ℕ) → length line ≤ 4096 →
    (IsLine line → ⊥) → IsFaultPlace line at → Decides setup s s line (reply.Line at)
fault_decides setup s line at short none place = record {
  missed = false;
  answer = said (model.Reply.Line at);
  has = record {
    is = one.Fault at refl short none place refl;
    only = tt;
  };
  stands = stays_there setup s (model.Reply.Line at);
  is = refl;
  can_tell = refl;
}

-- ---- the reply is given

module _ (setup here : Setup) (old new : Situation) (there : State) (line : List ℕ) (r : Reply)
    (before now : Option (List ℕ)) (same : here ≡ setup) (stays : there ≡ new.state) (h : Decides setup old new line r) where
  text-is : reply_text here there (reply_told r) ≡ answer_text setup old.state h.answer
  text-is =
      ap (λ (v : Setup). reply_text v there (reply_told r)) same
      ∙ ap (λ (v : State). reply_text setup v (reply_told r)) (stays ∙ ap (λ (s : Situation). s.state) h.stands)
      ∙ ap (λ (v : model.Reply). reply_text setup (state_after setup.network old.state h.answer.event) v) (sym h.is)

  pub answers_whole : {E : Type 0} (flow : Flow) → Appends before now (reply_text here there (reply_told r)) →
      GoesOn flow line → AnswersLine {E = E} setup old new line before now (Ok flow)
  answers_whole flow given on = record {
    missed = h.missed;
    answer = h.answer;
    has = h.has;
    stands = h.stands;
    ok = (subst (λ (v : List ℕ). Appends before now v) text-is given, on);
    err = tt;
  }

  pub answers_part : {E : Type 0} (e : E) → AppendsPart before now (reply_text here there (reply_told r)) →
      AnswersLine {E = E} setup old new line before now (Err e)
  answers_part e part = record {
    missed = h.missed;
    answer = h.answer;
    has = h.has;
    stands = h.stands;
    ok = tt;
    err = subst (λ (v : List ℕ). AppendsPart before now v) text-is part;
  }
