-- How a line stands before its reply is given, and behind it.
use Rattle.std.proofs.Common.{◌≡◌, refl, sym, ◌∙◌, ap, subst, inl, inr, ℕ, ◌<◌, Bool, true, false, List, [], ◌∷◌, length, Option, Some, None, Result, Ok, Err, arith}
use Rattle.std.specs.Prelude.{IsTrue, ◌&&◌, is_some, codes}
use Rattle.std.specs.Option.{option_to_list}
use Rattle.std.specs.Io.KnownBytes.{Appends}
use Rattle.std.proofs.lemmas.List.{append-nil}
use Rattle.eon_model.specs.Services.{State}
use Rattle.eon_model.specs.Legal.{Setup, Legal}
use Rattle.eon_model.specs.NetworkText.{is_setup}
use Rattle.eon_model.specs.Events.{Event}
use Rattle.eon_model.specs.Replies as model
use Rattle.eon_model.specs.ReplyText.{reply_text}
use Rattle.eon_model.specs.Step as step
use Rattle.eon_model.specs.Answers.{Answer, Answers, Gives, said, with_room, state_after, left_after}
use Rattle.eon_model.specs.OneLine as one
use Rattle.eon_model.specs.LawsOfRuns.{NeitherBegins}
use Rattle.eon_model.specs.Run.{Situation, situation, answer_text}
use Rattle.eon_model.proofs.AnswersWell.{Answers-well}
use Rattle.eon_outside.specs.Held.{given_since}
use Rattle.eon_outside.specs.Writing.{AppendsPart}
use Rattle.reply_text.specs.Tellable.{can_tell}
use Rattle.reply_text.specs.declared.reply.Reply.{Reply}
use Rattle.reply_text.specs.Replied.{reply_told}
use Rattle.journal_record.specs.declared.event.Event as told_event
use Rattle.journal_record.specs.Told.{event_told}
use Rattle.plan_core.specs.declared.decision.Decision.{Decision}
use Rattle.plan_core.specs.declared.decision.Decision.TheVariants.{Say, Change}
use Rattle.line_session.specs.Answering.{AnswersLine, GoesOn, Took}
use Rattle.line_session.specs.declared.answerer.Flow.{Flow}
use Rattle.line_session.specs.declared.answerer.Stopped.{Stopped}
use Rattle.line_session.specs.declared.answerer.Stopped.TheVariants.{Output, Disk}
use Rattle.planner_lines.specs.Answering.{Setting, answering, WentBy, IsReady}
use Rattle.planner_lines.specs.Deciding.{Decided, Says, Changes}
use Rattle.planner_lines.specs.Making.{Makes, MayBeKept, MakesBy}
use Rattle.planner_lines.specs.Settling.{Settled, Settles}
use Rattle.planner_lines.proofs.DecideLaws.{changed}
use Rattle.planner_lines.proofs.MakeLaws.{change-answered}
use Rattle.planner_lines.proofs.GivenLaws.{given-same, given-behind, part-behind, none-given, took-on}

-- ---- answers

-- The text of an answer that is not missed is not empty.
some-bytes : (text : List ℕ) → NeitherBegins text (codes "memory\n") → 0 < length text
some-bytes [] h = absurd (h.0 (codes "memory\n", refl))
some-bytes (b ∷ text) h = omega arith

answer-bytes : (setup : Setup) (s : Situation) (line : List ℕ) (a : Answer) → Answers setup s.state s.left line false a →
    0 < length (answer_text setup s.state a)
answer-bytes setup s line a h = some-bytes (answer_text setup s.state a) (Answers-well.told setup s.state s.left line false a h)

-- the line of a command that comes to a change has the answer that the change has
change-answers : (setup : Setup) (s : Situation) (line : List ℕ) (e : Event) (r : model.Reply) → Changes setup s.state line e r →
    (a : Answer) → Gives setup s.state (with_room s.left (step.Change e r)) a → Answers setup s.state s.left line false a
change-answers setup s line e r c a h =
    one.Answered c.command refl c.short c.of
    (subst (λ (o : step.Outcome). Gives setup s.state (with_room s.left o) a) (sym c.comes) h)

-- ---- before the reply is given

module _ (setup : Setup) (acknowledges : Bool) (Keeps : List Event → Option Event → Type 0) (old : Situation) (line : List ℕ) where
  -- there is a reply alone
  pub said-settled : (new : Situation) (known : Option (List ℕ)) (held : List ℕ) (r : model.Reply) → Says setup old.state line r →
      new ≡ old → Keeps [] None →
      Settled setup acknowledges Keeps old new line (given_since known known held) (given_since known known held) known r
  said-settled new known held r says same kept = record {
    missed = says.missed;
    answer = said r;
    is = says.is old.left;
    only = says.only;
    stands = same ∙ ap (situation old.state) (sym (same_left old.left));
    says = refl;
    tellable = subst (λ (v : Situation). IsTrue (can_tell setup v.state r)) (sym same) says.can_tell;
    kept = kept;
    same = given-same known held;
    took = λ change. never acknowledges change;
  }
    where
      same_left : (left : Option ℕ) → left_after left None ≡ left
      same_left None = refl
      same_left (Some left) = refl

      never : (b : Bool) {P : Type 0} → IsTrue (b && false) → P
      never true h = absurd (let f : false ≡ true = h in cc)
      never false h = absurd (let f : false ≡ true = h in cc)

  -- a change was kept and made, or there was no room for it
  pub change-settled : (new : Situation) (before now below : Option (List ℕ)) (e : Event) (r reply : model.Reply) →
      Changes setup old.state line e r → Makes setup Keeps old new e r reply → Appends before now [] →
      (acknowledges ≡ true → Took before below) → Settled setup acknowledges Keeps old new line before now below reply
  change-settled new before now below e r reply c m same took = record {
    missed = false;
    answer = m.answer;
    is = change-answers setup old line e r c m.answer m.gives;
    only = tt;
    stands = m.stands;
    says = m.says;
    tellable = m.tellable c.can_tell;
    kept = m.kept;
    same = same;
    took = λ change. took (first acknowledges (is_some m.answer.event) change);
  }
    where
      first : (a b : Bool) → IsTrue (a && b) → a ≡ true
      first true b h = refl
      first false b h = h

  abbrev here : Setting
  here = record { setup = setup; acknowledges = acknowledges; core = 0; log = 0 }

  -- what was held could not be given: nothing was kept
  pub not-given : (new : Situation) (before now below : Option (List ℕ)) (e : Event) (r : model.Reply) →
      Changes setup old.state line e r → Appends before now [] → Keeps [] None →
      AnswersLine (answering here) (WentBy Keeps) old new line before now below (Err Output)
  not-given new before now below e r c same kept =
      let a = change-answered setup old.state old.left e r in
      let is = change-answers setup old line e r c a.0 a.1 in
      record {
        missed = false;
        answer = a.0;
        is = is;
        only = tt;
        comes = (none-given before now (answer_text setup old.state a.0) (answer-bytes setup old line a.0 is) same, inl (kept, tt));
      }

  -- the change may be kept
  pub not-sure : (new : Situation) (before now below : Option (List ℕ)) (e : Event) (r : model.Reply) (IsOpen : Type 0) →
      Changes setup old.state line e r → MayBeKept setup Keeps old new e r → Appends before now [] →
      IsReady setup old acknowledges IsOpen → (acknowledges ≡ true → Took before below) →
      AnswersLine (answering here) (WentBy Keeps) old new line before now below (Err Disk)
  not-sure new before now below e r IsOpen c m same ready took =
      let is = change-answers setup old line e r c (changed e r) m.gives in
      record {
        missed = false;
        answer = changed e r;
        is = is;
        only = tt;
        comes = (
          none-given before now (answer_text setup old.state (changed e r)) (answer-bytes setup old line (changed e r) is) same,
          (m.kept, refl),
          by_pace acknowledges ready.uncounted took,
        );
      }
    where
      by_pace : (b : Bool) → (b ≡ false → old.left ≡ None) → (b ≡ true → Took before below) → Took before below
      by_pace true uncounted took = took refl
      by_pace false uncounted took = absurd (m.counted (uncounted refl))

  -- by what came of keeping the change
  pub settles-made : (new : Situation) (before now below : Option (List ℕ)) (e : Event) (r : model.Reply) (IsOpen : Type 0)
      (result : Result Reply Stopped) → Changes setup old.state line e r → MakesBy setup Keeps old new e r result →
      Appends before now [] → IsReady setup old acknowledges IsOpen → (acknowledges ≡ true → Took before below) →
      Settles setup acknowledges Keeps old new line before now below result
  settles-made new before now below e r IsOpen (Ok reply) c m same ready took =
      change-settled new before now below e r (reply_told reply) c m same took
  settles-made new before now below e r IsOpen (Err Output) c m same ready took = absurd m
  settles-made new before now below e r IsOpen (Err Disk) c m same ready took =
      not-sure new before now below e r IsOpen c m same ready took

-- what is decided, where it is known which it is
pub says-of : (setup : Setup) (state : State) (line : List ℕ) (d : Decision) (r : Reply) → d ≡ Say r →
    Decided setup state line d → Says setup state line (reply_told r)
says-of setup state line d r is h = subst (λ (v : Decision). Decided setup state line v) is h

pub changes-of : (setup : Setup) (state : State) (line : List ℕ) (d : Decision) (e : told_event.Event) (r : Reply) → d ≡ Change e r →
    Decided setup state line d → Changes setup state line (event_told e) (reply_told r)
changes-of setup state line d e r is h = subst (λ (v : Decision). Decided setup state line v) is h

-- ---- behind it

module _ (s : Setting) (Keeps : List Event → Option Event → Type 0) (old new : Situation) (line : List ℕ)
    (before mid after : Option (List ℕ)) (held there left : List ℕ) (r : model.Reply)
    (h : Settled s.setup s.acknowledges Keeps old new line (given_since before before held) (given_since before mid there) mid r) where
  text-is : (setup : Setup) (state : State) → setup ≡ s.setup → state ≡ new.state →
      reply_text setup state r ≡ answer_text s.setup old.state h.answer
  text-is setup state same stays =
      ap (λ (v : Setup). reply_text v state r) same
      ∙ ap (λ (v : State). reply_text s.setup v r) (stays ∙ ap (λ (v : Situation). v.state) h.stands)
      ∙ ap (λ (v : model.Reply). reply_text s.setup (state_after s.setup.network old.state h.answer.event) v) (sym h.says)

  went : WentBy Keeps (h.answer ∷ []) None
  went = (subst (λ (es : List Event). Keeps es None) (sym (append-nil (option_to_list h.answer.event))) h.kept, tt)

  -- the reply was given, or is held back
  pub given-whole : (here : Setup) (state : State) (flow : Flow) → here ≡ s.setup → state ≡ new.state → GoesOn flow line →
      Appends (given_since mid mid there) (given_since mid after left) (reply_text here state r) →
      AnswersLine (answering s) (WentBy Keeps) old new line (given_since before before held) (given_since before after left) after
      (Ok flow)
  given-whole here state flow same stays on given = record {
    missed = h.missed;
    answer = h.answer;
    is = h.is;
    only = h.only;
    comes = (
      h.stands,
      on,
      subst (λ (v : List ℕ). Appends (given_since before before held) (given_since before after left) v) (text-is here state same stays)
          (given-behind before mid after held there left (reply_text here state r) h.same given),
      went,
      λ change. took-on before mid after held there left (reply_text here state r) h.same (h.took change) given,
    );
  }

  -- a part of it was
  pub given-part : (here : Setup) (state : State) → here ≡ s.setup → state ≡ new.state →
      AppendsPart (given_since mid mid there) (given_since mid after left) (reply_text here state r) →
      AnswersLine (answering s) (WentBy Keeps) old new line (given_since before before held) (given_since before after left) after
      (Err Output)
  given-part here state same stays part = record {
    missed = h.missed;
    answer = h.answer;
    is = h.is;
    only = h.only;
    comes = (
      subst (λ (v : List ℕ). AppendsPart (given_since before before held) (given_since before after left) v) (text-is here state same stays)
          (part-behind before mid after held there left (reply_text here state r) h.same part),
      inr (went, λ change. took-on before mid after held there left _ h.same (h.took change) part.2),
    );
  }

  -- and it is ready for the next line
  pub still-ready : (IsOpen WasOpen : Type 0) (here : Setup) (acknowledges : Bool) → acknowledges ≡ s.acknowledges →
      IsReady s.setup old s.acknowledges WasOpen → IsOpen → IsTrue (is_setup here) → Legal here new.state →
      IsReady here new acknowledges IsOpen
  still-ready IsOpen WasOpen here acknowledges same ready open_log ok legal = record {
    open_log = open_log;
    in_range = ok;
    legal = legal;
    uncounted = λ large. ap (λ (v : Situation). v.left) h.stands
        ∙ none_after old.left h.answer.event (ready.uncounted (sym same ∙ large));
  }
    where
      none_after : (o : Option ℕ) (e : Option Event) → o ≡ None → left_after o e ≡ None
      none_after None e is = refl
      none_after (Some n) e is = absurd (let f : Some n ≡ None = is in cc)

-- ---- what was settled, seen from before the decision

pub settles-from : (setup there : Setup) (state at : State) (acknowledges : Bool) (Keeps : List Event → Option Event → Type 0)
    (left : Option ℕ) (new : Situation) (line : List ℕ) (before now below : Option (List ℕ)) (d : Decision)
    (result : Result Reply Stopped) → there ≡ setup → at ≡ state → Decided setup state line d →
    (Decided there at line d → Settles there acknowledges Keeps (situation at left) new line before now below result) →
    Settles setup acknowledges Keeps (situation state left) new line before now below result
settles-from setup there state at acknowledges Keeps left new line before now below d result same stays decided h =
    subst (λ (v : Setup). Decided v state line d → Settles v acknowledges Keeps (situation state left) new line before now below result)
    same
    (subst (λ (v : State). Decided there v line d → Settles there acknowledges Keeps (situation v left) new line before now below result)
    stays h) decided

-- what can be told of this state on this setup can be told where both stand for others
pub told-there : (setup there : Setup) (state at : State) (r : model.Reply) → there ≡ setup → at ≡ state →
    IsTrue (can_tell setup state r) → IsTrue (can_tell there at r)
told-there setup there state at r same stays h =
    subst (λ (v : Setup). IsTrue (can_tell v at r)) (sym same)
    (subst (λ (v : State). IsTrue (can_tell setup v r)) (sym stays) h)
