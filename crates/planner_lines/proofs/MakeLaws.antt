-- What comes of a change, by what came of keeping it.
use Rattle.std.proofs.Common.{◌≡◌, refl, sym, ◌∙◌, ap, subst, ℕ, ◌<◌, ◌≤◌, Bool, true, false, List, [], Option, Some, None, Err, nat_lt, arith}
use Rattle.std.specs.Prelude.{IsTrue, IfSome, if◌then◌else◌}
use Rattle.std.specs.Option.{option_to_list}
use Rattle.std.proofs.lemmas.Bool.{ltb-true, ltb-false}
use Rattle.eon_model.specs.Services.{State}
use Rattle.eon_model.specs.Legal.{Setup}
use Rattle.eon_model.specs.Events.{Event, apply}
use Rattle.eon_model.specs.EventText.{room_for}
use Rattle.eon_model.specs.Replies as model
use Rattle.eon_model.specs.Step as step
use Rattle.eon_model.specs.Answers.{Answer, said, Gives, with_room, left_after}
use Rattle.eon_model.specs.Run.{situation}
use Rattle.reply_text.specs.Tellable.{can_tell}
use Rattle.change_log.specs.Keeping.{TellsRoom, kept_by, doubt_by}
use Rattle.change_log.specs.declared.log.Unkept.{Unkept}
use Rattle.planner_lines.specs.Making.{Makes, MayBeKept}
use Rattle.planner_lines.proofs.DecideLaws.{changed}

-- ---- room

-- there is room for the change
roomy : (left : Option ℕ) (e : Event) (r : model.Reply) → IfSome left (λ bytes. room_for e ≤ bytes) →
    with_room left (step.Change e r) ≡ step.Change e r
roomy None e r h = refl
roomy (Some left) e r h = by_test (nat_lt left (room_for e)) refl
  where
    by_test : (b : Bool) → nat_lt left (room_for e) ≡ b →
        (if b then step.Say (model.Reply.FullJournal (room_for e) left) else step.Change e r) ≡ step.Change e r
    by_test true t =
        let less = ltb-true left (room_for e) t in
        absurd (omega arith)
    by_test false t = refl

-- there is none
full : (left : Option ℕ) (e : Event) (r : model.Reply) (need bytes : ℕ) → left ≡ Some bytes → need ≡ room_for e →
    bytes < room_for e → with_room left (step.Change e r) ≡ step.Say (model.Reply.FullJournal need bytes)
full left e r need bytes is takes less =
    ap (λ (v : Option ℕ). with_room v (step.Change e r)) is ∙ by_test (nat_lt bytes (room_for e)) refl
  where
    by_test : (b : Bool) → nat_lt bytes (room_for e) ≡ b →
        (if b then step.Say (model.Reply.FullJournal (room_for e) bytes) else step.Change e r)
        ≡ step.Say (model.Reply.FullJournal need bytes)
    by_test true t = ap (λ (v : ℕ). step.Say (model.Reply.FullJournal v bytes)) (sym takes)
    by_test false t =
        let more = ltb-false bytes (room_for e) t in
        absurd (omega arith)

-- every change has an answer, whatever room there is
pub change-answered : (setup : Setup) (state : State) (left : Option ℕ) (e : Event) (r : model.Reply) →
    (a : Answer) × Gives setup state (with_room left (step.Change e r)) a
change-answered setup state None e r = (changed e r, refl)
change-answered setup state (Some left) e r = by_test (nat_lt left (room_for e))
  where
    by_test : (b : Bool) → (a : Answer)
        × Gives setup state (if b then step.Say (model.Reply.FullJournal (room_for e) left) else step.Change e r) a
    by_test true = (said (model.Reply.FullJournal (room_for e) left), refl)
    by_test false = (changed e r, refl)

-- ---- what comes of it

module _ (setup : Setup) (Keeps : List Event → Option Event → Type 0) (old new : State) (before after : Option ℕ) (e : Event)
    (r : model.Reply) where
  -- it was kept, and made
  pub made-it : IfSome before (λ bytes. room_for e ≤ bytes) → new ≡ apply setup.network old e →
      after ≡ left_after before (Some e) → Keeps (option_to_list (Some e)) None →
      Makes setup Keeps (situation old before) (situation new after) e r r
  made-it room made left kept = record {
    answer = changed e r;
    gives = subst (λ (o : step.Outcome). Gives setup old o (changed e r)) (sym (roomy before e r room)) refl;
    stands = ap (λ (v : State). situation v after) made
        ∙ ap (λ (v : Option ℕ). situation (apply setup.network old e) v) left;
    says = refl;
    tellable = λ tells. subst (λ (v : State). IsTrue (can_tell setup v r)) (sym made) tells;
    kept = kept;
  }

  none-left : (v : Option ℕ) → left_after v None ≡ v
  none-left None = refl
  none-left (Some v) = refl

  -- there was no room for it
  pub made-nothing : (need bytes : ℕ) → before ≡ Some bytes → need ≡ room_for e → bytes < room_for e →
      new ≡ old →
      after ≡ left_after before None → Keeps [] None →
      Makes setup Keeps (situation old before) (situation new after) e r (model.Reply.FullJournal need bytes)
  made-nothing need bytes is takes less made left kept = record {
    answer = said (model.Reply.FullJournal need bytes);
    gives = subst (λ (o : step.Outcome). Gives setup old o (said (model.Reply.FullJournal need bytes)))
        (sym (full before e r need bytes is takes less)) refl;
    stands = ap (λ (v : State). situation v after) made ∙ ap (λ (v : Option ℕ). situation old v) left;
    says = refl;
    tellable = λ tells. refl;
    kept = kept;
  }

  -- it was kept or not
  pub made-doubtful : (bytes : ℕ) → before ≡ Some bytes → room_for e ≤ bytes → Keeps [] (Some e) →
      MayBeKept setup Keeps (situation old before) (situation new after) e r
  made-doubtful bytes is room kept = record {
    gives = subst (λ (o : step.Outcome). Gives setup old o (changed e r))
        (sym (roomy before e r (subst (λ (v : Option ℕ). IfSome v (λ bytes. room_for e ≤ bytes)) (sym is) room))) refl;
    kept = kept;
    counted = λ none. let some : before ≡ Some bytes = is in cc;
  }

-- ---- what the log told of an event that was not kept

module _ (T : Type 0) (Keeps : List Event → Option Event → Type 0) (before after : Option ℕ) (e : Event) (u v : Unkept)
    (is : u ≡ v) where
  pub room-by : TellsRoom {T = T} before (room_for e) (Err u) → TellsRoom {T = T} before (room_for e) (Err v)
  room-by h = subst (λ (w : Unkept). TellsRoom {T = T} before (room_for e) (Err w)) is h

  pub left-by : after ≡ left_after before (kept_by {T = T} e (Err u)) → after ≡ left_after before (kept_by {T = T} e (Err v))
  left-by h = subst (λ (w : Unkept). after ≡ left_after before (kept_by {T = T} e (Err w))) is h

  pub kept-by : Keeps (option_to_list (kept_by {T = T} e (Err u))) (doubt_by {T = T} e (Err u)) →
      Keeps (option_to_list (kept_by {T = T} e (Err v))) (doubt_by {T = T} e (Err v))
  kept-by h = subst (λ (w : Unkept). Keeps (option_to_list (kept_by {T = T} e (Err w))) (doubt_by {T = T} e (Err w))) is h
