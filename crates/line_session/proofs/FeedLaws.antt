-- A piece of the stream whose replies are given to the sink below.
use Rattle.std.proofs.Common.{◌≡◌, sym, ◌∙◌, ap, subst, zero, suc, inl, inr, ℕ, ◌<◌, ◌==◌, false, List, [], ◌∷◌, ◌++◌, length, drop, Option, None, Some, Result, Ok, Err, arith}
use Rattle.std.specs.Io.KnownBytes.{append_known}
use Rattle.std.proofs.lemmas.List.{append-nil, length-drop}
use Rattle.eon_model.specs.LineStream.{each_text}
use Rattle.eon_outside.specs.Held.{Flushes}
use Rattle.eon_outside.specs.Faults.{Standing}
use Rattle.eon_outside.specs.declared.reading.Failed.{Failed}
use Rattle.line_session.specs.Answering.{Answering, StandsBehind}
use Rattle.line_session.specs.Ends.{StandsAt}
use Rattle.line_session.specs.Runs.{IsAcknowledged}
use Rattle.line_session.specs.Session.{AreAnswered, AreGiven, Breaks, Feeds, FinishesAt, outcome_of}
use Rattle.line_session.specs.Lines.{Splits}
use Rattle.line_session.specs.declared.answerer.Flow.{Flow}
use Rattle.line_session.specs.declared.answerer.Flow.TheVariants.{On, Ended}
use Rattle.line_session.specs.declared.answerer.Stopped.{Stopped}
use Rattle.line_session.specs.declared.answerer.Stopped.TheVariants.{Output, Disk}
use Rattle.line_session.specs.declared.session.Outcome.{Outcome}
use Rattle.line_session.specs.declared.session.Outcome.TheVariants.{Done}
use Rattle.line_session.proofs.AcknowledgedLaws.{acknowledged_on}
use Rattle.line_session.proofs.HeldLaws.{grows_more, flush_keeps, flush_grows, appends_kept}

module _ {S A : Type 0} (by : Answering S A) (Went : List A → Option A → Type 0) (start here : S)
    (before o n : Option (List ℕ)) (begun bytes held left : List ℕ) where
  given_flushed : {T : Type 0} (r : Result T Failed) (answers : List A) → Flushes o n held left r →
      AreGiven by Went start answers before (append_known o held) o →
      AreGiven by Went start answers before (append_known n left) n
  given_flushed r answers flushed h =
      let grows = flush_grows o n held left r flushed in record {
        went = h.went;
        given = appends_kept before (append_known o held) (append_known n left) (each_text by.machine start answers) h.given
            (flush_keeps o n held left r flushed);
        grown = grows_more before o n h.grown grows;
        acknowledged = acknowledged_on by start answers before o n h.acknowledged h.grown grows;
      }

  -- all replies were given
  pub fed_given : {T : Type 0} (x : T) (flow : Flow) → Flushes {E = Failed} o n held left (Ok x) →
      Feeds by Went start before here begun bytes [] (append_known o held) o (Ok flow) →
      Feeds by Went start before here begun bytes left (append_known n left) n (Ok flow)
  fed_given x On flushed h = record {
    lines = h.lines;
    rest = h.rest;
    splits = h.splits;
    unended = h.unended;
    kept = h.kept;
    none_quits = h.none_quits;
    answers = h.answers;
    answered = h.answered;
    are = given_flushed (Ok x) h.answers flushed h.are;
  }
  fed_given x Ended flushed h = record {
    lines = h.lines;
    rest = h.rest;
    splits = h.splits;
    quits = h.quits;
    here = h.here;
    answers = h.answers;
    answered = h.answered;
    whole = h.whole;
    are = given_flushed (Ok x) h.answers flushed h.are;
  }

  some_left : (m : ℕ) → m < length held → left ≡ drop m held → left ++ [] ≡ [] → ⊥
  some_left m low is none =
      let a : length (drop m held) ≡ 0 = ap length (sym is ∙ sym (append-nil left) ∙ none) in
      let b = length-drop m held in omega arith

  broken : (T : Type 0) (e : Failed) (lines : List (List ℕ)) (rest : List ℕ) (last : S) (answers : List A) → Splits bytes lines rest →
      AreAnswered by start lines last answers → Flushes {T = T} o n held left (Err e) →
      AreGiven by Went start answers before (append_known o held) o →
      Breaks by Went start None before bytes left (append_known n left) n
  broken T e lines rest last answers splits answered flushed h =
      let k = given_flushed {T = T} (Err e) answers flushed h in record {
        lines = lines;
        rest = rest;
        splits = splits;
        here = last;
        answers = answers;
        answered = answered;
        done = answers;
        others = [];
        carried = append-nil (answers ++ []) ∙ append-nil answers;
        near = omega arith;
        went = k.went;
        front = each_text by.machine start answers;
        left = [];
        is = append-nil (each_text by.machine start answers);
        some = some_left flushed.0 flushed.1 flushed.3;
        given = k.given;
        grown = k.grown;
        acknowledged = subst (λ (v : List A). IsAcknowledged by start v before n) (sym (append-nil answers)) k.acknowledged;
      }

  -- or a part of them alone
  pub fed_part : (T : Type 0) (flow : Flow) (e : Failed) → Flushes {T = T} o n held left (Err e) →
      Feeds by Went start before here begun bytes [] (append_known o held) o (Ok flow) →
      Breaks by Went start None before bytes left (append_known n left) n
  fed_part T On e flushed h = broken T e h.lines h.rest here h.answers h.splits h.answered flushed h.are
  fed_part T Ended e flushed h = broken T e h.lines h.rest h.here h.answers h.splits h.answered flushed h.are

none_behind : (xs ys : List ℕ) → xs ++ ys ≡ [] → ys ≡ []
none_behind [] ys e = e
none_behind (x ∷ xs) ys e = cc

module _ {S A : Type 0} (by : Answering S A) (Went : List A → Option A → Type 0) (start : S) (before total below : Option (List ℕ))
    (bytes held : List ℕ) where
  held_aside : (doubt : Option A) → Breaks by Went start doubt before bytes [] total below →
      Breaks by Went start doubt before bytes held total below
  held_aside doubt h = record {
    lines = h.lines;
    rest = h.rest;
    splits = h.splits;
    here = h.here;
    answers = h.answers;
    answered = h.answered;
    done = h.done;
    others = h.others;
    carried = h.carried;
    near = h.near;
    went = h.went;
    front = h.front;
    left = h.left;
    is = h.is;
    some = λ none. h.some (none_behind held h.left none);
    given = h.given;
    grown = h.grown;
    acknowledged = h.acknowledged;
  }

  -- what is held does not count where some is left
  pub fed_broken : (here : S) (begun : List ℕ) (stopped : Stopped) →
      Feeds by Went start before here begun bytes [] total below (Err stopped) →
      Feeds by Went start before here begun bytes held total below (Err stopped)
  fed_broken here begun Output h = held_aside None h
  fed_broken here begun Disk h = (h.0, held_aside (Some h.0) h.1)

-- ---- the last line

above_zero : (n : ℕ) → (n == 0) ≡ false → 0 < n
above_zero zero e = absurd (cc)
above_zero (suc n) e = omega arith

-- what is not empty is not nothing
pub not_nothing : (begun : List ℕ) (n : ℕ) → (n == 0) ≡ false → length begun ≡ n → begun ≡ [] → ⊥
not_nothing begun n e size none =
    let some = above_zero n e in
    let k : length begun ≡ 0 = ap length none in omega arith

module _ {S A : Type 0} (by : Answering S A) (Went : List A → Option A → Type 0) (start here : S)
    (before total below : Option (List ℕ)) (begun kept bytes held : List ℕ) (some : begun ≡ [] → ⊥) where
  -- what has begun is answered, where it is something
  pub finishes_fed : (flow : Flow) → Feeds by Went start before here kept (bytes ++ 10 ∷ []) held total below (Ok flow) →
      FinishesAt by Went start before here begun bytes held total below Done
  finishes_fed On h = inr (some, inl (kept, h))
  finishes_fed Ended h = inr (some, inr h)

  -- or it is not answered whole
  pub finishes_broken : (stopped : Stopped) (end : Outcome) → end ≡ outcome_of stopped →
      Feeds by Went start before here kept (bytes ++ 10 ∷ []) held total below (Err stopped) →
      FinishesAt by Went start before here begun bytes held total below end
  finishes_broken stopped end is h =
      subst (λ (v : Outcome). FinishesAt by Went start before here begun bytes held total below v) (sym is) (at_stop stopped h)
    where
      at_stop : (stopped : Stopped) → Feeds by Went start before here kept (bytes ++ 10 ∷ []) held total below (Err stopped) →
          FinishesAt by Went start before here begun bytes held total below (outcome_of stopped)
      at_stop Output h = (some, h)
      at_stop Disk h = (some, h)

-- the standing behind a line that was not answered whole
pub stands_at : (stopped : Stopped) (end : Outcome) (before now : Standing) → end ≡ outcome_of stopped →
    StandsBehind {T = Flow} (Err stopped) before now → StandsAt end before now
stands_at stopped end before now is h =
    subst (λ (v : Outcome). StandsAt v before now) (sym is) (at_stop stopped h)
  where
    at_stop : (stopped : Stopped) → StandsBehind {T = Flow} (Err stopped) before now → StandsAt (outcome_of stopped) before now
    at_stop Output h = h
    at_stop Disk h = h
