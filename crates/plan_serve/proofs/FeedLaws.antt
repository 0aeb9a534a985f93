-- A piece of the stream whose replies are given to the sink below.
use Rattle.std.proofs.Common.{◌≡◌, sym, ◌∙◌, ap, zero, suc, inl, inr, ℕ, ◌<◌, ◌==◌, false, List, [], ◌∷◌, ◌++◌, length, drop, Option, Ok, Err, arith}
use Rattle.std.specs.Io.KnownBytes.{Keeps}
use Rattle.std.proofs.lemmas.List.{append-nil, length-drop}
use Rattle.eon_model.specs.Run.{Situation}
use Rattle.eon_model.specs.Legal.{Setup}
use Rattle.eon_outside.specs.declared.reading.Failed.{Failed}
use Rattle.eon_outside.specs.Held.{given_since, Flushes}
use Rattle.plan_serve.specs.declared.answering.Flow.{Flow}
use Rattle.plan_serve.specs.declared.answering.Flow.TheVariants.{On, Ended}
use Rattle.plan_serve.specs.declared.status.Status.TheVariants.{Done}
use Rattle.plan_serve.specs.Session.{Goes, Quits, Breaks, Feeds, FinishesAt}
use Rattle.plan_serve.proofs.HeldLaws.{flush_keeps, appends_kept}

goes_kept : (setup : Setup) (start here : Situation) (before p q : Option (List ℕ)) (begun bytes : List ℕ) → Keeps p q →
    Goes setup start before here begun bytes p → Goes setup start before here begun bytes q
goes_kept setup start here before p q begun bytes kept h = record {
  lines = h.lines;
  rest = h.rest;
  splits = h.splits;
  unended = h.unended;
  kept = h.kept;
  none_quits = h.none_quits;
  text = h.text;
  answered = h.answered;
  given = appends_kept before p q h.text h.given kept;
}

quits_kept : (setup : Setup) (start : Situation) (before p q : Option (List ℕ)) (bytes : List ℕ) → Keeps p q →
    Quits setup start before bytes p → Quits setup start before bytes q
quits_kept setup start before p q bytes kept h = record {
  lines = h.lines;
  rest = h.rest;
  splits = h.splits;
  quits = h.quits;
  here = h.here;
  text = h.text;
  answered = h.answered;
  whole = h.whole;
  given = appends_kept before p q h.text h.given kept;
}

module _ (setup : Setup) (start here : Situation) (before s p q : Option (List ℕ)) (begun bytes held left : List ℕ) where
  -- all replies were given
  pub fed_given : {T : Type 0} (x : T) (flow : Flow) → Flushes {T = T} {E = Failed} p q held left (Ok x) →
      Feeds {E = Failed} setup start before here begun bytes [] (given_since s p held) (Ok flow) →
      Feeds {E = Failed} setup start before here begun bytes left (given_since s q left) (Ok flow)
  fed_given {T} x On flushed h =
      goes_kept setup start here before (given_since s p held) (given_since s q left) begun bytes
      (flush_keeps {T = T} {E = Failed} s p q held left (Ok x) flushed) h
  fed_given {T} x Ended flushed h =
      quits_kept setup start before (given_since s p held) (given_since s q left) bytes
      (flush_keeps {T = T} {E = Failed} s p q held left (Ok x) flushed) h

  some_left : (n : ℕ) → n < length held → left ≡ drop n held → left ++ [] ≡ [] → ⊥
  some_left n low is none =
      let a : length (drop n held) ≡ 0 = ap length (sym is ∙ sym (append-nil left) ∙ none) in
      let b = length-drop n held in omega arith

  -- or a part of them alone
  pub fed_part : (T : Type 0) (flow : Flow) (e : Failed) → Flushes {T = T} {E = Failed} p q held left (Err e) →
      Feeds {E = Failed} setup start before here begun bytes [] (given_since s p held) (Ok flow) →
      Breaks setup start before bytes left (given_since s q left)
  fed_part T On e flushed h = record {
    lines = h.lines;
    rest = h.rest;
    splits = h.splits;
    here = here;
    text = h.text;
    answered = h.answered;
    front = h.text;
    left = [];
    is = append-nil h.text;
    some = some_left flushed.0 flushed.1 flushed.3;
    given = appends_kept before (given_since s p held) (given_since s q left) h.text h.given
        (flush_keeps {T = T} s p q held left (Err e) flushed);
  }
  fed_part T Ended e flushed h = record {
    lines = h.lines;
    rest = h.rest;
    splits = h.splits;
    here = h.here;
    text = h.text;
    answered = h.answered;
    front = h.text;
    left = [];
    is = append-nil h.text;
    some = some_left flushed.0 flushed.1 flushed.3;
    given = appends_kept before (given_since s p held) (given_since s q left) h.text h.given
        (flush_keeps {T = T} s p q held left (Err e) flushed);
  }

-- what is held does not count where some is left
pub fed_broken : (setup : Setup) (start : Situation) (before now : Option (List ℕ)) (bytes held : List ℕ) →
    Breaks setup start before bytes [] now → Breaks setup start before bytes held now
fed_broken setup start before now bytes held h = record {
  lines = h.lines;
  rest = h.rest;
  splits = h.splits;
  here = h.here;
  text = h.text;
  answered = h.answered;
  front = h.front;
  left = h.left;
  is = h.is;
  some = λ none. h.some (none_behind held h.left none);
  given = h.given;
}
  where
    none_behind : (xs ys : List ℕ) → xs ++ ys ≡ [] → ys ≡ []
    none_behind [] ys e = e
    none_behind (x ∷ xs) ys e = cc

above_zero : (n : ℕ) → (n == 0) ≡ false → 0 < n
above_zero zero e = absurd (cc)
above_zero (suc n) e = omega arith

-- what is not empty is not nothing
pub not_nothing : (begun : List ℕ) (n : ℕ) → (n == 0) ≡ false → length begun ≡ n → begun ≡ [] → ⊥
not_nothing begun n e size none =
    let some = above_zero n e in
    let k : length begun ≡ 0 = ap length none in omega arith

-- what has begun is answered, where it is something
pub finishes_fed : (setup : Setup) (start here : Situation) (before now : Option (List ℕ)) (begun kept bytes held : List ℕ)
    (flow : Flow) → (begun ≡ [] → ⊥) →
    Feeds {E = Failed} setup start before here kept (bytes ++ 10 ∷ []) held now (Ok flow) →
    FinishesAt setup start before here begun bytes held now Done
finishes_fed setup start here before now begun kept bytes held On some h = inr (some, inl (kept, h))
finishes_fed setup start here before now begun kept bytes held Ended some h = inr (some, inr h)
