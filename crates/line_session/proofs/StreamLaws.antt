-- Of a machine that answers lines: more lines behind those that are answered, and other numbers of missed lines.
use Rattle.std.proofs.Common.{◌≡◌, refl, eq-eqb, sym, ◌∙◌, ap, subst, ℕ, ◌+◌, ◌<◌, Bool, true, false, ◌||◌, not, List, [], ◌∷◌, ◌++◌, length, arith}
use Rattle.std.specs.Prelude.{MatchBool, ⊤, ◌==◌}
use Rattle.std.specs.List.{list_all}
use Rattle.std.proofs.lemmas.Bool.{and_parts, not-true, eqb-true, false_from_ne_true, both_ways}
use Rattle.eon_model.specs.Lists.{has_number}
use Rattle.eon_model.specs.LineStream.{is_quit, MissesNoneFrom, Machine, AnswersEach, after_each}
use Rattle.line_session.specs.Answering.{MissesOnlyWhere}

module _ {S A : Type 0} (m : Machine S A) where
  -- whole answers to lines that are not `quit`, and those to the lines behind
  pub answers-then : (missed : List ℕ) (number : ℕ) (s : S) (lines more : List (List ℕ)) (answers later : List A) →
      list_all (λ line. not (is_quit line)) lines ≡ true → AnswersEach m missed number s lines answers →
      AnswersEach m missed (number + length lines) (after_each m s answers) more later →
      AnswersEach m missed number s (lines ++ more) (answers ++ later)
  answers-then missed number s [] more [] later q h b =
      subst (λ (n : ℕ). AnswersEach m missed n s more later) (omega arith) b
  answers-then missed number s [] more (a ∷ answers) later q h b = absurd h
  answers-then missed number s (line ∷ lines) more [] later q h b = absurd h
  answers-then missed number s (line ∷ lines) more (a ∷ answers) later q h b =
      let next = m.after s a in
      let parts = and_parts (not (is_quit line)) (list_all (λ line. not (is_quit line)) lines) q in
      let goes_on = not-true (is_quit line) parts.0 in
      let rest = AnswersEach m missed (number + 1) next lines answers in
      let whole = AnswersEach m missed (number + 1) next (lines ++ more) (answers ++ later) in (
        h.0,
        subst (λ (quit : Bool). MatchBool quit (answers ++ later ≡ []) whole) (sym goes_on)
            (answers-then missed (number + 1) next lines more answers later parts.1
            (subst (λ (quit : Bool). MatchBool quit (answers ≡ []) rest) goes_on h.1)
            (subst (λ (n : ℕ). AnswersEach m missed n (after_each m next answers) more later) (omega arith) b)),
      )

  behind : (quit : Bool) (later : List A) (P Q : Type 0) → (P → Q) → MatchBool quit (later ≡ []) P →
      MatchBool quit (later ≡ []) Q
  behind true later P Q f h = h
  behind false later P Q f h = f h

  -- the same lines are missed
  pub answers-agree : (missed others : List ℕ) (number : ℕ) (s : S) (lines : List (List ℕ)) (answers : List A) →
      ((n : ℕ) → n < number + length lines → has_number missed n ≡ has_number others n) →
      AnswersEach m missed number s lines answers → AnswersEach m others number s lines answers
  answers-agree missed others number s [] [] same h = tt
  answers-agree missed others number s [] (a ∷ answers) same h = absurd h
  answers-agree missed others number s (line ∷ lines) [] same h = absurd h
  answers-agree missed others number s (line ∷ lines) (a ∷ answers) same h = (
    subst (λ (b : Bool). m.IsAnswer s line b a) (same number (omega arith)) h.0,
    behind (is_quit line) answers _ _
        (answers-agree missed others (number + 1) (m.after s a) lines answers (λ n l. same n (omega arith))) h.1,
  )

-- ---- one line more is missed, or is not

pub with_mark : Bool → ℕ → List ℕ → List ℕ
with_mark true n missed = n ∷ missed
with_mark false n missed = missed

pub mark-below : (b : Bool) (n k : ℕ) (missed : List ℕ) → k < n →
    has_number missed k ≡ has_number (with_mark b n missed) k
unfolding with_mark
mark-below true n k missed l =
    sym (ap (λ (c : Bool). c || has_number missed k)
    (false_from_ne_true (n == k) (λ e. let same : n ≡ k = eqb-true n k e in absurd (omega arith))))
mark-below false n k missed l = refl

pub mark-at : (b : Bool) (n : ℕ) (missed : List ℕ) → MissesNoneFrom missed n →
    b ≡ has_number (with_mark b n missed) n
unfolding with_mark
mark-at true n missed none = sym (ap (λ (c : Bool). c || has_number missed n) (eq-eqb n n refl))
mark-at false n missed none = sym (none n (omega arith))

pub mark-behind : (b : Bool) (n : ℕ) (missed : List ℕ) → MissesNoneFrom missed n →
    MissesNoneFrom (with_mark b n missed) (n + 1)
unfolding with_mark
mark-behind true n missed none k l =
    ap (λ (c : Bool). c || has_number missed k)
    (false_from_ne_true (n == k) (λ e. let same : n ≡ k = eqb-true n k e in absurd (omega arith)))
    ∙ none k (omega arith)
mark-behind false n missed none k l = none k (omega arith)

-- ---- which lines are missed

module _ (May : List ℕ → Type 0) where
  pub misses-agree : (missed others : List ℕ) (number : ℕ) (lines more : List (List ℕ)) →
      ((n : ℕ) → n < number + length lines → has_number missed n ≡ has_number others n) →
      MissesOnlyWhere May missed number lines → MissesOnlyWhere May others (number + length lines) more →
      MissesOnlyWhere May others number (lines ++ more)
  misses-agree missed others number [] more same h b =
      subst (λ (n : ℕ). MissesOnlyWhere May others n more) (omega arith) b
  misses-agree missed others number (line ∷ lines) more same h b = (
    subst (λ (b : Bool). MatchBool b (May line) ⊤) (same number (omega arith)) h.0,
    misses-agree missed others (number + 1) lines more (λ n l. same n (omega arith)) h.1
        (subst (λ (n : ℕ). MissesOnlyWhere May others n more) (omega arith) b),
  )

  pub misses-none : (missed : List ℕ) (number : ℕ) (lines : List (List ℕ)) → MissesNoneFrom missed number →
      MissesOnlyWhere May missed number lines
  misses-none missed number [] none = tt
  misses-none missed number (line ∷ lines) none = (
    subst (λ (b : Bool). MatchBool b (May line) ⊤) (sym (none number (omega arith))) tt,
    misses-none missed (number + 1) lines (λ n l. none n (omega arith)),
  )

  one-fewer : (p q : Bool) (P : Type 0) → (q ≡ true → p ≡ true) → MatchBool p P ⊤ → MatchBool q P ⊤
  one-fewer true true P f h = h
  one-fewer true false P f h = tt
  one-fewer false true P f h = absurd (both_ways false refl (f refl))
  one-fewer false false P f h = tt

  -- where fewer are missed
  pub misses-fewer : (missed others : List ℕ) (number : ℕ) (lines : List (List ℕ)) →
      ((n : ℕ) → has_number others n ≡ true → has_number missed n ≡ true) → MissesOnlyWhere May missed number lines →
      MissesOnlyWhere May others number lines
  misses-fewer missed others number [] fewer h = tt
  misses-fewer missed others number (line ∷ lines) fewer h = (
    one-fewer (has_number missed number) (has_number others number) (May line) (fewer number) h.0,
    misses-fewer missed others (number + 1) lines fewer h.1,
  )
