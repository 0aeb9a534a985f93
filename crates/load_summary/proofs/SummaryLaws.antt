-- Summaries that tell of no want of memory.
use Rattle.std.proofs.Common.{◌≡◌, refl, sym, ◌∙◌, ap, subst, ℕ, ◌+◌, Bool, true, false, cond, List, [], ◌∷◌, Option, arith}
use Rattle.std.specs.Prelude.{MatchBool}
use Rattle.std.specs.List.{fold}
use Rattle.std.proofs.lemmas.Bool.{false≢true}
use Rattle.eon_model.specs.Lists.{has_number}
use Rattle.eon_model.specs.Services.{State}
use Rattle.eon_model.specs.Legal.{Setup}
use Rattle.eon_model.specs.Replies.{Reply}
use Rattle.eon_model.specs.Answers.{Answer, Answers}
use Rattle.eon_model.specs.OneLine as one
use Rattle.eon_model.specs.LineStream.{is_quit, AnswersEach}
use Rattle.eon_model.specs.LoadGenerator.{drive_lines}
use Rattle.eon_model.specs.DriveSummary.{replies_that, is_memory_reply, summary_text}
use Rattle.eon_model.specs.Run.{Situation, planner, situation, situation_after}
use Rattle.eon_model.proofs.OneAnswer.{Answers-unique}
use Rattle.load_summary.specs.Laws.{OneSummary}

-- ---- none is told

count_from : (p : Answer → Bool) (n : ℕ) (xs : List Answer) →
    fold (λ k y. k + cond (p y) 1 0) n xs ≡ n + fold (λ k y. k + cond (p y) 1 0) 0 xs
count_from p n [] = none n
  where
    none : (n : ℕ) → n ≡ n + 0
    none n = omega arith
count_from p n (y ∷ ys) =
    around n (cond (p y) 1 0) _ _ _ (count_from p (n + cond (p y) 1 0) ys) (count_from p (0 + cond (p y) 1 0) ys)
  where
    around : (n c a b k : ℕ) → a ≡ (n + c) + k → b ≡ (0 + c) + k → a ≡ n + b
    around n c a b k e f = omega (arith, e, f)

-- the first is not `memory`, and the others are none
record NoneTold (x : Answer) (xs : List Answer) : Type 0 where
  here : is_memory_reply x.reply ≡ false
  later : replies_that is_memory_reply xs ≡ 0

none_told : (x : Answer) (xs : List Answer) → replies_that is_memory_reply (x ∷ xs) ≡ 0 → NoneTold x xs
none_told x xs h =
    by (is_memory_reply x.reply) refl (sym (count_from (λ (a : Answer). is_memory_reply a.reply)
    (0 + cond (is_memory_reply x.reply) 1 0) xs) ∙ h)
  where
    by : (b : Bool) → is_memory_reply x.reply ≡ b → (0 + cond b 1 0) + replies_that is_memory_reply xs ≡ 0 → NoneTold x xs
    by true e k = absurd (omega (arith, k))
    by false e k = record { here = e; later = omega (arith, k) }

-- ---- one list of answers

module _ (setup : Setup) where
  unmissed : (state : State) (left : Option ℕ) (line : List ℕ) (m : Bool) (a : Answer) → is_memory_reply a.reply ≡ false →
      Answers setup state left line m a → Answers setup state left line false a
  unmissed state left line m a h (one.Long x long e) = one.Long refl long e
  unmissed state left line m a h (one.Fault p x short n f e) = one.Fault p refl short n f e
  unmissed state left line m a h (one.Missed c x short l q e) =
      absurd (false≢true (sym h ∙ ap (λ (v : Answer). is_memory_reply v.reply) e))
  unmissed state left line m a h (one.Answered c x short l s) = one.Answered c refl short l s

  rest : (quit : Bool) (xs ys : List Answer) (P Q : Type 0) → (P → Q → xs ≡ ys) → MatchBool quit (xs ≡ []) P →
      MatchBool quit (ys ≡ []) Q → xs ≡ ys
  rest true xs ys P Q f g h = g ∙ sym h
  rest false xs ys P Q f g h = f g h

  answers-unique : (missed others : List ℕ) (number : ℕ) (s : Situation) (lines : List (List ℕ)) (xs ys : List Answer) →
      AnswersEach (planner Answers setup) missed number s lines xs →
      AnswersEach (planner Answers setup) others number s lines ys → replies_that is_memory_reply xs ≡ 0 →
      replies_that is_memory_reply ys ≡ 0 → xs ≡ ys
  answers-unique missed others number s [] [] [] g h p q = refl
  answers-unique missed others number s [] [] (y ∷ ys) g h p q = absurd h
  answers-unique missed others number s [] (x ∷ xs) ys g h p q = absurd g
  answers-unique missed others number s (line ∷ lines) [] ys g h p q = absurd g
  answers-unique missed others number s (line ∷ lines) (x ∷ xs) [] g h p q = absurd h
  answers-unique missed others number s (line ∷ lines) (x ∷ xs) (y ∷ ys) g h p q =
      let told = none_told x xs p in
      let other = none_told y ys q in
      let same = Answers-unique setup s.state s.left line false x y
      (unmissed s.state s.left line (has_number missed number) x told.here g.0)
      (unmissed s.state s.left line (has_number others number) y other.here h.0) in
      let then = λ (v : Answer) (later : List Answer).
      AnswersEach (planner Answers setup) missed (number + 1) (situation_after setup s v) lines later in
      let moved : MatchBool (is_quit line) (xs ≡ []) (then y xs) =
      subst (λ (v : Answer). MatchBool (is_quit line) (xs ≡ []) (then v xs)) same g.1 in
      let later = rest (is_quit line) xs ys _ _ (λ a b. answers-unique missed others (number + 1) (situation_after setup s y)
      lines xs ys a b told.later other.later) moved h.1 in
      λ i. same i ∷ later i

pub summary-unique : OneSummary
summary-unique setup seed count missed others output more d e p q =
    d.told
    ∙ ap (summary_text setup) (answers-unique setup missed others 1 (situation [] _) (drive_lines setup seed count) d.answers
    e.answers d.answered e.answered p q)
    ∙ sym e.told
