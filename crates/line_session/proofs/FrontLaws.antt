-- A line that is told by its first bytes.
use Rattle.std.proofs.Common.{◌≡◌, refl, sym, ◌∙◌, ap, subst, ℕ, ◌≤◌, ◌<◌, Bool, true, false, List, [], ◌++◌, length, take, Option, Result, Ok, Err, arith}
use Rattle.std.specs.Prelude.{MatchBool, ⊤, nat_le}
use Rattle.std.proofs.lemmas.Bool.{leb-true, le-leb, both_ways}
use Rattle.std.proofs.lemmas.List.{take_all}
use Rattle.line_session.specs.declared.answerer.Flow.{Flow}
use Rattle.line_session.specs.declared.answerer.Flow.TheVariants.{On, Ended}
use Rattle.line_session.specs.declared.answerer.Stopped.{Stopped}
use Rattle.line_session.specs.declared.answerer.Stopped.TheVariants.{Output, Disk}
use Rattle.line_session.specs.Answering.{Answering, AnswersLine, Comes, GoesOn, IsLawful}
use Rattle.line_session.specs.Lines.{most_kept}
use Rattle.line_session.proofs.KeptLaws.{take_front-append, empty_front}
use Rattle.line_session.proofs.QuitLaws.{is_quit-front}

goes_front : (flow : Flow) (line : List ℕ) → GoesOn flow (take most_kept line) → GoesOn flow line
goes_front On line h = sym (is_quit-front line) ∙ h
goes_front Ended line h = sym (is_quit-front line) ∙ h

module _ {S A : Type 0} (by : Answering S A) (Went : List A → Option A → Type 0) (Well : S → Type 0) (start : S)
    (lawful : IsLawful by Well start) (old new : S) (p q below : Option (List ℕ)) where
  comes_front : (r : Result Flow Stopped) (line : List ℕ) (a : A) →
      Comes by Went old new (take most_kept line) a p q below r → Comes by Went old new line a p q below r
  comes_front (Ok flow) line a h = (h.0, goes_front flow line h.1, h.2, h.3, h.4)
  comes_front (Err Output) line a h = h
  comes_front (Err Disk) line a h = h

  not_missed : (m : Bool) (P : Type 0) → m ≡ false → MatchBool m P ⊤
  not_missed false P e = tt
  not_missed true P e = absurd (both_ways true e refl)

  answers_more : (line : List ℕ) (r : Result Flow Stopped) → 4096 < length line →
      AnswersLine by Went old new (take most_kept line) p q below r → AnswersLine by Went old new line p q below r
  answers_more line r long h =
      let k = lawful.long old line h.missed h.answer long h.is in record {
        missed = h.missed;
        answer = h.answer;
        is = k.1;
        only = not_missed h.missed (by.MayMiss line) k.0;
        comes = comes_front r line h.answer h.comes;
      }

  -- the answer to a long line is that to its first bytes
  pub answers_front : (line : List ℕ) (r : Result Flow Stopped) → AnswersLine by Went old new (take most_kept line) p q below r →
      AnswersLine by Went old new line p q below r
  answers_front line r h =
      elim (nat_le (length line) most_kept) as
      (λ (b : Bool). nat_le (length line) most_kept ≡ b → AnswersLine by Went old new line p q below r) [
        | true ↦ λ e. subst (λ (v : List ℕ). AnswersLine by Went old new v p q below r)
            (take_all most_kept line (leb-true _ _ e)) h
        | false ↦ λ e. let more : (length line ≤ most_kept → ⊥) = (λ short. both_ways _ e (le-leb _ _ short)) in
            answers_more line r (omega arith) h
      ] refl

  -- the line is told by what was kept of its beginning and what came then
  pub answers_kept : (begun fragment part line : List ℕ) (r : Result Flow Stopped) → begun ≡ take most_kept fragment →
      line ≡ take most_kept (begun ++ part) → AnswersLine by Went old new line p q below r →
      AnswersLine by Went old new (fragment ++ part) p q below r
  answers_kept begun fragment part line r kept is h =
      answers_front (fragment ++ part) r
      (subst (λ (v : List ℕ). AnswersLine by Went old new v p q below r)
      (is ∙ ap (λ (v : List ℕ). take most_kept (v ++ part)) kept ∙ take_front-append most_kept fragment part) h)

-- nothing had begun
pub answers_whole : {S A : Type 0} (by : Answering S A) (Went : List A → Option A → Type 0) (old new : S)
    (p q below : Option (List ℕ)) (begun fragment part : List ℕ) (r : Result Flow Stopped) →
    begun ≡ take most_kept fragment → begun ≡ [] → AnswersLine by Went old new part p q below r →
    AnswersLine by Went old new (fragment ++ part) p q below r
answers_whole by Went old new p q below begun fragment part r kept none h =
    subst (λ (v : List ℕ). AnswersLine by Went old new (v ++ part) p q below r)
    (sym (empty_front most_kept fragment (omega arith) (sym kept ∙ none))) h
