-- A line that is told by its first bytes.
use Rattle.std.proofs.Common.{◌≡◌, refl, sym, ◌∙◌, ap, subst, ℕ, ◌≤◌, Bool, true, false, List, [], ◌++◌, length, take, Option, Result, Ok, Err, arith}
use Rattle.std.specs.Prelude.{MatchBool, ⊤, nat_le, IfOk}
use Rattle.std.specs.Io.KnownBytes.{Appends}
use Rattle.std.proofs.lemmas.Bool.{leb-true, le-leb, both_ways, false≢true}
use Rattle.std.proofs.lemmas.List.{take_all, length-take-le}
use Rattle.eon_model.specs.Legal.{Setup}
use Rattle.eon_model.specs.Answers.{Answer, Answers}
use Rattle.eon_model.specs.OneLine as one
use Rattle.eon_model.specs.Run.{Situation, answer_text}
use Rattle.plan_serve.specs.declared.answering.Flow.{Flow}
use Rattle.plan_serve.specs.declared.answering.Flow.TheVariants.{On, Ended}
use Rattle.plan_serve.specs.Answering.{TakesMemory, HasAnswer, GoesOn, AnswersLine}
use Rattle.plan_serve.specs.Lines.{most_kept}
use Rattle.plan_serve.proofs.KeptLaws.{take_front-append, empty_front}
use Rattle.plan_serve.proofs.QuitLaws.{is_quit-front}

answers_front : (setup : Setup) (s : Situation) (line : List ℕ) (m : Bool) (a : Answer) →
    (length line ≤ most_kept → ⊥) → Answers setup s.state s.left (take most_kept line) m a →
    Answers setup s.state s.left line m a
answers_front setup s line m a more (one.Long x long e) = one.Long x (omega arith) e
answers_front setup s line m a more (one.Fault p x short n f e) =
    let k = length-take-le most_kept line (omega arith) in absurd (omega arith)
answers_front setup s line m a more (one.Missed c x short l q e) =
    let k = length-take-le most_kept line (omega arith) in absurd (omega arith)
answers_front setup s line m a more (one.Answered c x short l k) =
    let k = length-take-le most_kept line (omega arith) in absurd (omega arith)

-- a line of more bytes than a command has is not missed
only_front : (setup : Setup) (s : Situation) (line : List ℕ) (m : Bool) (a : Answer) → (length line ≤ most_kept → ⊥) →
    Answers setup s.state s.left line m a → MatchBool m (TakesMemory line) ⊤
only_front setup s line false a more h = tt
only_front setup s line true a more (one.Long x long e) = absurd (false≢true (sym x))
only_front setup s line true a more (one.Fault p x short n f e) = absurd (false≢true (sym x))
only_front setup s line true a more (one.Missed c x short l q e) = absurd (omega arith)
only_front setup s line true a more (one.Answered c x short l k) = absurd (false≢true (sym x))

-- a line of more bytes than a command has is told by so many of its bytes
has-front : (setup : Setup) (s : Situation) (line : List ℕ) (m : Bool) (a : Answer) →
    HasAnswer setup s (take most_kept line) m a → HasAnswer setup s line m a
has-front setup s line m a h =
    elim (nat_le (length line) most_kept) as
    (λ (b : Bool). nat_le (length line) most_kept ≡ b → HasAnswer setup s line m a) [
      | true ↦ λ e. subst (λ (v : List ℕ). HasAnswer setup s v m a) (take_all most_kept line (leb-true _ _ e)) h
      | false ↦ λ e. let more : (length line ≤ most_kept → ⊥) = (λ short. both_ways _ e (le-leb _ _ short)) in
          let whole = answers_front setup s line m a more h.is in
          record { is = whole; only = only_front setup s line m a more whole }
    ] refl

goes_front : (flow : Flow) (line : List ℕ) → GoesOn flow (take most_kept line) → GoesOn flow line
goes_front On line h = sym (is_quit-front line) ∙ h
goes_front Ended line h = sym (is_quit-front line) ∙ h

ok_front : {E : Type 0} (r : Result Flow E) (line : List ℕ) (P : Type 0) →
    IfOk r (λ flow. P × GoesOn flow (take most_kept line)) → IfOk r (λ flow. P × GoesOn flow line)
ok_front (Ok flow) line P h = (h.0, goes_front flow line h.1)
ok_front (Err e) line P h = h

-- the answer to a long line is that to its first bytes
answers_long : {E : Type 0} (setup : Setup) (a b : Situation) (line : List ℕ) (p q : Option (List ℕ))
    (r : Result Flow E) → AnswersLine {E = E} setup a b (take most_kept line) p q r →
    AnswersLine {E = E} setup a b line p q r
answers_long {E} setup a b line p q r h = record {
  missed = h.missed;
  answer = h.answer;
  has = has-front setup a line h.missed h.answer h.has;
  stands = h.stands;
  ok = ok_front {E = E} r line (Appends p q (answer_text setup a.state h.answer)) h.ok;
  err = h.err;
}

-- the line is told by what was kept of its beginning and what came then
pub answers_kept : {E : Type 0} (setup : Setup) (a b : Situation) (begun fragment part line : List ℕ)
    (p q : Option (List ℕ)) (r : Result Flow E) → begun ≡ take most_kept fragment →
    line ≡ take most_kept (begun ++ part) → AnswersLine {E = E} setup a b line p q r →
    AnswersLine {E = E} setup a b (fragment ++ part) p q r
answers_kept {E} setup a b begun fragment part line p q r kept is h =
    answers_long setup a b (fragment ++ part) p q r
    (subst (λ (v : List ℕ). AnswersLine {E = E} setup a b v p q r)
    (is ∙ ap (λ (v : List ℕ). take most_kept (v ++ part)) kept ∙ take_front-append most_kept fragment part) h)

-- nothing had begun
pub answers_whole : {E : Type 0} (setup : Setup) (a b : Situation) (begun fragment part : List ℕ)
    (p q : Option (List ℕ)) (r : Result Flow E) → begun ≡ take most_kept fragment → begun ≡ [] →
    AnswersLine {E = E} setup a b part p q r →
    AnswersLine {E = E} setup a b (fragment ++ part) p q r
answers_whole {E} setup a b begun fragment part p q r kept none h =
    subst (λ (v : List ℕ). AnswersLine {E = E} setup a b (v ++ part) p q r)
    (sym (empty_front most_kept fragment (omega arith) (sym kept ∙ none))) h
