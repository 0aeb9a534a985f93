-- Lines that are answered one after the other.
use Rattle.std.proofs.Common.{◌≡◌, ◌≢◌, refl, sym, ◌∙◌, ap, subst, ℕ, ◌+◌, Bool, true, false, List, [], ◌∷◌, ◌++◌, append_assoc, length, length-append, Option, arith, not}
use Rattle.std.specs.Prelude.{MatchBool, ⊤}
use Rattle.std.specs.List.{list_all}
use Rattle.std.specs.Io.KnownBytes.{Appends}
use Rattle.std.proofs.lemmas.List.{append-nil}
use Rattle.eon_model.specs.Services.{State}
use Rattle.eon_model.specs.Legal.{Setup, Legal}
use Rattle.eon_model.specs.NetworkText.{is_setup}
use Rattle.eon_model.specs.Answers.{Answer, Answers, takes_memory}
use Rattle.eon_model.specs.LineStream.{is_quit, lines_of, AnswersEach, after_each}
use Rattle.eon_model.specs.Run.{Runs, Situation, situation_after, planner, answer_text, answers_text, changes_of, state_at_end, MissesOnly}
use Rattle.eon_model.proofs.AnswersWell.{Answers-well}
use Rattle.eon_model.proofs.RunLaws.{stays, states-sound, beginnings-early, answers_text-append}
use Rattle.eon_model.proofs.StreamRuns.{each-goes_on}
use Rattle.eon_model.proofs.MissedLines.{misses-fewer}
use Rattle.plan_serve.specs.Answering.{HasAnswer, TakesMemory}
use Rattle.plan_serve.specs.Session.{Answered, AreAnswered}
use Rattle.plan_serve.specs.Ends.{Serves, Begins, GoesOnBehind}
use Rattle.plan_serve.proofs.StreamLaws.{answers-then, answers-agree, with_mark, mark-below, mark-at, mark-behind, misses-agree, misses-none}

-- the state after some answers
pub after-answers : (setup : Setup) (s : Situation) (answers : List Answer) →
    (after_each (planner Answers setup) s answers).state ≡ state_at_end setup s.state answers
after-answers setup s [] = refl
after-answers setup s (a ∷ later) = after-answers setup (situation_after setup s a) later

end-append : (setup : Setup) (s : Situation) (xs ys : List Answer) →
    after_each (planner Answers setup) s (xs ++ ys)
    ≡ after_each (planner Answers setup) (after_each (planner Answers setup) s xs) ys
end-append setup s [] ys = refl
end-append setup s (x ∷ xs) ys = end-append setup (situation_after setup s x) xs ys

-- ---- one line more

pub answered_none : (setup : Setup) (start : Situation) → AreAnswered setup start [] start []
answered_none setup start = record {
  missed = [];
  answers = [];
  answered = tt;
  behind = λ n l. refl;
  only = tt;
  stands = refl;
  told = refl;
}

module _ (setup : Setup) (start here : Situation) (lines : List (List ℕ)) (text line : List ℕ) (mark : Bool) (a : Answer)
    (none_quits : list_all (λ line. not (is_quit line)) lines ≡ true) (h : AreAnswered setup start lines here text)
    (has : HasAnswer setup here line mark a) where
  abbrev number : ℕ
  number = 1 + length lines

  abbrev missed : List ℕ
  missed = with_mark mark number h.missed

  abbrev nothing : List Answer
  nothing = []

  last : (more : List (List ℕ)) (s : Situation) (quit : Bool) → MatchBool quit ⊤ (more ≡ []) →
      MatchBool quit (nothing ≡ []) (AnswersEach (planner Answers setup) missed (number + 1) s more nothing)
  last more s true e = refl
  last more s false e =
      subst (λ (v : List (List ℕ)). AnswersEach (planner Answers setup) missed (number + 1) s v nothing) (sym e) tt

  -- behind the answers so far the line is answered so; where it is `quit`, whatever comes behind it
  next_line : (more : List (List ℕ)) → MatchBool (is_quit line) ⊤ (more ≡ []) →
      Answered setup missed start (lines ++ line ∷ more) (h.answers ++ a ∷ [])
  next_line more end =
      answers-then (planner Answers setup) missed 1 start lines (line ∷ more) h.answers (a ∷ []) none_quits
      (answers-agree (planner Answers setup) h.missed missed 1 start lines h.answers
      (λ n l. mark-below mark number n h.missed l) h.answered)
      (subst (λ (s : Situation). AnswersEach (planner Answers setup) missed number s (line ∷ more) (a ∷ nothing))
      h.stands (
        subst (λ (b : Bool). Answers setup here.state here.left line b a) (mark-at mark number h.missed h.behind) has.is,
        last more (situation_after setup here a) (is_quit line) end,
      ))

  one_more : length (lines ++ line ∷ []) + 1 ≡ number + 1
  one_more = ap (λ (n : ℕ). n + 1) (length-append lines (line ∷ [])) ∙ omega arith

  any_end : (quit : Bool) → MatchBool quit ⊤ (◌≡◌ {A = List (List ℕ)} [] [])
  any_end true = tt
  any_end false = refl

  pub answered_more : AreAnswered setup start (lines ++ line ∷ []) (situation_after setup here a)
      (text ++ answer_text setup here.state a)
  answered_more = record {
    missed = missed;
    answers = h.answers ++ a ∷ [];
    answered = next_line [] (any_end (is_quit line));
    behind = λ n l. mark-behind mark number h.missed h.behind n (omega (arith, one_more));
    only = misses-agree takes_memory h.missed missed 1 lines (line ∷ []) (λ n l. mark-below mark number n h.missed l) h.only
        (subst (λ (b : Bool). MatchBool b (TakesMemory line) ⊤) (mark-at mark number h.missed h.behind) has.only, tt);
    stands = sym (end-append setup start h.answers (a ∷ [])
        ∙ ap (λ (v : Situation). situation_after setup v a) (sym h.stands));
    told = ap (λ (v : List ℕ). v ++ answer_text setup here.state a) h.told
        ∙ ap (λ (v : State). answers_text setup start.state h.answers ++ answer_text setup v a)
        (ap (λ (v : Situation). v.state) h.stands ∙ after-answers setup start h.answers)
        ∙ ap (λ (v : List ℕ). answers_text setup start.state h.answers ++ v)
        (sym (append-nil (answer_text setup (state_at_end setup start.state h.answers) a)))
        ∙ sym (answers_text-append setup start.state h.answers (a ∷ []));
  }

  pub answers_more : answered_more.answers ≡ h.answers ++ a ∷ []
  unfolding answered_more
  answers_more = refl

  -- the answers up to `quit`, whatever comes behind it
  pub answered_quit : is_quit line ≡ true → (more : List (List ℕ)) →
      Answered setup answered_more.missed start ((lines ++ line ∷ []) ++ more) answered_more.answers
  unfolding answered_more
  answered_quit quit more =
      subst (λ (v : List (List ℕ)). Answered setup missed start v (h.answers ++ a ∷ [])) (sym (append_assoc lines (line ∷ []) more))
      (next_line more (subst (λ (b : Bool). MatchBool b ⊤ (more ≡ [])) (sym quit) tt))

-- ---- runs

module _ (setup : Setup) (start here : Situation) (ok : is_setup setup ≡ true) (legal : Legal setup start.state)
    (lines : List (List ℕ)) (text : List ℕ) (h : AreAnswered setup start lines here text)
    (bytes : List ℕ) (before now : Option (List ℕ)) where
  -- all lines are answered
  pub serves_lines : lines_of bytes ≡ lines → Appends before now text → Serves setup start bytes before now
  serves_lines is given =
      let run : Runs Answers setup start.state start.left bytes h.missed text (changes_of h.answers) = record {
        answers = h.answers;
        answered = subst (λ (v : List (List ℕ)). Answered setup h.missed start v h.answers) (sym is) h.answered;
        told = h.told;
        changed = refl;
      } in record {
        missed = h.missed;
        output = text;
        changes = changes_of h.answers;
        run = run;
        only = subst (λ (v : List (List ℕ)). MissesOnly takes_memory h.missed 1 v) (sym is) h.only;
        sound = (states-sound Answers Answers-well setup start.state start.left bytes h.missed ok legal).0 text
            (changes_of h.answers) run;
        given = given;
      }

  -- only lines of commands that take memory are missed, whatever comes behind these
  only_more : (more : List (List ℕ)) → MissesOnly takes_memory h.missed 1 (lines ++ more)
  only_more more = misses-agree takes_memory h.missed h.missed 1 lines more (λ n l. refl) h.only
      (misses-none takes_memory h.missed (1 + length lines) more h.behind)

  -- all lines up to `quit` are answered
  pub serves_quit : (more : List (List ℕ)) → lines_of bytes ≡ lines ++ more →
      Answered setup h.missed start (lines ++ more) h.answers → Appends before now text →
      Serves setup start bytes before now
  serves_quit more is whole given =
      let run : Runs Answers setup start.state start.left bytes h.missed text (changes_of h.answers) = record {
        answers = h.answers;
        answered = subst (λ (v : List (List ℕ)). Answered setup h.missed start v h.answers) (sym is) whole;
        told = h.told;
        changed = refl;
      } in record {
        missed = h.missed;
        output = text;
        changes = changes_of h.answers;
        run = run;
        only = subst (λ (v : List (List ℕ)). MissesOnly takes_memory h.missed 1 v) (sym is) (only_more more);
        sound = (states-sound Answers Answers-well setup start.state start.left bytes h.missed ok legal).0 text
            (changes_of h.answers) run;
        given = given;
      }

  -- A run over more lines: its output begins with this text.
  record GoesOn : Type 0 where
    answers : List Answer
    rest : List ℕ
    run : Runs Answers setup start.state start.left bytes h.missed (text ++ rest) (changes_of answers)

  goes_on : (more : List (List ℕ)) → lines_of bytes ≡ lines ++ more → GoesOn
  goes_on more is =
      let later = each-goes_on (planner Answers setup) (λ s. Legal setup s.state)
      (stays Answers Answers-well setup ok) h.missed 1 start lines more h.answers legal h.behind
      h.answered in
      let rest = answers_text setup (state_at_end setup start.state h.answers) later.0 in record {
        answers = h.answers ++ later.0;
        rest = rest;
        run = record {
          answers = h.answers ++ later.0;
          answered = subst (λ (v : List (List ℕ)). Answered setup h.missed start v (h.answers ++ later.0)) (sym is) later.1;
          told = ap (λ (v : List ℕ). v ++ rest) h.told ∙ sym (answers_text-append setup start.state h.answers later.0);
          changed = refl;
        };
      }

  -- a front of the answers was given
  pub begins_front : (more : List (List ℕ)) (front left : List ℕ) → lines_of bytes ≡ lines ++ more → front ++ left ≡ text →
      Appends before now front → (b : Begins setup start bytes before now) × (b.part ≡ front)
  begins_front more front left is cut given =
      let r = goes_on more is in
      let part : front ++ (left ++ r.rest) ≡ text ++ r.rest =
      sym (append_assoc front left r.rest) ∙ ap (λ (v : List ℕ). v ++ r.rest) cut in
      let early = beginnings-early Answers Answers-well setup start.state start.left bytes h.missed (text ++ r.rest) front
      (changes_of r.answers) ok legal r.run (left ++ r.rest, part) in (
        record {
          missed = early.0;
          part = front;
          run = early.1.1;
          only = misses-fewer takes_memory h.missed early.0 1 (lines_of bytes) early.1.0
              (subst (λ (v : List (List ℕ)). MissesOnly takes_memory h.missed 1 v) (sym is) (only_more more));
          sound = (states-sound Answers Answers-well setup start.state start.left bytes early.0 ok legal).1 front early.1.1;
          given = given;
        },
        refl,
      )

  -- and not all of them
  pub ends_early : (more : List (List ℕ)) (front left : List ℕ) → lines_of bytes ≡ lines ++ more → front ++ left ≡ text →
      left ≢ [] → GoesOnBehind setup start bytes front
  ends_early more front left is cut some =
      let r = goes_on more is in record {
        missed = h.missed;
        rest = left ++ r.rest;
        changes = changes_of r.answers;
        more = λ none. some (first_empty left r.rest none);
        run = subst (λ (v : List ℕ). Runs Answers setup start.state start.left bytes h.missed v (changes_of r.answers))
            (sym (sym (append_assoc front left r.rest) ∙ ap (λ (v : List ℕ). v ++ r.rest) cut)) r.run;
      }
    where
      first_empty : (xs ys : List ℕ) → xs ++ ys ≡ [] → xs ≡ []
      first_empty [] ys e = refl
      first_empty (x ∷ xs) ys e = cc
