-- Lines that are answered one after the other.
use Rattle.std.proofs.Common.{◌≡◌, ◌≢◌, refl, sym, ◌∙◌, ap, subst, ℕ, ◌+◌, Bool, true, false, List, [], ◌∷◌, ◌++◌, append_assoc, length, length-append, Option, None, arith, not}
use Rattle.std.specs.Prelude.{MatchBool, ⊤}
use Rattle.std.specs.List.{list_all}
use Rattle.std.specs.Io.KnownBytes.{Appends}
use Rattle.eon_model.specs.LineStream.{is_quit, lines_of, AnswersEach, after_each, each_text, Replies}
use Rattle.eon_model.proofs.StreamRuns.{StaysWell, each-goes_on, each_text-append}
use Rattle.line_session.specs.Answering.{Answering, IsLawful, MissesOnlyWhere}
use Rattle.line_session.specs.Session.{AreAnswered}
use Rattle.line_session.specs.Runs.{Serves, Begins, GoesOnBehind}
use Rattle.line_session.proofs.StreamLaws.{answers-then, answers-agree, with_mark, mark-below, mark-at, mark-behind, misses-agree, misses-none, misses-fewer}

module _ {S A : Type 0} (by : Answering S A) (start : S) where
  after-append : (s : S) (xs ys : List A) →
      after_each by.machine s (xs ++ ys) ≡ after_each by.machine (after_each by.machine s xs) ys
  after-append s [] ys = refl
  after-append s (x ∷ xs) ys = after-append (by.machine.after s x) xs ys

  -- ---- one line more

  pub answered_none : AreAnswered by start [] start []
  answered_none = record { missed = []; answered = tt; behind = λ n l. refl; only = tt; stands = refl }

  module _ (here : S) (lines : List (List ℕ)) (answers : List A) (line : List ℕ) (mark : Bool) (a : A)
      (none_quits : list_all (λ line. not (is_quit line)) lines ≡ true) (h : AreAnswered by start lines here answers)
      (is : by.machine.IsAnswer here line mark a) (only : MatchBool mark (by.MayMiss line) ⊤) where
    abbrev number : ℕ
    number = 1 + length lines

    abbrev missed : List ℕ
    missed = with_mark mark number h.missed

    abbrev nothing : List A
    nothing = []

    last : (more : List (List ℕ)) (s : S) (quit : Bool) → MatchBool quit ⊤ (more ≡ []) →
        MatchBool quit (nothing ≡ []) (AnswersEach by.machine missed (number + 1) s more nothing)
    last more s true e = refl
    last more s false e =
        subst (λ (v : List (List ℕ)). AnswersEach by.machine missed (number + 1) s v nothing) (sym e) tt

    -- behind the answers so far the line is answered so; where it is `quit`, whatever comes behind it
    next_line : (more : List (List ℕ)) → MatchBool (is_quit line) ⊤ (more ≡ []) →
        AnswersEach by.machine missed 1 start (lines ++ line ∷ more) (answers ++ a ∷ [])
    next_line more end =
        answers-then by.machine missed 1 start lines (line ∷ more) answers (a ∷ []) none_quits
        (answers-agree by.machine h.missed missed 1 start lines answers
        (λ n l. mark-below mark number n h.missed l) h.answered)
        (subst (λ (s : S). AnswersEach by.machine missed number s (line ∷ more) (a ∷ nothing))
        h.stands (
          subst (λ (b : Bool). by.machine.IsAnswer here line b a) (mark-at mark number h.missed h.behind) is,
          last more (by.machine.after here a) (is_quit line) end,
        ))

    one_more : length (lines ++ line ∷ []) + 1 ≡ number + 1
    one_more = ap (λ (n : ℕ). n + 1) (length-append lines (line ∷ [])) ∙ omega arith

    any_end : (quit : Bool) → MatchBool quit ⊤ (◌≡◌ {A = List (List ℕ)} [] [])
    any_end true = tt
    any_end false = refl

    pub answered_more : AreAnswered by start (lines ++ line ∷ []) (by.machine.after here a) (answers ++ a ∷ [])
    answered_more = record {
      missed = missed;
      answered = next_line [] (any_end (is_quit line));
      behind = λ n l. mark-behind mark number h.missed h.behind n (omega (arith, one_more));
      only = misses-agree by.MayMiss h.missed missed 1 lines (line ∷ []) (λ n l. mark-below mark number n h.missed l) h.only
          (subst (λ (b : Bool). MatchBool b (by.MayMiss line) ⊤) (mark-at mark number h.missed h.behind) only, tt);
      stands = sym (after-append start answers (a ∷ []) ∙ ap (λ (v : S). by.machine.after v a) (sym h.stands));
    }

    -- the answers up to `quit`, whatever comes behind it
    pub answered_quit : is_quit line ≡ true → (more : List (List ℕ)) →
        AnswersEach by.machine answered_more.missed 1 start ((lines ++ line ∷ []) ++ more) (answers ++ a ∷ [])
    unfolding answered_more
    answered_quit quit more =
        subst (λ (v : List (List ℕ)). AnswersEach by.machine missed 1 start v (answers ++ a ∷ []))
        (sym (append_assoc lines (line ∷ []) more))
        (next_line more (subst (λ (b : Bool). MatchBool b ⊤ (more ≡ [])) (sym quit) tt))

  -- ---- runs

  module _ (Went : List A → Option A → Type 0) (here : S) (lines : List (List ℕ)) (answers : List A)
      (h : AreAnswered by start lines here answers) (bytes : List ℕ) (before now : Option (List ℕ)) where
    -- all lines are answered
    pub serves_lines : lines_of bytes ≡ lines → Went answers None → Appends before now (each_text by.machine start answers) →
        Serves by Went start bytes before now
    serves_lines is went given = record {
      missed = h.missed;
      output = each_text by.machine start answers;
      run = record {
        answers = answers;
        answered = subst (λ (v : List (List ℕ)). AnswersEach by.machine h.missed 1 start v answers) (sym is) h.answered;
        told = refl;
      };
      only = subst (λ (v : List (List ℕ)). MissesOnlyWhere by.MayMiss h.missed 1 v) (sym is) h.only;
      given = given;
      went = went;
    }

    -- what may be missed, whatever comes behind these lines
    only_more : (more : List (List ℕ)) → MissesOnlyWhere by.MayMiss h.missed 1 (lines ++ more)
    only_more more = misses-agree by.MayMiss h.missed h.missed 1 lines more (λ n l. refl) h.only
        (misses-none by.MayMiss h.missed (1 + length lines) more h.behind)

    -- all lines up to `quit` are answered
    pub serves_quit : (more : List (List ℕ)) → lines_of bytes ≡ lines ++ more →
        AnswersEach by.machine h.missed 1 start (lines ++ more) answers → Went answers None →
        Appends before now (each_text by.machine start answers) → Serves by Went start bytes before now
    serves_quit more is whole went given = record {
      missed = h.missed;
      output = each_text by.machine start answers;
      run = record {
        answers = answers;
        answered = subst (λ (v : List (List ℕ)). AnswersEach by.machine h.missed 1 start v answers) (sym is) whole;
        told = refl;
      };
      only = subst (λ (v : List (List ℕ)). MissesOnlyWhere by.MayMiss h.missed 1 v) (sym is) (only_more more);
      given = given;
      went = went;
    }

    module _ (Well : S → Type 0) (lawful : IsLawful by Well start) where
      -- A run over more lines: its output begins with this text.
      record GoesOn : Type 0 where
        rest : List ℕ
        run : Replies by.machine start bytes h.missed (each_text by.machine start answers ++ rest)

      stays : StaysWell by.machine Well
      stays = record { some = lawful.some; well = lawful.stays }

      goes_on : (more : List (List ℕ)) → lines_of bytes ≡ lines ++ more → GoesOn
      goes_on more is =
          let later = each-goes_on by.machine Well stays h.missed 1 start lines more answers lawful.starts h.behind h.answered in
          record {
            rest = each_text by.machine (after_each by.machine start answers) later.0;
            run = record {
              answers = answers ++ later.0;
              answered = subst (λ (v : List (List ℕ)). AnswersEach by.machine h.missed 1 start v (answers ++ later.0)) (sym is)
                  later.1;
              told = sym (each_text-append by.machine start answers later.0);
            };
          }

      -- a front of the answers was given
      pub begins_front : (more : List (List ℕ)) (front left : List ℕ) → lines_of bytes ≡ lines ++ more →
          front ++ left ≡ each_text by.machine start answers → Appends before now front →
          (b : Begins by start bytes before now) × (b.part ≡ front)
      begins_front more front left is cut given =
          let r = goes_on more is in
          let text = each_text by.machine start answers in
          let part : front ++ (left ++ r.rest) ≡ text ++ r.rest =
          sym (append_assoc front left r.rest) ∙ ap (λ (v : List ℕ). v ++ r.rest) cut in
          let early = lawful.early start bytes h.missed (text ++ r.rest) front lawful.starts r.run (left ++ r.rest, part) in (
            record {
              missed = early.0;
              part = front;
              run = early.1.1;
              only = misses-fewer by.MayMiss h.missed early.0 1 (lines_of bytes) early.1.0
                  (subst (λ (v : List (List ℕ)). MissesOnlyWhere by.MayMiss h.missed 1 v) (sym is) (only_more more));
              given = given;
            },
            refl,
          )

      -- and not all of them
      pub ends_early : (more : List (List ℕ)) (front left : List ℕ) → lines_of bytes ≡ lines ++ more →
          front ++ left ≡ each_text by.machine start answers → left ≢ [] → GoesOnBehind by start bytes front
      ends_early more front left is cut some =
          let r = goes_on more is in record {
            missed = h.missed;
            rest = left ++ r.rest;
            more = λ none. some (first_empty left r.rest none);
            run = subst (λ (v : List ℕ). Replies by.machine start bytes h.missed v)
                (sym (sym (append_assoc front left r.rest) ∙ ap (λ (v : List ℕ). v ++ r.rest) cut)) r.run;
          }
        where
          first_empty : (xs ys : List ℕ) → xs ++ ys ≡ [] → xs ≡ []
          first_empty [] ys e = refl
          first_empty (x ∷ xs) ys e = cc
