-- What was read of a stream and answered so far.
use Rattle.std.proofs.Common.{◌≡◌, ◌≢◌, refl, sym, ◌∙◌, ap, subst, ℕ, ◌+◌, ◌<◌, ◌≤◌, List, [], ◌∷◌, ◌++◌, append_assoc, length, take, drop, Option, None, Some, Result, Ok, Err, arith}
use Rattle.std.specs.Prelude.{IsTrue}
use Rattle.std.specs.Io.KnownBytes.{Appends}
use Rattle.std.proofs.lemmas.List.{length-take, length-drop, take-append-drop}
use Rattle.eon_model.specs.Legal.{Setup}
use Rattle.eon_model.specs.Run.{Situation, answer_text}
use Rattle.eon_outside.specs.declared.reading.Failed.{Failed}
use Rattle.eon_outside.proofs.KnownBytesLaws.{appends_more}
use Rattle.plan_serve.specs.declared.answering.Flow.{Flow}
use Rattle.plan_serve.specs.declared.answering.Flow.TheVariants.{On, Ended}
use Rattle.plan_serve.specs.Answering.{AnswersLine}
use Rattle.plan_serve.specs.Lines.{has_no_end, most_kept}
use Rattle.plan_serve.specs.Session.{AreAnswered, Goes, Quits, Breaks}
use Rattle.plan_serve.proofs.AnsweredLaws.{answered_none, answered_more, answered_quit}
use Rattle.plan_serve.proofs.KeptLaws.{take_front-append}
use Rattle.plan_serve.proofs.LineLaws.{splits_none, splits_end, splits_rest, no_end-append}
use Rattle.plan_serve.proofs.QuitLaws.{any_last, none_last}

appends_none : (a : Option (List ℕ)) → Appends a a []
appends_none None = tt
appends_none (Some a) = sym (no_more a)
  where
    no_more : (w : List ℕ) → w ++ [] ≡ w
    no_more [] = refl
    no_more (b ∷ w) = ap (λ (v : List ℕ). b ∷ v) (no_more w)

-- nothing was read yet
pub goes_begin : (setup : Setup) (start : Situation) (before : Option (List ℕ)) (begun : List ℕ) → begun ≡ [] →
    Goes setup start before start begun [] before
goes_begin setup start before begun none = record {
  lines = [];
  rest = [];
  splits = splits_none;
  unended = refl;
  kept = none;
  none_quits = refl;
  text = [];
  answered = answered_none setup start;
  given = appends_none before;
}

-- no further line ends
pub goes_rest : (setup : Setup) (start here : Situation) (before now : Option (List ℕ)) (begun new bytes more : List ℕ) →
    IsTrue (has_no_end more) → new ≡ take most_kept (begun ++ more) → Goes setup start before here begun bytes now →
    Goes setup start before here new (bytes ++ more) now
goes_rest setup start here before now begun new bytes more part is h = record {
  lines = h.lines;
  rest = h.rest ++ more;
  splits = splits_rest bytes h.rest more h.lines h.splits;
  unended = no_end-append h.rest more h.unended part;
  kept = is ∙ ap (λ (v : List ℕ). take most_kept (v ++ more)) h.kept ∙ take_front-append most_kept h.rest more;
  none_quits = h.none_quits;
  text = h.text;
  answered = h.answered;
  given = h.given;
}

-- ---- a line ends

module _ (setup : Setup) (start here new : Situation) (before p q : Option (List ℕ)) (begun bytes part more : List ℕ)
    (unended : IsTrue (has_no_end part)) (h : Goes setup start before here begun bytes p) where
  -- the line is answered and is not `quit`
  pub line_goes : AnswersLine {E = Failed} setup here new (h.rest ++ part) p q (Ok On) →
      Goes setup start before new [] (bytes ++ (part ++ 10 ∷ [])) q
  line_goes k = record {
    lines = h.lines ++ (h.rest ++ part) ∷ [];
    rest = [];
    splits = splits_end bytes h.rest part [] h.lines h.splits h.unended unended;
    unended = refl;
    kept = refl;
    none_quits = none_last h.lines (h.rest ++ part) h.none_quits k.ok.1;
    text = h.text ++ answer_text setup here.state k.answer;
    answered = subst (λ (s : Situation). AreAnswered setup start (h.lines ++ (h.rest ++ part) ∷ []) s
        (h.text ++ answer_text setup here.state k.answer)) (sym k.stands)
        (answered_more setup start here h.lines h.text (h.rest ++ part) k.missed k.answer h.none_quits h.answered k.has);
    given = appends_more before p q h.text (answer_text setup here.state k.answer) h.given k.ok.0;
  }

  -- it is `quit`
  pub line_quits : AnswersLine {E = Failed} setup here new (h.rest ++ part) p q (Ok Ended) →
      Quits setup start before (bytes ++ (part ++ 10 ∷ more)) q
  line_quits k = record {
    lines = h.lines ++ (h.rest ++ part) ∷ [];
    rest = more;
    splits = splits_end bytes h.rest part more h.lines h.splits h.unended unended;
    here = _;
    quits = any_last h.lines (h.rest ++ part) k.ok.1;
    text = h.text ++ answer_text setup here.state k.answer;
    answered = answered_more setup start here h.lines h.text (h.rest ++ part) k.missed k.answer h.none_quits h.answered k.has;
    whole = answered_quit setup start here h.lines h.text (h.rest ++ part) k.missed k.answer h.none_quits h.answered k.has
        k.ok.1;
    given = appends_more before p q h.text (answer_text setup here.state k.answer) h.given k.ok.0;
  }

  not_all : (n : ℕ) (text : List ℕ) → n < length text → drop n text ≢ []
  not_all n text low e =
      let k : length (drop n text) ≡ 0 = ap length e in
      let l = length-drop n text in omega arith

  -- writing breaks off in its reply
  pub line_breaks : (e : Failed) → AnswersLine {E = Failed} setup here new (h.rest ++ part) p q (Err e) →
      Breaks setup start before (bytes ++ (part ++ 10 ∷ more)) [] q
  line_breaks e k =
      let text = answer_text setup here.state k.answer in
      let n = k.err.0 in record {
        lines = h.lines ++ (h.rest ++ part) ∷ [];
        rest = more;
        splits = splits_end bytes h.rest part more h.lines h.splits h.unended unended;
        here = _;
        text = h.text ++ text;
        answered = answered_more setup start here h.lines h.text (h.rest ++ part) k.missed k.answer h.none_quits h.answered
            k.has;
        front = h.text ++ take n text;
        left = drop n text;
        is = append_assoc h.text (take n text) (drop n text)
            ∙ ap (λ (v : List ℕ). h.text ++ v) (take-append-drop n text);
        some = not_all n text k.err.1;
        given = appends_more before p q h.text (take n text) h.given k.err.2;
      }

-- ---- as the loop over a piece meets them: what was done of the piece, and the rest of it

-- the rest of the piece, without the line that ended
pub rest_goes : (piece done rest : List ℕ) (at : ℕ) → drop at rest ≡ 10 ∷ drop (at + 1) rest →
    piece ≡ done ++ rest → piece ≡ (done ++ (take at rest ++ 10 ∷ [])) ++ drop (at + 1) rest
rest_goes piece done rest at ends whole =
    whole ∙ ap (λ (v : List ℕ). done ++ v) (rest_is rest at ends)
    ∙ ap (λ (v : List ℕ). done ++ v) (sym (append_assoc (take at rest) (10 ∷ []) (drop (at + 1) rest)))
    ∙ sym (append_assoc done (take at rest ++ 10 ∷ []) (drop (at + 1) rest))
  where
    rest_is : (rest : List ℕ) (at : ℕ) → drop at rest ≡ 10 ∷ drop (at + 1) rest →
        rest ≡ take at rest ++ 10 ∷ drop (at + 1) rest
    rest_is rest at ends = sym (take-append-drop at rest) ∙ ap (λ (v : List ℕ). take at rest ++ v) ends

pub rest_shorter : (rest : List ℕ) (n m bound : ℕ) → length rest ≤ bound →
    length (take n (drop m rest)) ≤ bound
rest_shorter rest n m bound low =
    let k = length-take n (drop m rest) in
    let l = length-drop m rest in
    omega arith

-- the bytes up to the line that ended, and the piece with what is left of it
all_bytes : (bytes piece done rest : List ℕ) (at : ℕ) → drop at rest ≡ 10 ∷ drop (at + 1) rest → piece ≡ done ++ rest →
    (bytes ++ done) ++ (take at rest ++ 10 ∷ drop (at + 1) rest) ≡ bytes ++ piece
all_bytes bytes piece done rest at ends whole =
    append_assoc bytes done (take at rest ++ 10 ∷ drop (at + 1) rest)
    ∙ ap (λ (v : List ℕ). bytes ++ v)
    (ap (λ (v : List ℕ). done ++ (take at rest ++ v)) (sym ends)
    ∙ ap (λ (v : List ℕ). done ++ v) (take-append-drop at rest) ∙ sym whole)

module _ (setup same : Setup) (start here new : Situation) (before p q : Option (List ℕ))
    (begun bytes piece done rest : List ℕ) (at : ℕ) (is : same ≡ setup) (unended : IsTrue (has_no_end (take at rest)))
    (h : Goes setup start before here begun (bytes ++ done) p) where
  abbrev Told : Result Flow Failed → Type 0
  Told r = (f : List ℕ) → begun ≡ take most_kept f → AnswersLine {E = Failed} same here new (f ++ take at rest) p q r

  here_told : (r s : Result Flow Failed) → r ≡ s → Told r →
      AnswersLine {E = Failed} setup here new (h.rest ++ take at rest) p q s
  here_told r s e told =
      subst (λ (r : Result Flow Failed). AnswersLine {E = Failed} setup here new (h.rest ++ take at rest) p q r) e
      (subst (λ (v : Setup). AnswersLine {E = Failed} v here new (h.rest ++ take at rest) p q r) is (told h.rest h.kept))

  pub loop_goes : (flow : Flow) (next : List ℕ) → flow ≡ On → next ≡ [] → Told (Ok flow) →
      Goes setup start before new next (bytes ++ (done ++ (take at rest ++ 10 ∷ []))) q
  loop_goes flow next on none told =
      subst (λ (v : List ℕ). Goes setup start before new next v q) (append_assoc bytes done (take at rest ++ 10 ∷ []))
      (subst (λ (v : List ℕ). Goes setup start before new v ((bytes ++ done) ++ (take at rest ++ 10 ∷ [])) q) (sym none)
      (line_goes setup start here new before p q begun (bytes ++ done) (take at rest) [] unended h
      (here_told (Ok flow) (Ok On) (ap (λ (v : Flow). Ok v) on) told)))

  pub loop_quits : (flow : Flow) → flow ≡ Ended → drop at rest ≡ 10 ∷ drop (at + 1) rest → piece ≡ done ++ rest →
      Told (Ok flow) → Quits setup start before (bytes ++ piece) q
  loop_quits flow ended ends whole told =
      subst (λ (v : List ℕ). Quits setup start before v q) (all_bytes bytes piece done rest at ends whole)
      (line_quits setup start here new before p q begun (bytes ++ done) (take at rest) (drop (at + 1) rest) unended h
      (here_told (Ok flow) (Ok Ended) (ap (λ (v : Flow). Ok v) ended) told))

  pub loop_breaks : (e : Failed) → drop at rest ≡ 10 ∷ drop (at + 1) rest → piece ≡ done ++ rest → Told (Err e) →
      Breaks setup start before (bytes ++ piece) [] q
  loop_breaks e ends whole told =
      subst (λ (v : List ℕ). Breaks setup start before v [] q) (all_bytes bytes piece done rest at ends whole)
      (line_breaks setup start here new before p q begun (bytes ++ done) (take at rest) (drop (at + 1) rest) unended h e
      (here_told (Err e) (Err e) refl told))

pub loop_ends : (setup : Setup) (start here new : Situation) (before p q : Option (List ℕ))
    (begun next bytes piece done rest : List ℕ) → q ≡ p → new ≡ here → piece ≡ done ++ rest →
    IsTrue (has_no_end rest) → next ≡ take most_kept (begun ++ rest) →
    Goes setup start before here begun (bytes ++ done) p → Goes setup start before new next (bytes ++ piece) q
loop_ends setup start here new before p q begun next bytes piece done rest kept same whole part is h =
    subst (λ (v : List ℕ). Goes setup start before new next v q)
    (append_assoc bytes done rest ∙ ap (λ (v : List ℕ). bytes ++ v) (sym whole))
    (subst (λ (v : Option (List ℕ)). Goes setup start before new next ((bytes ++ done) ++ rest) v) (sym kept)
    (subst (λ (s : Situation). Goes setup start before s next ((bytes ++ done) ++ rest) p) (sym same)
    (goes_rest setup start here before p begun next (bytes ++ done) rest part is h)))

pub loop_begins : (setup : Setup) (start here : Situation) (before p : Option (List ℕ)) (begun bytes : List ℕ) →
    Goes setup start before here begun bytes p → Goes setup start before here begun (bytes ++ []) p
loop_begins setup start here before p begun bytes h =
    subst (λ (v : List ℕ). Goes setup start before here begun v p) (sym (no_more bytes)) h
  where
    no_more : (w : List ℕ) → w ++ [] ≡ w
    no_more [] = refl
    no_more (b ∷ w) = ap (λ (v : List ℕ). b ∷ v) (no_more w)
