-- What was read of a stream and answered so far.
use Rattle.std.proofs.Common.{◌≡◌, ◌≢◌, refl, sym, ◌∙◌, ap, subst, ◌⊎◌, inl, inr, ℕ, ◌+◌, ◌<◌, ◌≤◌, List, [], ◌∷◌, ◌++◌, append_assoc, length, take, drop, Option, None, Some, Result, Ok, Err, arith}
use Rattle.std.specs.Prelude.{IsTrue}
use Rattle.std.specs.Option.{option_to_list}
use Rattle.std.specs.Io.KnownBytes.{Appends, append_known}
use Rattle.std.proofs.lemmas.List.{append-nil, length-take, length-drop, take-append-drop}
use Rattle.eon_model.specs.LineStream.{each_text}
use Rattle.eon_outside.specs.Held.{given_since}
use Rattle.eon_outside.specs.Writing.{AppendsPart}
use Rattle.eon_outside.proofs.KnownBytesLaws.{appends_more}
use Rattle.line_session.specs.declared.answerer.Flow.{Flow}
use Rattle.line_session.specs.declared.answerer.Flow.TheVariants.{On, Ended}
use Rattle.line_session.specs.declared.answerer.Stopped.{Stopped}
use Rattle.line_session.specs.declared.answerer.Stopped.TheVariants.{Output, Disk}
use Rattle.line_session.specs.Answering.{Answering, AnswersLine, Comes, Took}
use Rattle.line_session.specs.Lines.{has_no_end, most_kept}
use Rattle.line_session.specs.Runs.{IsAcknowledged}
use Rattle.line_session.specs.Session.{Grows, AreAnswered, AreGiven, Goes, Quits, Breaks, Feeds}
use Rattle.line_session.proofs.AcknowledgedLaws.{acknowledged_on, acknowledged_all, acknowledged_more, given_begin, text_more}
use Rattle.line_session.proofs.AnsweredLaws.{answered_none, answered_more, answered_quit}
use Rattle.line_session.proofs.HeldLaws.{grows_more, since_self, since_more}
use Rattle.line_session.proofs.KeptLaws.{take_front-append}
use Rattle.line_session.proofs.LineLaws.{splits_none, splits_end, splits_rest, no_end-append}
use Rattle.line_session.proofs.QuitLaws.{any_last, none_last}

-- nothing was read yet
pub goes_begin : {S A : Type 0} (by : Answering S A) (Went : List A → Option A → Type 0) (start : S)
    (before total : Option (List ℕ)) (begun : List ℕ) → begun ≡ [] → Went [] None → Appends before total [] →
    Goes by Went start before start begun [] total before
goes_begin by Went start before total begun none went given = record {
  lines = [];
  rest = [];
  splits = splits_none;
  unended = refl;
  kept = none;
  none_quits = refl;
  answers = [];
  answered = answered_none by start;
  are = given_begin by start Went before total went given;
}

-- no further line ends
pub goes_rest : {S A : Type 0} (by : Answering S A) (Went : List A → Option A → Type 0) (start here : S)
    (before total below : Option (List ℕ)) (begun new bytes more : List ℕ) → IsTrue (has_no_end more) →
    new ≡ take most_kept (begun ++ more) → Goes by Went start before here begun bytes total below →
    Goes by Went start before here new (bytes ++ more) total below
goes_rest by Went start here before total below begun new bytes more part is h = record {
  lines = h.lines;
  rest = h.rest ++ more;
  splits = splits_rest bytes h.rest more h.lines h.splits;
  unended = no_end-append h.rest more h.unended part;
  kept = is ∙ ap (λ (v : List ℕ). take most_kept (v ++ more)) h.kept ∙ take_front-append most_kept h.rest more;
  none_quits = h.none_quits;
  answers = h.answers;
  answered = h.answered;
  are = h.are;
}

-- ---- a line, by all that was given

-- What the sink below took grew over a line, and the line is told by all that was given.
pub record ToldLine {S A : Type 0} (by : Answering S A) (Went : List A → Option A → Type 0) (old new : S) (line : List ℕ)
    (p q below then : Option (List ℕ)) (r : Result Flow Stopped) : Type 0 where
  pub told : AnswersLine by Went old new line p q then r
  pub grows : Grows below then

module _ {S A : Type 0} (by : Answering S A) (Went : List A → Option A → Type 0) (old new : S) (line : List ℕ)
    (o n : Option (List ℕ)) (held left : List ℕ) where
  abbrev Since : A → Result Flow Stopped → Type 0
  Since a r = Comes by Went old new line a (given_since o o held) (given_since o n left) n r

  abbrev InAll : A → Result Flow Stopped → Type 0
  InAll a r = Comes by Went old new line a (append_known o held) (append_known n left) n r

  took_known : Took (given_since o o held) n → Took (append_known o held) n
  took_known t = subst (λ (v : Option (List ℕ)). Took v n) (since_self o held) t

  comes_known : (a : A) (r : Result Flow Stopped) → Since a r → InAll a r × Grows o n
  comes_known a (Ok flow) h =
      let k = since_more o n held left (by.machine.text old a) h.2 in
      ((h.0, h.1, k.0, h.3, λ change. took_known (h.4 change)), k.1)
  comes_known a (Err Output) h =
      let part = h.0 in
      let k = since_more o n held left (take part.0 (by.machine.text old a)) part.2 in
      (((part.0, part.1, k.0), carried h.1), k.1)
    where
      carried : (Went [] None ⊎ (Went (a ∷ []) None × (IsTrue (by.is_change a) → Took (given_since o o held) n))) →
          Went [] None ⊎ (Went (a ∷ []) None × (IsTrue (by.is_change a) → Took (append_known o held) n))
      carried (inl w) = inl w
      carried (inr w) = inr (w.0, λ change. took_known (w.1 change))
  comes_known a (Err Disk) h =
      let part = h.0 in
      let k = since_more o n held left (take part.0 (by.machine.text old a)) part.2 in
      (((part.0, part.1, k.0), h.1, took_known h.2), k.1)

  pub told_line : (r : Result Flow Stopped) →
      AnswersLine by Went old new line (given_since o o held) (given_since o n left) n r →
      ToldLine by Went old new line (append_known o held) (append_known n left) o n r
  told_line r h =
      let k = comes_known h.answer r h.comes in record {
        told = record { missed = h.missed; answer = h.answer; is = h.is; only = h.only; comes = k.0 };
        grows = k.1;
      }

-- ---- a line ends

-- Until a line these answers were carried out, in the line those, and since the start both.
abbrev pub Joins : {A : Type 0} → (List A → Option A → Type 0) → (List A → Option A → Type 0) → (List A → Option A → Type 0) → Type 0
Joins {A} Until In Since = (first more : List A) (next : Option A) → Until first None → In more next → Since (first ++ more) next

module _ {S A : Type 0} (by : Answering S A) (Until In Since : List A → Option A → Type 0) (joins : Joins Until In Since)
    (start here new : S) (before p q below then : Option (List ℕ)) (begun bytes part more : List ℕ)
    (unended : IsTrue (has_no_end part)) (h : Goes by Until start before here begun bytes p below) where
  abbrev Line : Result Flow Stopped → Type 0
  Line r = ToldLine by In here new (h.rest ++ part) p q below then r

  -- the answer is given whole
  given_whole : (a : A) → Appends p q (by.machine.text here a) → In (a ∷ []) None → (IsTrue (by.is_change a) → Took p then) →
      Grows below then → AreGiven by Since start (h.answers ++ a ∷ []) before q then
  given_whole a given went took grows = record {
    went = joins h.answers (a ∷ []) None h.are.went went;
    given = subst (λ (v : List ℕ). Appends before q v) (sym (text_more by start h.answers here a h.answered.stands))
        (appends_more before p q (each_text by.machine start h.answers) (by.machine.text here a) h.are.given given);
    grown = grows_more before below then h.are.grown grows;
    acknowledged = acknowledged_more by start h.answers before below then h.are.acknowledged h.are.grown grows a p h.are.given
        took;
  }

  -- the line is answered and is not `quit`
  pub line_goes : Line (Ok On) → Goes by Since start before new [] (bytes ++ (part ++ 10 ∷ [])) q then
  line_goes k =
      let a = k.told.answer in
      let comes = k.told.comes in record {
        lines = h.lines ++ (h.rest ++ part) ∷ [];
        rest = [];
        splits = splits_end bytes h.rest part [] h.lines h.splits h.unended unended;
        unended = refl;
        kept = refl;
        none_quits = none_last h.lines (h.rest ++ part) h.none_quits comes.1;
        answers = h.answers ++ a ∷ [];
        answered = subst (λ (s : S). AreAnswered by start (h.lines ++ (h.rest ++ part) ∷ []) s (h.answers ++ a ∷ []))
            (sym comes.0) (answered_more by start here h.lines h.answers (h.rest ++ part) k.told.missed a h.none_quits h.answered
            k.told.is k.told.only);
        are = given_whole a comes.2 comes.3 comes.4 k.grows;
      }

  -- it is `quit`
  pub line_quits : Line (Ok Ended) → Quits by Since start before (bytes ++ (part ++ 10 ∷ more)) q then
  line_quits k =
      let a = k.told.answer in
      let comes = k.told.comes in record {
        lines = h.lines ++ (h.rest ++ part) ∷ [];
        rest = more;
        splits = splits_end bytes h.rest part more h.lines h.splits h.unended unended;
        quits = any_last h.lines (h.rest ++ part) comes.1;
        here = by.machine.after here a;
        answers = h.answers ++ a ∷ [];
        answered = answered_more by start here h.lines h.answers (h.rest ++ part) k.told.missed a h.none_quits h.answered
            k.told.is k.told.only;
        whole = answered_quit by start here h.lines h.answers (h.rest ++ part) k.told.missed a h.none_quits h.answered
            k.told.is k.told.only comes.1;
        are = given_whole a comes.2 comes.3 comes.4 k.grows;
      }

  not_all : (n : ℕ) (text : List ℕ) → n < length text → drop n text ≢ []
  not_all n text low e =
      let k : length (drop n text) ≡ 0 = ap length e in
      let l = length-drop n text in omega arith

  -- What was carried out where the line was not answered whole.
  record Carried (doubt : Option A) (a : A) : Type 0 where
    done : List A
    others : List A
    carried : (done ++ option_to_list doubt) ++ others ≡ h.answers ++ a ∷ []
    near : length (option_to_list doubt ++ others) ≤ 1
    went : Since done doubt
    acknowledged : IsAcknowledged by start (done ++ option_to_list doubt) before then

  breaks : (r : Result Flow Stopped) (doubt : Option A) (k : Line r) → AppendsPart p q (by.machine.text here k.told.answer) →
      Carried doubt k.told.answer → Breaks by Since start doubt before (bytes ++ (part ++ 10 ∷ more)) [] q then
  breaks r doubt k given c =
      let a = k.told.answer in
      let text = by.machine.text here a in
      let so_far = each_text by.machine start h.answers in
      let n = given.0 in record {
        lines = h.lines ++ (h.rest ++ part) ∷ [];
        rest = more;
        splits = splits_end bytes h.rest part more h.lines h.splits h.unended unended;
        here = by.machine.after here a;
        answers = h.answers ++ a ∷ [];
        answered = answered_more by start here h.lines h.answers (h.rest ++ part) k.told.missed a h.none_quits h.answered
            k.told.is k.told.only;
        done = c.done;
        others = c.others;
        carried = c.carried;
        near = c.near;
        went = c.went;
        front = so_far ++ take n text;
        left = drop n text;
        is = append_assoc so_far (take n text) (drop n text)
            ∙ ap (λ (v : List ℕ). so_far ++ v) (take-append-drop n text)
            ∙ sym (text_more by start h.answers here a h.answered.stands);
        some = not_all n text given.1;
        given = appends_more before p q so_far (take n text) h.are.given given.2;
        grown = grows_more before below then h.are.grown k.grows;
        acknowledged = c.acknowledged;
      }

  -- its answer was not carried out
  not_carried : (a : A) → In [] None → Grows below then → Carried None a
  not_carried a went grows = record {
    done = h.answers;
    others = a ∷ [];
    carried = ap (λ (v : List A). v ++ a ∷ []) (append-nil h.answers);
    near = omega arith;
    went = subst (λ (v : List A). Since v None) (append-nil h.answers) (joins h.answers [] None h.are.went went);
    acknowledged = subst (λ (v : List A). IsAcknowledged by start v before then) (sym (append-nil h.answers))
        (acknowledged_on by start h.answers before below then h.are.acknowledged h.are.grown grows);
  }

  -- it was carried out
  is_carried : (a : A) → In (a ∷ []) None → (IsTrue (by.is_change a) → Took p then) → Grows below then → Carried None a
  is_carried a went took grows = record {
    done = h.answers ++ a ∷ [];
    others = [];
    carried = append-nil ((h.answers ++ a ∷ []) ++ []) ∙ append-nil (h.answers ++ a ∷ []);
    near = omega arith;
    went = joins h.answers (a ∷ []) None h.are.went went;
    acknowledged = subst (λ (v : List A). IsAcknowledged by start v before then) (sym (append-nil (h.answers ++ a ∷ [])))
        (acknowledged_more by start h.answers before below then h.are.acknowledged h.are.grown grows a p h.are.given took);
  }

  -- it is in doubt
  in_doubt : (a : A) → In [] (Some a) → Took p then → Grows below then → Carried (Some a) a
  in_doubt a went took grows = record {
    done = h.answers;
    others = [];
    carried = append-nil (h.answers ++ a ∷ []);
    near = omega arith;
    went = subst (λ (v : List A). Since v (Some a)) (append-nil h.answers) (joins h.answers [] (Some a) h.are.went went);
    acknowledged = acknowledged_all by start h.answers before below then h.are.acknowledged h.are.grown grows a p h.are.given took;
  }

  -- it is not answered whole
  pub line_breaks : (stopped : Stopped) → Line (Err stopped) →
      Feeds by Since start before new [] (bytes ++ (part ++ 10 ∷ more)) [] q then (Err stopped)
  line_breaks Output k =
      let comes = k.told.comes in
      elim comes.1 [
        | inl went ↦ breaks (Err Output) None k comes.0 (not_carried k.told.answer went k.grows)
        | inr w ↦ breaks (Err Output) None k comes.0 (is_carried k.told.answer w.0 w.1 k.grows)
      ]
  line_breaks Disk k =
      let comes = k.told.comes in
      (k.told.answer, breaks (Err Disk) (Some k.told.answer) k comes.0 (in_doubt k.told.answer comes.1 comes.2 k.grows))

-- ---- as the loop over a piece meets them: what was done of the piece, and the rest of it

-- the rest of the piece, without the line that ended
pub rest_goes : (piece done rest : List ℕ) (at : ℕ) → drop at rest ≡ 10 ∷ drop (at + 1) rest →
    piece ≡ done ++ rest → piece ≡ (done ++ (take at rest ++ 10 ∷ [])) ++ drop (at + 1) rest
rest_goes piece done rest at ends whole =
    whole ∙ ap (λ (v : List ℕ). done ++ v) (rest_is rest at ends)
    ∙ ap (λ (v : List ℕ). done ++ v) (sym (append_assoc (take at rest) (10 ∷ []) (drop (at + 1) rest)))
    ∙ sym (append_assoc done (take at rest ++ 10 ∷ []) (drop (at + 1) rest))
  where
    rest_is : (rest : List ℕ) (at : ℕ) → drop at rest ≡ 10 ∷ drop (at + 1) rest →
        rest ≡ take at rest ++ 10 ∷ drop (at + 1) rest
    rest_is rest at ends = sym (take-append-drop at rest) ∙ ap (λ (v : List ℕ). take at rest ++ v) ends

pub rest_shorter : (rest : List ℕ) (n m bound : ℕ) → length rest ≤ bound →
    length (take n (drop m rest)) ≤ bound
rest_shorter rest n m bound low =
    let k = length-take n (drop m rest) in
    let l = length-drop m rest in
    omega arith

-- the bytes up to the line that ended, and the piece with what is left of it
all_bytes : (bytes piece done rest : List ℕ) (at : ℕ) → drop at rest ≡ 10 ∷ drop (at + 1) rest → piece ≡ done ++ rest →
    (bytes ++ done) ++ (take at rest ++ 10 ∷ drop (at + 1) rest) ≡ bytes ++ piece
all_bytes bytes piece done rest at ends whole =
    append_assoc bytes done (take at rest ++ 10 ∷ drop (at + 1) rest)
    ∙ ap (λ (v : List ℕ). bytes ++ v)
    (ap (λ (v : List ℕ). done ++ (take at rest ++ v)) (sym ends)
    ∙ ap (λ (v : List ℕ). done ++ v) (take-append-drop at rest) ∙ sym whole)

module _ {S A : Type 0} (Setting : Type 0) (rule : Setting → Answering S A) (same setting : Setting) (is : same ≡ setting)
    (Until In Since : List A → Option A → Type 0) (joins : Joins Until In Since) (start here new : S)
    (before o n : Option (List ℕ)) (held left begun bytes piece done rest : List ℕ) (at : ℕ)
    (unended : IsTrue (has_no_end (take at rest)))
    (h : Goes (rule setting) Until start before here begun (bytes ++ done) (append_known o held) o) where
  abbrev p : Option (List ℕ)
  p = append_known o held

  abbrev q : Option (List ℕ)
  q = append_known n left

  abbrev Told : Result Flow Stopped → Type 0
  Told r = (f : List ℕ) → begun ≡ take most_kept f →
      AnswersLine (rule same) In here new (f ++ take at rest) (given_since o o held) (given_since o n left) n r

  here_told : (r s : Result Flow Stopped) → r ≡ s → Told r →
      ToldLine (rule setting) In here new (h.rest ++ take at rest) p q o n s
  here_told r s e told =
      told_line (rule setting) In here new (h.rest ++ take at rest) o n held left s
      (subst (λ (r : Result Flow Stopped).
      AnswersLine (rule setting) In here new (h.rest ++ take at rest) (given_since o o held) (given_since o n left) n r) e
      (subst (λ (v : Setting).
      AnswersLine (rule v) In here new (h.rest ++ take at rest) (given_since o o held) (given_since o n left) n r) is
      (told h.rest h.kept)))

  pub loop_goes : (flow : Flow) (next : List ℕ) → flow ≡ On → next ≡ [] → Told (Ok flow) →
      Goes (rule setting) Since start before new next (bytes ++ (done ++ (take at rest ++ 10 ∷ []))) q n
  loop_goes flow next on none told =
      subst (λ (v : List ℕ). Goes (rule setting) Since start before new next v q n)
      (append_assoc bytes done (take at rest ++ 10 ∷ []))
      (subst (λ (v : List ℕ). Goes (rule setting) Since start before new v ((bytes ++ done) ++ (take at rest ++ 10 ∷ [])) q n) (sym none)
      (line_goes (rule setting) Until In Since joins start here new before p q o n begun (bytes ++ done) (take at rest) [] unended h
      (here_told (Ok flow) (Ok On) (ap (λ (v : Flow). Ok v) on) told)))

  pub loop_quits : (flow : Flow) → flow ≡ Ended → drop at rest ≡ 10 ∷ drop (at + 1) rest → piece ≡ done ++ rest →
      Told (Ok flow) → Quits (rule setting) Since start before (bytes ++ piece) q n
  loop_quits flow ended ends whole told =
      subst (λ (v : List ℕ). Quits (rule setting) Since start before v q n) (all_bytes bytes piece done rest at ends whole)
      (line_quits (rule setting) Until In Since joins start here new before p q o n begun (bytes ++ done) (take at rest)
      (drop (at + 1) rest) unended h (here_told (Ok flow) (Ok Ended) (ap (λ (v : Flow). Ok v) ended) told))

  pub loop_breaks : (stopped : Stopped) → drop at rest ≡ 10 ∷ drop (at + 1) rest → piece ≡ done ++ rest → (next : List ℕ) →
      Told (Err stopped) → Feeds (rule setting) Since start before new next (bytes ++ piece) [] q n (Err stopped)
  loop_breaks stopped ends whole next told =
      subst (λ (v : List ℕ). Feeds (rule setting) Since start before new next v [] q n (Err stopped))
      (all_bytes bytes piece done rest at ends whole)
      (begun_aside stopped next ((bytes ++ done) ++ (take at rest ++ 10 ∷ drop (at + 1) rest))
      (line_breaks (rule setting) Until In Since joins start here new before p q o n begun (bytes ++ done) (take at rest)
      (drop (at + 1) rest) unended h stopped (here_told (Err stopped) (Err stopped) refl told)))
    where
      begun_aside : (stopped : Stopped) (next bytes : List ℕ) →
          Feeds (rule setting) Since start before new [] bytes [] q n (Err stopped) →
          Feeds (rule setting) Since start before new next bytes [] q n (Err stopped)
      begun_aside Output next bytes k = k
      begun_aside Disk next bytes k = k

pub loop_ends : {S A : Type 0} (by : Answering S A) (Went : List A → Option A → Type 0) (start here : S)
    (before total below : Option (List ℕ)) (begun next bytes piece done rest : List ℕ) → piece ≡ done ++ rest →
    IsTrue (has_no_end rest) → next ≡ take most_kept (begun ++ rest) →
    Goes by Went start before here begun (bytes ++ done) total below →
    Goes by Went start before here next (bytes ++ piece) total below
loop_ends by Went start here before total below begun next bytes piece done rest whole part is h =
    subst (λ (v : List ℕ). Goes by Went start before here next v total below)
    (append_assoc bytes done rest ∙ ap (λ (v : List ℕ). bytes ++ v) (sym whole))
    (goes_rest by Went start here before total below begun next (bytes ++ done) rest part is h)

pub loop_begins : {S A : Type 0} (by : Answering S A) (Went : List A → Option A → Type 0) (start here : S)
    (before total below : Option (List ℕ)) (begun bytes : List ℕ) → Goes by Went start before here begun bytes total below →
    Goes by Went start before here begun (bytes ++ []) total below
loop_begins by Went start here before total below begun bytes h =
    subst (λ (v : List ℕ). Goes by Went start before here begun v total below) (sym (append-nil bytes)) h
