-- How the answers to a stream end.
use Rattle.std.proofs.Common.{◌≡◌, ◌≢◌, refl, sym, ◌∙◌, ap, subst, inl, inr, ℕ, ◌+◌, ◌-◌, ◌≤◌, ◌<◌, false, List, [], ◌∷◌, ◌++◌, append_assoc, length, length-append, take, drop, Option, None, Some, Ok, Err, arith}
use Rattle.std.specs.Prelude.{IsTrue, IfSome, ◌==◌}
use Rattle.std.specs.Io.KnownBytes.{Appends, Consumes, Keeps, IsAtEnd, append_known}
use Rattle.std.proofs.lemmas.List.{length-take-le, length-drop, take-take, take-append-drop}
use Rattle.std.proofs.Math.Seq.{take-append_seam, take-append-add}
use Rattle.eon_model.specs.Modes.{stream_limit}
use Rattle.eon_model.specs.LineStream.{lines_of, each_text}
use Rattle.line_session.specs.Answering.{Answering, IsLawful}
use Rattle.line_session.specs.Lines.{IsLeft, whole_lines, quits_within, has_no_end, most_kept, most_read, Splits}
use Rattle.line_session.specs.Runs.{Serves, GoesOnBehind}
use Rattle.line_session.specs.Ends.{AnswersAll, StopsAtLong, StopsReading, StopsEarly, AnswersStream, CountsReads}
use Rattle.line_session.specs.Session.{Goes, Quits, Breaks, Feeds, FinishesAt, outcome_of}
use Rattle.line_session.specs.declared.session.Outcome.{Outcome}
use Rattle.line_session.specs.declared.session.Outcome.TheVariants.{Done, ReadFault, WriteFault, DiskFault, InputLong}
use Rattle.line_session.specs.declared.answerer.Flow.{Flow}
use Rattle.line_session.specs.declared.answerer.Flow.TheVariants.{On, Ended}
use Rattle.line_session.specs.declared.answerer.Stopped.{Stopped}
use Rattle.line_session.specs.declared.answerer.Stopped.TheVariants.{Output, Disk}
use Rattle.line_session.proofs.AnsweredLaws.{serves_lines, serves_quit, begins_front, ends_early}
use Rattle.line_session.proofs.HeldLaws.{Below, part_below, given_all}
use Rattle.line_session.proofs.KeptLaws.{empty_front}
use Rattle.line_session.proofs.LineLaws.{no_text_more, no_lines_more, no_end_parts, splits_end, lines_of-split, lines_of-last, whole_lines-split}
use Rattle.line_session.proofs.QuitLaws.{quits_among, no_quit_within, short_stream, quit_stream, long_stream}

-- ---- bytes read

consumes_none : (a : Option (List ℕ)) → Consumes a a []
consumes_none None = tt
consumes_none (Some a) = refl

consumes_more : (a b c : Option (List ℕ)) (x y : List ℕ) → Consumes a b x → Consumes b c y →
    Consumes a c (x ++ y)
consumes_more None b c x y p q = tt
consumes_more (Some a) None c x y p q = absurd p
consumes_more (Some a) (Some b) None x y p q = absurd q
consumes_more (Some a) (Some b) (Some c) x y p q =
    p ∙ ap (λ (v : List ℕ). x ++ v) q ∙ sym (append_assoc x y c)

consumes_kept : (a b c : Option (List ℕ)) (x : List ℕ) → Consumes a b x → Keeps b c → Consumes a c x
consumes_kept None b c x p q = tt
consumes_kept (Some a) None c x p q = absurd p
consumes_kept (Some a) (Some b) None x p q = absurd q
consumes_kept (Some a) (Some b) (Some c) x p q = p ∙ ap (λ (v : List ℕ). x ++ v) (sym q)

-- the bytes that are left, none where they are not told
rest_of : Option (List ℕ) → List ℕ
rest_of None = []
rest_of (Some bytes) = bytes

left_is : (left : Option (List ℕ)) → IsLeft left (rest_of left)
unfolding rest_of
left_is None = tt
left_is (Some bytes) = refl

stream_is : (whole left : Option (List ℕ)) (taken : List ℕ) → Consumes whole left taken →
    IsLeft whole (taken ++ rest_of left)
unfolding rest_of
stream_is None left taken p = tt
stream_is (Some whole) None taken p = absurd p
stream_is (Some whole) (Some left) taken p = p

stream_ends : (whole left : Option (List ℕ)) (taken : List ℕ) → Consumes whole left taken → IsAtEnd left →
    IsLeft whole taken
stream_ends None left taken p e = tt
stream_ends (Some whole) None taken p e = absurd p
stream_ends (Some whole) (Some left) taken p e =
    p ∙ ap (λ (v : List ℕ). taken ++ v) e ∙ no_text_more taken

left_ends : (left : Option (List ℕ)) → IsAtEnd left → IsLeft left []
left_ends None e = tt
left_ends (Some left) e = e

-- ---- so far

-- So many bytes were read of the stream, and this came of them.
pub record Going {S A : Type 0} (by : Answering S A) (Went : List A → Option A → Type 0) (start : S) (whole left before : Option (List ℕ))
    (here : S) (begun : List ℕ) (count : ℕ) (total now : Option (List ℕ)) : Type 0 where
  pub taken : List ℕ
  pub read : Consumes whole left taken
  pub counted : length taken ≡ count
  pub goes : Goes by Went start before here begun taken total now

pub going_begin : {S A : Type 0} (by : Answering S A) (Went : List A → Option A → Type 0) (start : S)
    (whole before total : Option (List ℕ)) (begun : List ℕ) → Goes by Went start before start begun [] total before →
    Going by Went start whole whole before start begun 0 total before
going_begin by Went start whole before total begun goes =
    record { taken = []; read = consumes_none whole; counted = refl; goes = goes }

pub going_on : {S A : Type 0} (by : Answering S A) (Until Went : List A → Option A → Type 0) (start here last : S)
    (left next : Option (List ℕ)) (whole before total now : Option (List ℕ)) (begun : List ℕ) → {count : ℕ} →
    (h : Going by Until start whole left before here begun count total now) → (piece : List ℕ) (size : ℕ) (kept : List ℕ)
    (all then : Option (List ℕ)) → length piece ≡ size → Consumes left next piece →
    Goes by Went start before last kept (h.taken ++ piece) all then →
    Going by Went start whole next before last kept (count + size) all then
going_on by Until Went start here last left next whole before total now begun {count} h piece size kept all then is read goes = record {
  taken = h.taken ++ piece;
  read = consumes_more whole left next h.taken piece h.read read;
  counted = length-append h.taken piece ∙ ap (λ (v : ℕ). v + length piece) h.counted ∙ ap (λ (v : ℕ). count + v) is;
  goes = goes;
}

-- ---- the last line

-- where something has begun, it is a line, as if an end followed it
last_ends : (bytes rest : List ℕ) (lines : List (List ℕ)) → Splits bytes lines rest → IsTrue (has_no_end rest) →
    (rest ≡ [] → ⊥) → lines_of bytes ≡ lines_of (bytes ++ 10 ∷ [])
last_ends bytes [] lines h unended some = absurd (some refl)
last_ends bytes (b ∷ rest) lines h unended some =
    ap lines_of (sym (no_text_more bytes)) ∙ lines_of-split bytes (b ∷ rest) [] lines h
    ∙ ap (λ (v : List ℕ). lines ++ lines_of v) (no_text_more (b ∷ rest))
    ∙ ap (λ (v : List (List ℕ)). lines ++ v) (lines_of-last b rest unended)
    ∙ ap (λ (v : List ℕ). lines ++ v ∷ []) (sym (no_text_more (b ∷ rest)))
    ∙ sym (no_lines_more (lines ++ ((b ∷ rest) ++ []) ∷ []))
    ∙ sym (lines_of-split (bytes ++ 10 ∷ []) [] [] (lines ++ ((b ∷ rest) ++ []) ∷ [])
    (splits_end bytes (b ∷ rest) [] [] lines h unended refl))
    ∙ ap lines_of (no_text_more (bytes ++ 10 ∷ []))

-- nothing stands behind a byte 10 at the end
tail_none : (x y r : List ℕ) → x ++ 10 ∷ [] ≡ y ++ r → IsTrue (has_no_end r) → r ≡ []
tail_none x y [] e h = refl
tail_none [] [] (b ∷ r) e h =
    let is : 10 ≡ b = cc in
    absurd (let k = (no_end_parts b r h).0 in ten_is b is k)
  where
    ten_is : (b : ℕ) → 10 ≡ b → (b == 10) ≡ false → ⊥
    ten_is b e k = let f = subst (λ (v : ℕ). (v == 10) ≡ false) (sym e) k in cc
tail_none [] (c ∷ y) (b ∷ r) e h = absurd (let k : [] ≡ y ++ b ∷ r = cc in not_empty y b r k)
  where
    not_empty : (y : List ℕ) (b : ℕ) (r : List ℕ) → [] ≡ y ++ b ∷ r → ⊥
    not_empty [] b r e = cc
    not_empty (c ∷ y) b r e = cc
tail_none (a ∷ x) [] (b ∷ r) e h =
    let parts = no_end_parts b r h in
    let same : x ++ 10 ∷ [] ≡ r = cc in
    let none = tail_none x [] r same parts.1 in
    absurd (not_empty x 10 [] (sym none ∙ sym same))
  where
    not_empty : (y : List ℕ) (b : ℕ) (r : List ℕ) → [] ≡ y ++ b ∷ r → ⊥
    not_empty [] b r e = cc
    not_empty (c ∷ y) b r e = cc
tail_none (a ∷ x) (c ∷ y) (b ∷ r) e h = tail_none x y (b ∷ r) (let k : x ++ 10 ∷ [] ≡ y ++ b ∷ r = cc in k) h

-- what was taken before and now, and what is left
taken_split : (taken piece more left : List ℕ) →
    (taken ++ (piece ++ more)) ++ left ≡ (taken ++ piece) ++ (more ++ left)
taken_split taken piece more left =
    ap (λ (v : List ℕ). v ++ left) (sym (append_assoc taken piece more))
    ∙ append_assoc (taken ++ piece) more left

front_of : (n : ℕ) (a p : List ℕ) → length a ≤ n → take n (a ++ p) ≡ a ++ take (n - length a) p
front_of n a p low =
    let whole : length a + (n - length a) ≡ n = omega arith in
    ap (λ (v : ℕ). take v (a ++ p)) (sym whole) ∙ take-append-add a p (n - length a)

early_is : {S A : Type 0} (by : Answering S A) (start : S) (bytes : List ℕ) (old : Option (List ℕ)) (front left part : List ℕ) →
    IfSome old (λ _. left ≢ []) → part ≡ front → (left ≢ [] → GoesOnBehind by start bytes front) →
    IfSome old (λ _. GoesOnBehind by start bytes part)
early_is by start bytes None front left part some is more = tt
early_is by start bytes (Some known) front left part some is more =
    subst (λ (v : List ℕ). GoesOnBehind by start bytes v) (sym is) (more some)

module _ {S A : Type 0} (by : Answering S A) (Well : S → Type 0) (start : S) (lawful : IsLawful by Well start)
    (Until Went : List A → Option A → Type 0) (here : S) (whole left next before total below : Option (List ℕ))
    (begun : List ℕ) (count : ℕ) (new : Option (List ℕ)) (h : Going by Until start whole left before here begun count total below) where
  abbrev goes : Goes by Until start before here begun h.taken total below
  goes = h.goes

  abbrev Text : List A → List ℕ
  Text answers = each_text by.machine start answers

  -- what was given of answers that were not given whole
  breaks_off : (doubt : Option A) (stream bytes held : List ℕ) (all then : Option (List ℕ))
      (k : Breaks by Went start doubt before bytes held all new) (later : List (List ℕ)) → IsLeft whole stream →
      lines_of stream ≡ k.lines ++ later → Below before new (Text k.answers) →
      StopsEarly by Went (IsLeft whole) start doubt before new
  breaks_off doubt stream bytes held all then k later told is part =
      let b = begins_front by start Went k.here k.lines k.answers k.answered stream before new Well lawful later part.front part.left is
      part.is part.given in record {
        stream = stream;
        told = told;
        begins = b.0;
        early = early_is by start stream before part.front part.left b.0.part part.some b.1
            (ends_early by start Went k.here k.lines k.answers k.answered stream before new Well lawful later part.front part.left is
            part.is);
        carries = record {
          missed = k.answered.missed;
          lines = k.lines;
          later = later;
          are = sym is;
          answers = k.answers;
          answered = k.answered.answered;
          only = k.answered.only;
          done = k.done;
          rest = k.others;
          carried = k.carried;
          near = k.near;
          went = k.went;
          front = part.front;
          left = part.left;
          text = part.is;
          more = part.some;
          given = part.given;
          acknowledged = k.acknowledged;
        };
      }

  -- ---- within the stream

  pub stops_reading : count ≤ stream_limit → Keeps left next → Appends before new (Text goes.answers) →
      StopsReading by Until (IsLeft whole) start next before new
  stops_reading short kept given = record {
    read = h.taken;
    rest = rest_of next;
    told = stream_is whole next h.taken (consumes_kept whole left next h.taken h.read kept);
    unread = left_is next;
    short = omega (arith, h.counted);
    no_quit = no_quit_within h.taken goes.rest goes.lines goes.splits goes.unended goes.none_quits;
    serves = serves_lines by start Until here goes.lines goes.answers goes.answered (whole_lines h.taken) before new
        (whole_lines-split h.taken goes.rest goes.lines goes.splits goes.unended) goes.are.went given;
    begins = (begins_front by start Until here goes.lines goes.answers goes.answered (h.taken ++ rest_of next) before new Well lawful
        (lines_of (goes.rest ++ rest_of next)) (Text goes.answers) []
        (lines_of-split h.taken goes.rest (rest_of next) goes.lines goes.splits) (no_text_more (Text goes.answers)) given).0;
  }

  module _ (piece more : List ℕ) (read : Consumes left next (piece ++ more)) where
    abbrev taken : List ℕ
    taken = h.taken ++ piece

    abbrev all : List ℕ
    all = h.taken ++ (piece ++ more)

    told_all : IsLeft whole (all ++ rest_of next)
    told_all = stream_is whole next all (consumes_more whole left next h.taken (piece ++ more) h.read read)

    bytes : all ++ rest_of next ≡ taken ++ (more ++ rest_of next)
    bytes = taken_split h.taken piece more (rest_of next)

    size : length taken ≡ count + length piece
    size = length-append h.taken piece ∙ ap (λ (v : ℕ). v + length piece) h.counted

    pub stops_at_long : (last : S) (kept : List ℕ) (then : Option (List ℕ)) → count + length piece ≡ stream_limit →
        0 < length more → (k : Goes by Went start before last kept taken then new) → Appends before new (Text k.answers) →
        StopsAtLong by Went (IsLeft whole) start before new
    stops_at_long last kept then full some k given =
        let stream = all ++ rest_of next in
        let front : take stream_limit stream ≡ taken =
        ap (take stream_limit) bytes ∙ ap (λ (v : ℕ). take v (taken ++ (more ++ rest_of next))) (sym (size ∙ full))
        ∙ take-append_seam taken (more ++ rest_of next) in record {
          stream = stream;
          told = told_all;
          long = long_stream stream
              (let a : length stream ≡ length taken + (length more + length (rest_of next)) =
              ap length bytes ∙ length-append taken (more ++ rest_of next)
              ∙ ap (λ (v : ℕ). length taken + v) (length-append more (rest_of next)) in omega (arith, a, size, full, some))
              (ap quits_within front ∙ no_quit_within taken k.rest k.lines k.splits k.unended k.none_quits);
          serves = serves_lines by start Went last k.lines k.answers k.answered (whole_lines (take stream_limit stream))
              before new (ap (λ (v : List ℕ). lines_of (whole_lines v)) front
              ∙ whole_lines-split taken k.rest k.lines k.splits k.unended) k.are.went given;
          begins = (begins_front by start Went last k.lines k.answers k.answered stream before new Well lawful
              (lines_of (k.rest ++ (more ++ rest_of next))) (Text k.answers) []
              (ap lines_of bytes ∙ lines_of-split taken k.rest (more ++ rest_of next) k.lines k.splits)
              (no_text_more (Text k.answers)) given).0;
        }

    pub stops_early : (doubt : Option A) (held : List ℕ) (then : Option (List ℕ)) →
        (k : Breaks by Went start doubt before taken held then new) → Below before new (Text k.answers) →
        StopsEarly by Went (IsLeft whole) start doubt before new
    stops_early doubt held then k part =
        breaks_off doubt (all ++ rest_of next) taken held then new k (lines_of (k.rest ++ (more ++ rest_of next))) told_all
        (ap lines_of bytes ∙ lines_of-split taken k.rest (more ++ rest_of next) k.lines k.splits) part

    -- as the outcome says
    pub stops_broken : (last : S) (kept held : List ℕ) (then : Option (List ℕ)) (stopped : Stopped) (end : Outcome) →
        end ≡ outcome_of stopped → then ≡ append_known new held →
        Feeds by Went start before last kept taken held then new (Err stopped) →
        AnswersStream by Went (IsLeft whole) start next before new end
    stops_broken last kept held then stopped end is known k =
        subst (λ (v : Outcome). AnswersStream by Went (IsLeft whole) start next before new v) (sym is) (at_stop stopped k)
      where
        part : (doubt : Option A) (k : Breaks by Went start doubt before taken held then new) → Below before new (Text k.answers)
        part doubt k = part_below before new held k.front k.left (Text k.answers) k.is k.some k.grown
            (subst (λ (v : Option (List ℕ)). Appends before v k.front) known k.given)

        at_stop : (stopped : Stopped) → Feeds by Went start before last kept taken held then new (Err stopped) →
            AnswersStream by Went (IsLeft whole) start next before new (outcome_of stopped)
        at_stop Output k = stops_early None held then k (part None k)
        at_stop Disk k = (k.0, stops_early (Some k.0) held then k.1 (part (Some k.0) k.1))

    pub quits_read : (then : Option (List ℕ)) → count + length piece ≤ stream_limit → length (piece ++ more) ≤ most_read →
        (k : Quits by Went start before taken then new) → Appends before new (Text k.answers) →
        AnswersAll by Went (IsLeft whole) start next before new
    quits_read then low few k given =
        let left_over = more ++ rest_of next in record {
          read = all;
          rest = rest_of next;
          told = told_all;
          unread = left_is next;
          to_end = λ some. ap quits_within (sym (append_assoc h.taken piece more))
              ∙ quits_among taken k.rest more k.lines k.splits k.quits;
          no_further = (
            h.taken,
            piece ++ more,
            refl,
            few,
            no_quit_within h.taken goes.rest goes.lines goes.splits goes.unended goes.none_quits,
          );
          short = quit_stream (all ++ rest_of next)
              (ap (λ (v : List ℕ). quits_within (take stream_limit v)) bytes
              ∙ ap quits_within (front_of stream_limit taken left_over (omega (arith, size, low)))
              ∙ quits_among taken k.rest (take (stream_limit - length taken) left_over) k.lines k.splits k.quits);
          serves = serves_quit by start Went k.here k.lines k.answers k.answered (all ++ rest_of next) before new
              (lines_of (k.rest ++ left_over))
              (ap lines_of bytes ∙ lines_of-split taken k.rest left_over k.lines k.splits)
              (k.whole (lines_of (k.rest ++ left_over))) k.are.went given;
        }

  -- ---- the end of the stream

  module _ (short : count ≤ stream_limit) (read : Consumes left next []) (ends : IsAtEnd next) where
    -- the run over all that was taken
    abbrev RunsOver : List ℕ → Type 0
    RunsOver bytes = Serves by Went start bytes before new

    told_end : IsLeft whole (h.taken ++ [])
    told_end = stream_ends whole next (h.taken ++ []) (consumes_more whole left next h.taken [] h.read read) ends

    pub answers_all : Serves by Went start h.taken before new → AnswersAll by Went (IsLeft whole) start next before new
    answers_all serves = record {
      read = h.taken;
      rest = [];
      told = told_end;
      unread = left_ends next ends;
      to_end = λ some. absurd (some refl);
      no_further = (
        h.taken,
        [],
        no_text_more h.taken,
        omega arith,
        no_quit_within h.taken goes.rest goes.lines goes.splits goes.unended goes.none_quits,
      );
      short = short_stream (h.taken ++ []) (let k : length (h.taken ++ []) ≡ length h.taken = ap length (no_text_more h.taken) in
          omega (arith, k, h.counted, short));
      serves = subst RunsOver (sym (no_text_more h.taken)) serves;
    }

    begun_rest : (begun ≡ [] → ⊥) → goes.rest ≡ [] → ⊥
    begun_rest some none = some (goes.kept ∙ ap (take most_kept) none)

    -- a line has begun, and it ends here
    one_line : (begun ≡ [] → ⊥) → lines_of h.taken ≡ lines_of (h.taken ++ 10 ∷ [])
    one_line some = last_ends h.taken goes.rest goes.lines goes.splits goes.unended (begun_rest some)

    pub ends_none : (last : S) (then : Option (List ℕ)) → begun ≡ [] → (k : Goes by Went start before last begun h.taken then new) →
        Appends before new (Text k.answers) → AnswersAll by Went (IsLeft whole) start next before new
    ends_none last then none k given =
        let rest : k.rest ≡ [] = empty_front most_kept k.rest (omega arith) (sym k.kept ∙ none) in
        answers_all (serves_lines by start Went last k.lines k.answers k.answered h.taken before new
        (ap lines_of (sym (no_text_more h.taken)) ∙ lines_of-split h.taken k.rest [] k.lines k.splits
        ∙ ap (λ (v : List ℕ). k.lines ++ lines_of (v ++ [])) rest ∙ no_lines_more k.lines) k.are.went given)

    pub ends_goes : (last : S) (kept : List ℕ) (then : Option (List ℕ)) → (begun ≡ [] → ⊥) →
        (k : Goes by Went start before last kept (h.taken ++ 10 ∷ []) then new) → Appends before new (Text k.answers) →
        AnswersAll by Went (IsLeft whole) start next before new
    ends_goes last kept then some k given =
        let rest : k.rest ≡ [] = tail_none h.taken _ k.rest k.splits.whole k.unended in
        answers_all (serves_lines by start Went last k.lines k.answers k.answered h.taken before new
        (one_line some ∙ ap lines_of (sym (no_text_more (h.taken ++ 10 ∷ [])))
        ∙ lines_of-split (h.taken ++ 10 ∷ []) k.rest [] k.lines k.splits
        ∙ ap (λ (v : List ℕ). k.lines ++ lines_of (v ++ [])) rest ∙ no_lines_more k.lines) k.are.went given)

    -- the lines up to some of them, and others
    some_lines : (lines : List (List ℕ)) (rest : List ℕ) → (begun ≡ [] → ⊥) → Splits (h.taken ++ 10 ∷ []) lines rest →
        lines_of h.taken ≡ lines ++ lines_of rest
    some_lines lines rest some splits =
        one_line some ∙ ap lines_of (sym (no_text_more (h.taken ++ 10 ∷ [])))
        ∙ lines_of-split (h.taken ++ 10 ∷ []) rest [] lines splits
        ∙ ap (λ (v : List ℕ). lines ++ lines_of v) (no_text_more rest)

    pub ends_quits : (then : Option (List ℕ)) → (begun ≡ [] → ⊥) →
        (k : Quits by Went start before (h.taken ++ 10 ∷ []) then new) → Appends before new (Text k.answers) →
        AnswersAll by Went (IsLeft whole) start next before new
    ends_quits then some k given =
        answers_all (serves_quit by start Went k.here k.lines k.answers k.answered h.taken before new (lines_of k.rest)
        (some_lines k.lines k.rest some k.splits) (k.whole (lines_of k.rest)) k.are.went given)

    ends_breaks : (doubt : Option A) (held : List ℕ) → (begun ≡ [] → ⊥) →
        Breaks by Went start doubt before (h.taken ++ 10 ∷ []) held (append_known new held) new →
        StopsEarly by Went (IsLeft whole) start doubt before new
    ends_breaks doubt held some k =
        breaks_off doubt h.taken (h.taken ++ 10 ∷ []) held (append_known new held) new k (lines_of k.rest)
        (subst (IsLeft whole) (no_text_more h.taken) told_end) (some_lines k.lines k.rest some k.splits)
        (part_below before new held k.front k.left (Text k.answers) k.is k.some k.grown k.given)

    -- as the outcome says
    pub finishes : (last : S) (held : List ℕ) (end : Outcome) → (end ≡ Done → held ≡ []) →
        FinishesAt by Went start before last begun h.taken held (append_known new held) new end →
        AnswersStream by Went (IsLeft whole) start next before new end
    finishes last held Done none (inl k) =
        ends_none last (append_known new held) k.0 k.1 (given_all before new held (Text k.1.answers) (none refl) k.1.are.given)
    finishes last held Done none (inr k) = elim k.1 [
      | inl g ↦ ends_goes last g.0 (append_known new held) k.0 g.1
          (given_all before new held (Text g.1.answers) (none refl) g.1.are.given)
      | inr q ↦ ends_quits (append_known new held) k.0 q (given_all before new held (Text q.answers) (none refl) q.are.given)
    ]
    finishes last held WriteFault none k = ends_breaks None held k.0 k.1
    finishes last held DiskFault none k = (k.1.0, ends_breaks (Some k.1.0) held k.0 k.1.1)
    finishes last held ReadFault none k = absurd k
    finishes last held InputLong none k = absurd k

-- what was read, cut in two
pub record Cut (buffer : List ℕ) (some count : ℕ) : Type 0 where
  pub size : length (take some buffer) ≡ some
  pub rest : length (drop some (take count buffer)) ≡ count - some
  pub all : length (take count buffer) ≡ count
  pub is : take some buffer ++ drop some (take count buffer) ≡ take count buffer

pub cut_at : (buffer : List ℕ) (some count : ℕ) → some ≤ count → count ≤ length buffer → Cut buffer some count
cut_at buffer some count low within =
    let size : length (take count buffer) ≡ count = length-take-le count buffer within in
    let less = length-drop some (take count buffer) in record {
      size = length-take-le some buffer (omega arith);
      rest = omega arith;
      all = size;
      is = ap (λ (v : List ℕ). v ++ drop some (take count buffer))
          (sym (take-take some count buffer low)) ∙ take-append-drop some (take count buffer);
    }

-- ---- what the calls tell

module _ {S A : Type 0} (by : Answering S A) (Went : List A → Option A → Type 0) (start last : S)
    (before total below : Option (List ℕ)) (new bytes held : List ℕ) where
  pub fed_on : (flow : Flow) → flow ≡ On → Feeds by Went start before last new bytes held total below (Ok flow) →
      Goes by Went start before last new bytes total below
  fed_on flow on told =
      subst (λ (v : Flow). Feeds by Went start before last new bytes held total below (Ok v)) on told

  pub fed_ended : (flow : Flow) → flow ≡ Ended → Feeds by Went start before last new bytes held total below (Ok flow) →
      Quits by Went start before bytes total below
  fed_ended flow ended told =
      subst (λ (v : Flow). Feeds by Went start before last new bytes held total below (Ok v)) ended told

-- no call of the shelf failed
pub counts_none : (end : Outcome) (before now : ℕ) → (end ≡ ReadFault → ⊥) → now ≡ before →
    CountsReads end before now
counts_none ReadFault before now never same = absurd (never refl)
counts_none Done before now never same = same
counts_none WriteFault before now never same = same
counts_none DiskFault before now never same = same
counts_none InputLong before now never same = same

pub not_reading : (stopped : Stopped) (end : Outcome) → end ≡ outcome_of stopped → end ≡ ReadFault → ⊥
not_reading Output end is read = let e : WriteFault ≡ ReadFault = sym is ∙ read in cc
not_reading Disk end is read = let e : DiskFault ≡ ReadFault = sym is ∙ read in cc
