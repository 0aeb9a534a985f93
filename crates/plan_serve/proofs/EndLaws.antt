-- How the answers to a stream end.
use Rattle.std.proofs.Common.{◌≡◌, ◌≢◌, refl, sym, ◌∙◌, ap, subst, inl, inr, ℕ, ◌+◌, ◌-◌, ◌≤◌, ◌<◌, true, false, List, [], ◌∷◌, ◌++◌, append_assoc, length, length-append, take, drop, Option, None, Some, Result, Ok, Err, arith}
use Rattle.std.specs.Prelude.{IsTrue, IfSome, ◌==◌}
use Rattle.std.specs.Io.KnownBytes.{Appends, Consumes, Keeps, IsAtEnd}
use Rattle.std.proofs.lemmas.List.{length-take-le, length-drop, take-take, take-append-drop}
use Rattle.std.proofs.Math.Seq.{take-append_seam, take-append-add}
use Rattle.eon_model.specs.Run.{Situation}
use Rattle.eon_model.specs.Legal.{Setup, Legal}
use Rattle.eon_model.specs.NetworkText.{is_setup}
use Rattle.eon_model.specs.Modes.{stream_limit}
use Rattle.eon_model.specs.LineStream.{lines_of}
use Rattle.eon_outside.specs.declared.reading.Failed.{Failed}
use Rattle.plan_serve.specs.Files.{IsLeft}
use Rattle.plan_serve.specs.Lines.{whole_lines, quits_within, has_no_end, most_kept, most_read, Splits}
use Rattle.plan_serve.specs.Ends.{Serves, GoesOnBehind, AnswersAll, StopsAtLong, StopsReading, StopsWriting, AnswersStream, CountsReads}
use Rattle.plan_serve.specs.Session.{Goes, Quits, Breaks, Feeds, FinishesAt}
use Rattle.plan_serve.specs.declared.status.Status.{Status}
use Rattle.plan_serve.specs.declared.status.Status.TheVariants.{Done, ReadFault, WriteFault, InputLong}
use Rattle.plan_serve.specs.declared.answering.Flow.{Flow}
use Rattle.plan_serve.specs.declared.answering.Flow.TheVariants.{On, Ended}
use Rattle.plan_serve.proofs.AnsweredLaws.{serves_lines, serves_quit, begins_front, ends_early}
use Rattle.plan_serve.proofs.HeldLaws.{Below}
use Rattle.plan_serve.proofs.KeptLaws.{empty_front}
use Rattle.plan_serve.proofs.LineLaws.{no_text_more, no_lines_more, no_end_parts, splits_end, lines_of-split, lines_of-last, whole_lines-split}
use Rattle.plan_serve.proofs.QuitLaws.{quits_among, no_quit_within, short_stream, quit_stream, long_stream}

-- ---- bytes read

consumes_none : (a : Option (List ℕ)) → Consumes a a []
consumes_none None = tt
consumes_none (Some a) = refl

consumes_more : (a b c : Option (List ℕ)) (x y : List ℕ) → Consumes a b x → Consumes b c y →
    Consumes a c (x ++ y)
consumes_more None b c x y p q = tt
consumes_more (Some a) None c x y p q = absurd p
consumes_more (Some a) (Some b) None x y p q = absurd q
consumes_more (Some a) (Some b) (Some c) x y p q =
    p ∙ ap (λ (v : List ℕ). x ++ v) q ∙ sym (append_assoc x y c)

consumes_kept : (a b c : Option (List ℕ)) (x : List ℕ) → Consumes a b x → Keeps b c → Consumes a c x
consumes_kept None b c x p q = tt
consumes_kept (Some a) None c x p q = absurd p
consumes_kept (Some a) (Some b) None x p q = absurd q
consumes_kept (Some a) (Some b) (Some c) x p q = p ∙ ap (λ (v : List ℕ). x ++ v) (sym q)

-- the bytes that are left, none where they are not told
rest_of : Option (List ℕ) → List ℕ
rest_of None = []
rest_of (Some bytes) = bytes

left_is : (left : Option (List ℕ)) → IsLeft left (rest_of left)
unfolding rest_of
left_is None = tt
left_is (Some bytes) = refl

stream_is : (whole left : Option (List ℕ)) (taken : List ℕ) → Consumes whole left taken →
    IsLeft whole (taken ++ rest_of left)
unfolding rest_of
stream_is None left taken p = tt
stream_is (Some whole) None taken p = absurd p
stream_is (Some whole) (Some left) taken p = p

stream_ends : (whole left : Option (List ℕ)) (taken : List ℕ) → Consumes whole left taken → IsAtEnd left →
    IsLeft whole taken
stream_ends None left taken p e = tt
stream_ends (Some whole) None taken p e = absurd p
stream_ends (Some whole) (Some left) taken p e =
    p ∙ ap (λ (v : List ℕ). taken ++ v) e ∙ no_text_more taken

left_ends : (left : Option (List ℕ)) → IsAtEnd left → IsLeft left []
left_ends None e = tt
left_ends (Some left) e = e

-- ---- so far

-- So many bytes were read of the stream, and this came of them.
pub record Going (setup : Setup) (start : Situation) (whole left before : Option (List ℕ)) (here : Situation) (begun : List ℕ)
    (count : ℕ) (now : Option (List ℕ)) : Type 0 where
  pub taken : List ℕ
  pub read : Consumes whole left taken
  pub counted : length taken ≡ count
  pub goes : Goes setup start before here begun taken now

pub going_begin : (setup : Setup) (start : Situation) (whole before : Option (List ℕ)) (begun : List ℕ) →
    Goes setup start before start begun [] before → Going setup start whole whole before start begun 0 before
going_begin setup start whole before begun goes =
    record { taken = []; read = consumes_none whole; counted = refl; goes = goes }

pub going_on : (setup : Setup) (start here last : Situation) (left next : Option (List ℕ)) (whole before now : Option (List ℕ))
    (begun : List ℕ) → {count : ℕ} → (h : Going setup start whole left before here begun count now) → (piece : List ℕ)
    (size : ℕ) (kept : List ℕ) (then : Option (List ℕ)) → length piece ≡ size → Consumes left next piece →
    Goes setup start before last kept (h.taken ++ piece) then →
    Going setup start whole next before last kept (count + size) then
going_on setup start here last left next whole before now begun {count} h piece size kept then is read goes = record {
  taken = h.taken ++ piece;
  read = consumes_more whole left next h.taken piece h.read read;
  counted = length-append h.taken piece ∙ ap (λ (v : ℕ). v + length piece) h.counted ∙ ap (λ (v : ℕ). count + v) is;
  goes = goes;
}

-- ---- the last line

-- where something has begun, it is a line, as if an end followed it
last_ends : (bytes rest : List ℕ) (lines : List (List ℕ)) → Splits bytes lines rest → IsTrue (has_no_end rest) →
    (rest ≡ [] → ⊥) → lines_of bytes ≡ lines_of (bytes ++ 10 ∷ [])
last_ends bytes [] lines h unended some = absurd (some refl)
last_ends bytes (b ∷ rest) lines h unended some =
    ap lines_of (sym (no_text_more bytes)) ∙ lines_of-split bytes (b ∷ rest) [] lines h
    ∙ ap (λ (v : List ℕ). lines ++ lines_of v) (no_text_more (b ∷ rest))
    ∙ ap (λ (v : List (List ℕ)). lines ++ v) (lines_of-last b rest unended)
    ∙ ap (λ (v : List ℕ). lines ++ v ∷ []) (sym (no_text_more (b ∷ rest)))
    ∙ sym (no_lines_more (lines ++ ((b ∷ rest) ++ []) ∷ []))
    ∙ sym (lines_of-split (bytes ++ 10 ∷ []) [] [] (lines ++ ((b ∷ rest) ++ []) ∷ [])
    (splits_end bytes (b ∷ rest) [] [] lines h unended refl))
    ∙ ap lines_of (no_text_more (bytes ++ 10 ∷ []))

-- nothing stands behind a byte 10 at the end
tail_none : (x y r : List ℕ) → x ++ 10 ∷ [] ≡ y ++ r → IsTrue (has_no_end r) → r ≡ []
tail_none x y [] e h = refl
tail_none [] [] (b ∷ r) e h =
    let is : 10 ≡ b = cc in
    absurd (let k = (no_end_parts b r h).0 in ten_is b is k)
  where
    ten_is : (b : ℕ) → 10 ≡ b → (b == 10) ≡ false → ⊥
    ten_is b e k = let f = subst (λ (v : ℕ). (v == 10) ≡ false) (sym e) k in cc
tail_none [] (c ∷ y) (b ∷ r) e h = absurd (let k : [] ≡ y ++ b ∷ r = cc in not_empty y b r k)
  where
    not_empty : (y : List ℕ) (b : ℕ) (r : List ℕ) → [] ≡ y ++ b ∷ r → ⊥
    not_empty [] b r e = cc
    not_empty (c ∷ y) b r e = cc
tail_none (a ∷ x) [] (b ∷ r) e h =
    let parts = no_end_parts b r h in
    let same : x ++ 10 ∷ [] ≡ r = cc in
    let none = tail_none x [] r same parts.1 in
    absurd (not_empty x 10 [] (sym none ∙ sym same))
  where
    not_empty : (y : List ℕ) (b : ℕ) (r : List ℕ) → [] ≡ y ++ b ∷ r → ⊥
    not_empty [] b r e = cc
    not_empty (c ∷ y) b r e = cc
tail_none (a ∷ x) (c ∷ y) (b ∷ r) e h = tail_none x y (b ∷ r) (let k : x ++ 10 ∷ [] ≡ y ++ b ∷ r = cc in k) h

-- what was taken before and now, and what is left
taken_split : (taken piece more left : List ℕ) →
    (taken ++ (piece ++ more)) ++ left ≡ (taken ++ piece) ++ (more ++ left)
taken_split taken piece more left =
    ap (λ (v : List ℕ). v ++ left) (sym (append_assoc taken piece more))
    ∙ append_assoc (taken ++ piece) more left

front_of : (n : ℕ) (a p : List ℕ) → length a ≤ n → take n (a ++ p) ≡ a ++ take (n - length a) p
front_of n a p low =
    let whole : length a + (n - length a) ≡ n = omega arith in
    ap (λ (v : ℕ). take v (a ++ p)) (sym whole) ∙ take-append-add a p (n - length a)

early_is : (setup : Setup) (start : Situation) (bytes : List ℕ) (old : Option (List ℕ)) (front left part : List ℕ) →
    IfSome old (λ _. left ≢ []) → part ≡ front → (left ≢ [] → GoesOnBehind setup start bytes front) →
    IfSome old (λ _. GoesOnBehind setup start bytes part)
early_is setup start bytes None front left part some is more = tt
early_is setup start bytes (Some known) front left part some is more =
    subst (λ (v : List ℕ). GoesOnBehind setup start bytes v) (sym is) (more some)

module _ (setup : Setup) (start here : Situation) (ok : is_setup setup ≡ true) (legal : Legal setup start.state)
    (whole left next before now : Option (List ℕ)) (begun : List ℕ) (count : ℕ) (old new : Option (List ℕ))
    (h : Going setup start whole left before here begun count now) where
  abbrev goes : Goes setup start before here begun h.taken now
  goes = h.goes

  -- ---- within the stream

  pub stops_reading : count ≤ stream_limit → Keeps left next → Appends old new goes.text →
      StopsReading (IsLeft whole) setup start next old new
  stops_reading short kept given = record {
    read = h.taken;
    rest = rest_of next;
    told = stream_is whole next h.taken (consumes_kept whole left next h.taken h.read kept);
    unread = left_is next;
    short = omega (arith, h.counted);
    no_quit = no_quit_within h.taken goes.rest goes.lines goes.splits goes.unended goes.none_quits;
    serves = serves_lines setup start here ok legal goes.lines goes.text goes.answered (whole_lines h.taken) old new
        (whole_lines-split h.taken goes.rest goes.lines goes.splits goes.unended) given;
    begins = (begins_front setup start here ok legal goes.lines goes.text goes.answered (h.taken ++ rest_of next) old new
        (lines_of (goes.rest ++ rest_of next)) goes.text []
        (lines_of-split h.taken goes.rest (rest_of next) goes.lines goes.splits) (no_text_more goes.text) given).0;
  }

  module _ (piece more : List ℕ) (read : Consumes left next (piece ++ more)) where
    abbrev taken : List ℕ
    taken = h.taken ++ piece

    abbrev all : List ℕ
    all = h.taken ++ (piece ++ more)

    told_all : IsLeft whole (all ++ rest_of next)
    told_all = stream_is whole next all (consumes_more whole left next h.taken (piece ++ more) h.read read)

    bytes : all ++ rest_of next ≡ taken ++ (more ++ rest_of next)
    bytes = taken_split h.taken piece more (rest_of next)

    size : length taken ≡ count + length piece
    size = length-append h.taken piece ∙ ap (λ (v : ℕ). v + length piece) h.counted

    pub stops_at_long : (last : Situation) (kept : List ℕ) (then : Option (List ℕ)) → count + length piece ≡ stream_limit →
        0 < length more → (k : Goes setup start before last kept taken then) → Appends old new k.text →
        StopsAtLong (IsLeft whole) setup start old new
    stops_at_long last kept then full some k given =
        let stream = all ++ rest_of next in
        let front : take stream_limit stream ≡ taken =
        ap (take stream_limit) bytes ∙ ap (λ (v : ℕ). take v (taken ++ (more ++ rest_of next))) (sym (size ∙ full))
        ∙ take-append_seam taken (more ++ rest_of next) in record {
          stream = stream;
          told = told_all;
          long = long_stream stream
              (let a : length stream ≡ length taken + (length more + length (rest_of next)) =
              ap length bytes ∙ length-append taken (more ++ rest_of next)
              ∙ ap (λ (v : ℕ). length taken + v) (length-append more (rest_of next)) in omega (arith, a, size, full, some))
              (ap quits_within front ∙ no_quit_within taken k.rest k.lines k.splits k.unended k.none_quits);
          serves = serves_lines setup start last ok legal k.lines k.text k.answered (whole_lines (take stream_limit stream))
              old new (ap (λ (v : List ℕ). lines_of (whole_lines v)) front
              ∙ whole_lines-split taken k.rest k.lines k.splits k.unended) given;
          begins = (begins_front setup start last ok legal k.lines k.text k.answered stream old new
              (lines_of (k.rest ++ (more ++ rest_of next))) k.text []
              (ap lines_of bytes ∙ lines_of-split taken k.rest (more ++ rest_of next) k.lines k.splits)
              (no_text_more k.text) given).0;
        }

    pub stops_writing : (held : List ℕ) (then : Option (List ℕ)) → (k : Breaks setup start before taken held then) →
        Below old new k.text → StopsWriting (IsLeft whole) setup start old new
    stops_writing held then k below =
        let stream = all ++ rest_of next in
        let is : lines_of stream ≡ k.lines ++ lines_of (k.rest ++ (more ++ rest_of next)) =
        ap lines_of bytes ∙ lines_of-split taken k.rest (more ++ rest_of next) k.lines k.splits in
        let b = begins_front setup start k.here ok legal k.lines k.text k.answered stream old new _ below.front below.left is
        below.is below.given in record {
          stream = stream;
          told = told_all;
          begins = b.0;
          early = early_is setup start stream old below.front below.left b.0.part below.some b.1
              (ends_early setup start k.here ok legal k.lines k.text k.answered stream old new _ below.front below.left is
              below.is);
        }

    pub quits_read : (then : Option (List ℕ)) → count + length piece ≤ stream_limit → length (piece ++ more) ≤ most_read →
        (k : Quits setup start before taken then) → Appends old new k.text →
        AnswersAll (IsLeft whole) setup start next old new
    quits_read then low few k given =
        let left_over = more ++ rest_of next in record {
          read = all;
          rest = rest_of next;
          told = told_all;
          unread = left_is next;
          to_end = λ some. ap quits_within (sym (append_assoc h.taken piece more))
              ∙ quits_among taken k.rest more k.lines k.splits k.quits;
          no_further = (
            h.taken,
            piece ++ more,
            refl,
            few,
            no_quit_within h.taken goes.rest goes.lines goes.splits goes.unended goes.none_quits,
          );
          short = quit_stream (all ++ rest_of next)
              (ap (λ (v : List ℕ). quits_within (take stream_limit v)) bytes
              ∙ ap quits_within (front_of stream_limit taken left_over (omega (arith, size, low)))
              ∙ quits_among taken k.rest (take (stream_limit - length taken) left_over) k.lines k.splits k.quits);
          serves = serves_quit setup start k.here ok legal k.lines k.text k.answered (all ++ rest_of next) old new
              (lines_of (k.rest ++ left_over))
              (ap lines_of bytes ∙ lines_of-split taken k.rest left_over k.lines k.splits)
              (k.whole (lines_of (k.rest ++ left_over))) given;
        }

  -- ---- the end of the stream

  module _ (short : count ≤ stream_limit) (read : Consumes left next []) (ends : IsAtEnd next) where
    -- the run over all that was taken
    abbrev RunsOver : List ℕ → Type 0
    RunsOver bytes = Serves setup start bytes old new

    pub answers_all : Serves setup start h.taken old new → AnswersAll (IsLeft whole) setup start next old new
    answers_all serves = record {
      read = h.taken;
      rest = [];
      told = stream_ends whole next (h.taken ++ []) (consumes_more whole left next h.taken [] h.read read) ends;
      unread = left_ends next ends;
      to_end = λ some. absurd (some refl);
      no_further = (
        h.taken,
        [],
        no_text_more h.taken,
        omega arith,
        no_quit_within h.taken goes.rest goes.lines goes.splits goes.unended goes.none_quits,
      );
      short = short_stream (h.taken ++ []) (let k : length (h.taken ++ []) ≡ length h.taken = ap length (no_text_more h.taken) in
          omega (arith, k, h.counted, short));
      serves = subst RunsOver (sym (no_text_more h.taken)) serves;
    }

    begun_rest : (begun ≡ [] → ⊥) → goes.rest ≡ [] → ⊥
    begun_rest some none = some (goes.kept ∙ ap (take most_kept) none)

    -- a line has begun, and it ends here
    one_line : (begun ≡ [] → ⊥) → lines_of h.taken ≡ lines_of (h.taken ++ 10 ∷ [])
    one_line some = last_ends h.taken goes.rest goes.lines goes.splits goes.unended (begun_rest some)

    pub ends_none : (last : Situation) (then : Option (List ℕ)) → begun ≡ [] → (k : Goes setup start before last begun h.taken then) →
        Appends old new k.text → AnswersAll (IsLeft whole) setup start next old new
    ends_none last then none k given =
        let rest : k.rest ≡ [] = empty_front most_kept k.rest (omega arith) (sym k.kept ∙ none) in
        answers_all (serves_lines setup start last ok legal k.lines k.text k.answered h.taken old new
        (ap lines_of (sym (no_text_more h.taken)) ∙ lines_of-split h.taken k.rest [] k.lines k.splits
        ∙ ap (λ (v : List ℕ). k.lines ++ lines_of (v ++ [])) rest ∙ no_lines_more k.lines) given)

    pub ends_goes : (last : Situation) (kept : List ℕ) (then : Option (List ℕ)) → (begun ≡ [] → ⊥) →
        (k : Goes setup start before last kept (h.taken ++ 10 ∷ []) then) → Appends old new k.text →
        AnswersAll (IsLeft whole) setup start next old new
    ends_goes last kept then some k given =
        let rest : k.rest ≡ [] = tail_none h.taken _ k.rest k.splits.whole k.unended in
        answers_all (serves_lines setup start last ok legal k.lines k.text k.answered h.taken old new
        (one_line some ∙ ap lines_of (sym (no_text_more (h.taken ++ 10 ∷ [])))
        ∙ lines_of-split (h.taken ++ 10 ∷ []) k.rest [] k.lines k.splits
        ∙ ap (λ (v : List ℕ). k.lines ++ lines_of (v ++ [])) rest ∙ no_lines_more k.lines) given)

    -- the lines up to some of them, and others
    some_lines : (lines : List (List ℕ)) (rest : List ℕ) → (begun ≡ [] → ⊥) → Splits (h.taken ++ 10 ∷ []) lines rest →
        lines_of h.taken ≡ lines ++ lines_of rest
    some_lines lines rest some splits =
        one_line some ∙ ap lines_of (sym (no_text_more (h.taken ++ 10 ∷ [])))
        ∙ lines_of-split (h.taken ++ 10 ∷ []) rest [] lines splits
        ∙ ap (λ (v : List ℕ). lines ++ lines_of v) (no_text_more rest)

    pub ends_quits : (then : Option (List ℕ)) → (begun ≡ [] → ⊥) →
        (k : Quits setup start before (h.taken ++ 10 ∷ []) then) → Appends old new k.text →
        AnswersAll (IsLeft whole) setup start next old new
    ends_quits then some k given =
        answers_all (serves_quit setup start k.here ok legal k.lines k.text k.answered h.taken old new (lines_of k.rest)
        (some_lines k.lines k.rest some k.splits) (k.whole (lines_of k.rest)) given)

    pub ends_breaks : (held : List ℕ) (then : Option (List ℕ)) → (begun ≡ [] → ⊥) →
        (k : Breaks setup start before (h.taken ++ 10 ∷ []) held then) → Below old new k.text →
        StopsWriting (IsLeft whole) setup start old new
    ends_breaks held then some k below =
        let is = some_lines k.lines k.rest some k.splits in
        let b = begins_front setup start k.here ok legal k.lines k.text k.answered h.taken old new (lines_of k.rest)
        below.front below.left is below.is below.given in record {
          stream = h.taken;
          told = subst (IsLeft whole) (no_text_more h.taken)
              (stream_ends whole next (h.taken ++ []) (consumes_more whole left next h.taken [] h.read read) ends);
          begins = b.0;
          early = early_is setup start h.taken old below.front below.left b.0.part below.some b.1
              (ends_early setup start k.here ok legal k.lines k.text k.answered h.taken old new (lines_of k.rest)
              below.front below.left is below.is);
        }

    -- as the status says
    pub finishes : (last : Situation) (held : List ℕ) (then : Option (List ℕ)) (status : Status) →
        (status ≡ Done → (text : List ℕ) → Appends before then text → Appends old new text) →
        ((front left text : List ℕ) → front ++ left ≡ text → (held ++ left ≡ [] → ⊥) → Appends before then front →
        Below old new text) →
        FinishesAt setup start before last begun h.taken held then status →
        AnswersStream (IsLeft whole) setup start next old new status
    finishes last held then Done whole_text part (inl k) = ends_none last then k.0 k.1 (whole_text refl k.1.text k.1.given)
    finishes last held then Done whole_text part (inr k) = elim k.1 [
      | inl g ↦ ends_goes last g.0 then k.0 g.1 (whole_text refl g.1.text g.1.given)
      | inr q ↦ ends_quits then k.0 q (whole_text refl q.text q.given)
    ]
    finishes last held then WriteFault whole_text part k =
        ends_breaks held then k.0 k.1 (part k.1.front k.1.left k.1.text k.1.is k.1.some k.1.given)
    finishes last held then ReadFault whole_text part k = absurd k
    finishes last held then InputLong whole_text part k = absurd k
    finishes last held then _ whole_text part k = absurd k

-- what was read, cut in two
pub record Cut (buffer : List ℕ) (some count : ℕ) : Type 0 where
  pub size : length (take some buffer) ≡ some
  pub rest : length (drop some (take count buffer)) ≡ count - some
  pub all : length (take count buffer) ≡ count
  pub is : take some buffer ++ drop some (take count buffer) ≡ take count buffer

pub cut_at : (buffer : List ℕ) (some count : ℕ) → some ≤ count → count ≤ length buffer → Cut buffer some count
cut_at buffer some count low within =
    let size : length (take count buffer) ≡ count = length-take-le count buffer within in
    let less = length-drop some (take count buffer) in record {
      size = length-take-le some buffer (omega arith);
      rest = omega arith;
      all = size;
      is = ap (λ (v : List ℕ). v ++ drop some (take count buffer))
          (sym (take-take some count buffer low)) ∙ take-append-drop some (take count buffer);
    }

-- ---- what the calls tell, over the setup at the begin

module _ (setup same : Setup) (start here last : Situation) (before now then : Option (List ℕ))
    (begun bytes held : List ℕ) (is : same ≡ setup) (goes : Goes setup start before here begun bytes now) where
  pub finish_told : (status : Status) →
      (Goes same start before here begun bytes now → FinishesAt same start before last begun bytes held then status) →
      FinishesAt setup start before last begun bytes held then status
  finish_told status told =
      (let P : Setup → Type 0 = λ v. Goes v start before here begun bytes now → FinishesAt v start before last begun bytes held then status in
      subst P is told) goes

  module _ (new piece : List ℕ) where
    fed : (r : Result Flow Failed) →
        (Goes same start before here begun bytes now →
        Feeds {E = Failed} same start before last new (bytes ++ piece) held then r) →
        Feeds {E = Failed} setup start before last new (bytes ++ piece) held then r
    fed r told =
        (let P : Setup → Type 0 = λ v. Goes v start before here begun bytes now → Feeds {E = Failed} v start before last new (bytes ++ piece) held then r in
        subst P is told) goes

    pub fed_on : (flow : Flow) → flow ≡ On →
        (Goes same start before here begun bytes now →
        Feeds {E = Failed} same start before last new (bytes ++ piece) held then (Ok flow)) →
        Goes setup start before last new (bytes ++ piece) then
    fed_on flow on told =
        subst (λ (v : Flow). Feeds {E = Failed} setup start before last new (bytes ++ piece) held then (Ok v)) on
        (fed (Ok flow) told)

    pub fed_ended : (flow : Flow) → flow ≡ Ended →
        (Goes same start before here begun bytes now →
        Feeds {E = Failed} same start before last new (bytes ++ piece) held then (Ok flow)) →
        Quits setup start before (bytes ++ piece) then
    fed_ended flow ended told =
        subst (λ (v : Flow). Feeds {E = Failed} setup start before last new (bytes ++ piece) held then (Ok v)) ended
        (fed (Ok flow) told)

    pub fed_breaks : (e : Failed) →
        (Goes same start before here begun bytes now →
        Feeds {E = Failed} same start before last new (bytes ++ piece) held then (Err e)) →
        Breaks setup start before (bytes ++ piece) held then
    fed_breaks e told = fed (Err e) told

-- no call of the shelf failed
pub counts_none : (status : Status) (before now : ℕ) → (status ≡ ReadFault → ⊥) → now ≡ before →
    CountsReads status before now
counts_none ReadFault before now never same = absurd (never refl)
counts_none _ before now never same = same
