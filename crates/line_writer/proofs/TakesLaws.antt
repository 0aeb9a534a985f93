-- Bytes that are taken one piece after the other.
use Rattle.std.proofs.Common.{◌≡◌, refl, sym, ◌∙◌, ap, subst, ℕ, ◌≤◌, ◌<◌, ◌+◌, Bool, true, false, List, [], ◌++◌, length, take, Option, None, Some, Result, Ok, Err, OnOk, OnErr, arith}
use Rattle.std.proofs.Math.Seq.{take-append-add, take-append_seam}
use Rattle.std.proofs.lemmas.List.{append-nil, length-append, take-append-le}
use Rattle.std.specs.Io.KnownBytes.{Appends}
use Rattle.eon_outside.specs.Faults.{with_fault, Stands}
use Rattle.eon_outside.specs.Writing.{AppendsPart}
use Rattle.eon_outside.proofs.KnownBytesLaws.{appends_more}
use Rattle.line_writer.specs.Sent.{Sent, Took, Stopped, Takes, TakesUnless}

-- ---- pieces

-- these bytes and then those
took-both : (a b c : Sent) (xs ys : List ℕ) → Took a b xs → Took b c ys → Took a c (xs ++ ys)
took-both a b c xs ys p q = record {
  given = appends_more a.given b.given c.given xs ys p.given q.given;
  stands = q.stands ∙ p.stands;
}

part-more : (g h : Option (List ℕ)) (xs ys : List ℕ) → AppendsPart g h xs → AppendsPart g h (xs ++ ys)
part-more g h xs ys p =
    let n = p.0 in
    let l : n < length xs = p.1 in
    let m : n ≤ length xs = omega arith in
    let e = length-append xs ys in
    (n, omega arith, subst (λ (v : List ℕ). Appends g h v) (sym (take-append-le n xs ys m)) p.2)

-- it stays so where nothing is given any more
stopped-still : (a b c : Sent) (xs ys : List ℕ) → Stopped a b xs → c.given ≡ b.given →
    c.standing ≡ b.standing →
    Stopped a c (xs ++ ys)
stopped-still a b c xs ys s e f = record {
  part = subst (λ (v : Option (List ℕ)). AppendsPart a.given v (xs ++ ys)) (sym e)
      (part-more a.given b.given xs ys s.part);
  stands = f ∙ s.stands;
}

part-after : (g h i : Option (List ℕ)) (xs ys : List ℕ) → Appends g h xs → AppendsPart h i ys → AppendsPart g i (xs ++ ys)
part-after g h i xs ys p q =
    let n = q.0 in
    let l : n < length ys = q.1 in
    let e = length-append xs ys in (
      length xs + n,
      omega arith,
      subst (λ (v : List ℕ). Appends g i v) (sym (take-append-add xs ys n)) (appends_more g h i xs (take n ys) p q.2),
    )

-- these bytes were taken, and then a front of those
took-stopped : (a b c : Sent) (xs ys : List ℕ) → Took a b xs → Stopped b c ys → Stopped a c (xs ++ ys)
took-stopped a b c xs ys p s = record {
  part = part-after a.given b.given c.given xs ys p.given s.part;
  stands = s.stands ∙ ap with_fault p.stands;
}

takes-unless : (s t u : Bool) (a b c : Sent) (xs ys : List ℕ) → TakesUnless s t a b xs → TakesUnless t u b c ys →
    TakesUnless s u a c (xs ++ ys)
takes-unless false false false a b c xs ys p q = took-both a b c xs ys p q
takes-unless false false true a b c xs ys p q = took-stopped a b c xs ys p q
takes-unless false true false a b c xs ys p q = absurd q
takes-unless false true true a b c xs ys p q = stopped-still a b c xs ys p q.0 q.1
takes-unless true false false a b c xs ys p q = absurd p
takes-unless true false true a b c xs ys p q = absurd p
takes-unless true true false a b c xs ys p q = absurd q
takes-unless true true true a b c xs ys p q = (q.0 ∙ p.0, q.1 ∙ p.1)

-- one after the other
pub takes-both : (a b c : Sent) (xs ys : List ℕ) → Takes a b xs → Takes b c ys → Takes a c (xs ++ ys)
takes-both a b c xs ys p q = record {
  place = q.place ∙ p.place;
  begins = q.begins ∙ p.begins;
  taken = takes-unless a.stopped b.stopped c.stopped a b c xs ys p.taken q.taken;
}

pub takes-same : (a b : Sent) (xs ys : List ℕ) → xs ≡ ys → Takes a b xs → Takes a b ys
takes-same a b xs ys e p = subst (λ (v : List ℕ). Takes a b v) e p

grows-none : (g : Option (List ℕ)) → Appends g g []
grows-none None = tt
grows-none (Some bs) = sym (append-nil bs)

none-unless : (s : Bool) (a : Sent) → TakesUnless s s a a []
none-unless true a = (refl, refl)
none-unless false a = record { given = grows-none a.given; stands = refl }

-- nothing
pub takes-none : (a : Sent) → Takes a a []
takes-none a = record { place = refl; begins = refl; taken = none-unless a.stopped a }

pub ruleset takes = (takes-both, takes-same, takes-none)

-- ---- the end of a text in memory

text-whole : (a b : Sent) (before now text : List ℕ) → a.given ≡ Some before → b.given ≡ Some now → Took a b text →
    now ≡ before ++ text
text-whole a b before now text e f p = subst (λ (v : Option (List ℕ)). Appends (Some before) v text) f
    (subst (λ (v : Option (List ℕ)). Appends v b.given text) e p.given)

text-front : (a b : Sent) (before now text : List ℕ) → a.given ≡ Some before → b.given ≡ Some now → Stopped a b text →
    take (length before) now ≡ before
text-front a b before now text e f p =
    let n = p.part.0 in
    let is : now ≡ before ++ take n text = subst (λ (v : Option (List ℕ)). Appends (Some before) v (take n text)) f
    (subst (λ (v : Option (List ℕ)). Appends v b.given (take n text)) e p.part.2) in
    ap (λ v. take (length before) v) is ∙ take-append_seam before (take n text)

text-kept : (s : Bool) (a b : Sent) (before now text : List ℕ) → a.given ≡ Some before → b.given ≡ Some now →
    TakesUnless false s a b text → s ≡ false → now ≡ before ++ text
text-kept false a b before now text e f p h = text-whole a b before now text e f p
text-kept true a b before now text e f p h = absurd cc

text-cut : (s : Bool) (a b : Sent) (before now text : List ℕ) → a.given ≡ Some before → b.given ≡ Some now →
    TakesUnless false s a b text → s ≡ true → take (length before) now ≡ before
text-cut true a b before now text e f p h = text-front a b before now text e f p
text-cut false a b before now text e f p h = absurd cc

-- From what a text in memory took, and from its end: all of it stands behind the bytes before it, or they stand alone.
pub memory-ends : {X E : Type 0} (r : Result X E) (a b : Sent) (before now last text : List ℕ) →
    a.given ≡ Some before → b.given ≡ Some now → a.stopped ≡ false → a.begins ≡ length before → Takes a b text →
    OnOk r (b.stopped ≡ false) → OnOk r (last ≡ now) → OnErr r (b.stopped ≡ true) → OnErr r (last ≡ take b.begins now) →
    OnOk r (last ≡ before ++ text) × OnErr r (last ≡ before)
memory-ends (Ok x) a b before now last text e f g l p whole kept stopped cut =
    let q = subst (λ (v : Bool). TakesUnless v b.stopped a b text) g p.taken in
    (kept ∙ text-kept b.stopped a b before now text e f q whole, tt)
memory-ends (Err x) a b before now last text e f g l p whole kept stopped cut =
    let q = subst (λ (v : Bool). TakesUnless v b.stopped a b text) g p.taken in
    (tt, cut ∙ ap (λ n. take n now) (p.begins ∙ l) ∙ text-cut b.stopped a b before now text e f q stopped)

-- ---- the end of a text for a sink

sink-whole : (s : Bool) (a b : Sent) (text : List ℕ) → TakesUnless false s a b text → s ≡ false → Took a b text
sink-whole false a b text p h = p
sink-whole true a b text p h = absurd cc

sink-stopped : (s : Bool) (a b : Sent) (text : List ℕ) → TakesUnless false s a b text → s ≡ true → Stopped a b text
sink-stopped true a b text p h = p
sink-stopped false a b text p h = absurd cc

-- From what a text for a sink took, and from its end: all of it was given, or a proper front, as a call failed.
pub sink-ends : {X E : Type 0} (r : Result X E) (a b : Sent) (text : List ℕ) → a.stopped ≡ false → Takes a b text →
    OnOk r (b.stopped ≡ false) → OnErr r (b.stopped ≡ true) →
    OnOk r (Appends a.given b.given text) × OnErr r (AppendsPart a.given b.given text) × Stands a.standing b.standing r
sink-ends (Ok x) a b text g p whole stopped =
    let q = sink-whole b.stopped a b text (subst (λ (v : Bool). TakesUnless v b.stopped a b text) g p.taken) whole in
    (q.given, tt, q.stands)
sink-ends (Err x) a b text g p whole stopped =
    let q = sink-stopped b.stopped a b text (subst (λ (v : Bool). TakesUnless v b.stopped a b text) g p.taken) stopped in
    (tt, q.part, q.stands)
