-- What was given to a sink, and held back behind it, over calls that follow one another.
use Rattle.std.proofs.Common.{◌≡◌, refl, sym, ◌∙◌, ap, subst, ℕ, ◌<◌, Bool, true, false, List, [], ◌++◌, append_assoc, length, take, drop, Option, None, Some, Result, Ok, Err, arith}
use Rattle.std.specs.Prelude.{bytes_eq, if◌then◌else◌, OnOk}
use Rattle.std.specs.Io.KnownBytes.{Appends}
use Rattle.std.proofs.lemmas.Slice.Eq.{bytes_eq-Decides}
use Rattle.std.proofs.lemmas.List.{take_all, take-append-drop, take-append-le, append-nil}
use Rattle.eon_model.specs.LineStream.{IsPrefix}
use Rattle.eon_outside.specs.Held.{given_since, Flushes}
use Rattle.eon_outside.specs.Writing.{AppendsPart}
use Rattle.line_session.specs.Answering.{Took}

-- ---- one state of the sink, where it is told

-- What is held stands behind what was taken, which begins with what was there.
told : (start known held : List ℕ) → take (length start) known ≡ start →
    given_since (Some start) (Some known) held ≡ Some (known ++ held)
told start known held e =
    ap (λ (b : Bool). if b then Some (known ++ held) else None) ((bytes_eq-Decides (take (length start) known) start).1 e)

told-more : (start more held : List ℕ) →
    given_since (Some start) (Some (start ++ more)) held ≡ Some ((start ++ more) ++ held)
told-more start more held =
    let all : take (length start) start ≡ start = take_all (length start) start (omega arith) in
    told start (start ++ more) held (take-append-le (length start) start more (omega arith) ∙ all)

told-self : (start held : List ℕ) → given_since (Some start) (Some start) held ≡ Some (start ++ held)
told-self start held = told start start held (take_all (length start) start (omega arith))

-- the sink went from these bytes on to more, and this much was given
record Grows (start known held left text : List ℕ) : Type 0 where
  pub more : List ℕ
  pub known_is : known ≡ start ++ more
  pub is : known ++ left ≡ (start ++ held) ++ text

grown-by : (start known held left text : List ℕ) (b : Bool) → bytes_eq (take (length start) known) start ≡ b →
    Appends (Some (start ++ held)) (if b then Some (known ++ left) else None) text → Grows start known held left text
grown-by start known held left text true e h = record {
  more = drop (length start) known;
  known_is = sym (take-append-drop (length start) known)
      ∙ ap (λ (v : List ℕ). v ++ drop (length start) known) ((bytes_eq-Decides (take (length start) known) start).0 e);
  is = h;
}
grown-by start known held left text false e h = absurd h

grown : (start known held left text : List ℕ) →
    Appends (given_since (Some start) (Some start) held) (given_since (Some start) (Some known) left) text →
    Grows start known held left text
grown start known held left text h =
    grown-by start known held left text (bytes_eq (take (length start) known) start) refl
    (subst (λ (v : Option (List ℕ)). Appends v (given_since (Some start) (Some known) left) text) (told-self start held) h)

grows-told : (start known held left text : List ℕ) → Grows start known held left text →
    Appends (given_since (Some start) (Some start) held) (given_since (Some start) (Some known) left) text
grows-told start known held left text g =
    subst (λ (v : Option (List ℕ)). Appends v (given_since (Some start) (Some known) left) text) (sym (told-self start held))
    (subst (λ (v : Option (List ℕ)). Appends (Some (start ++ held)) v text)
    (sym (ap (λ (v : List ℕ). given_since (Some start) (Some v) left) g.known_is ∙ told-more start g.more left
    ∙ ap (λ (v : List ℕ). Some (v ++ left)) (sym g.known_is))) g.is)

not-told : (start held text : List ℕ) (P : Type 0) →
    Appends (given_since (Some start) (Some start) held) None text → P
not-told start held text P h =
    absurd (subst (λ (v : Option (List ℕ)). Appends v None text) (told-self start held) h)

-- ---- calls

-- nothing was given
pub given-same : (known : Option (List ℕ)) (held : List ℕ) → Appends (given_since known known held) (given_since known known held) []
given-same None held = tt
given-same (Some known) held =
    grows-told known known held held [] (record {
      more = [];
      known_is = sym (append-nil known);
      is = sym (append-nil (known ++ held));
    })

-- one call after another
pub given-on : (old mid new : Option (List ℕ)) (held there left first text : List ℕ) →
    Appends (given_since old old held) (given_since old mid there) first →
    Appends (given_since mid mid there) (given_since mid new left) text →
    Appends (given_since old old held) (given_since old new left) (first ++ text)
given-on None mid new held there left first text one two = tt
given-on (Some old) None new held there left first text one two = not-told old held first _ one
given-on (Some old) (Some mid) None held there left first text one two = not-told mid there text _ two
given-on (Some old) (Some mid) (Some new) held there left first text one two =
    let g = grown old mid held there first one in
    let k = grown mid new there left text two in
    grows-told old new held left (first ++ text) (record {
      more = g.more ++ k.more;
      known_is = k.known_is ∙ ap (λ (v : List ℕ). v ++ k.more) g.known_is ∙ append_assoc old g.more k.more;
      is = k.is ∙ ap (λ (v : List ℕ). v ++ text) g.is ∙ append_assoc (old ++ held) first text;
    })

-- behind a call that gave nothing
pub given-behind : (old mid new : Option (List ℕ)) (held there left text : List ℕ) →
    Appends (given_since old old held) (given_since old mid there) [] →
    Appends (given_since mid mid there) (given_since mid new left) text →
    Appends (given_since old old held) (given_since old new left) text
given-behind old mid new held there left text one two = given-on old mid new held there left [] text one two

pub part-behind : (old mid new : Option (List ℕ)) (held there left text : List ℕ) →
    Appends (given_since old old held) (given_since old mid there) [] →
    AppendsPart (given_since mid mid there) (given_since mid new left) text →
    AppendsPart (given_since old old held) (given_since old new left) text
part-behind old mid new held there left text one two =
    (two.0, two.1, given-behind old mid new held there left (take two.0 text) one two.2)

-- no byte of a text that is not empty was given
pub none-given : (before now : Option (List ℕ)) (text : List ℕ) → 0 < length text → Appends before now [] →
    AppendsPart before now text
none-given before now text some h = (0, some, h)

-- ---- what was held is given

pub flush-same : {T E : Type 0} (old new : Option (List ℕ)) (held left : List ℕ) (r : Result T E) →
    Flushes old new held left r → Appends (given_since old old held) (given_since old new left) []
flush-same None new held left r h = tt
flush-same (Some old) None held left (Ok x) h = absurd h.0
flush-same (Some old) None held left (Err e) h = absurd h.2
flush-same (Some old) (Some new) held left (Ok x) h =
    grows-told old new held left [] (record {
      more = held;
      known_is = h.0;
      is = ap (λ (v : List ℕ). new ++ v) h.1 ∙ ap (λ (v : List ℕ). v ++ []) h.0;
    })
flush-same (Some old) (Some new) held left (Err e) h =
    grows-told old new held left [] (record {
      more = take h.0 held;
      known_is = h.2;
      is = ap (λ (v : List ℕ). v ++ left) h.2 ∙ append_assoc old (take h.0 held) left
          ∙ ap (λ (v : List ℕ). old ++ (take h.0 held ++ v)) h.3
          ∙ ap (λ (v : List ℕ). old ++ v) (take-append-drop h.0 held) ∙ sym (append-nil (old ++ held));
    })

took-all : (old new : Option (List ℕ)) (held : List ℕ) → Appends old new held → Took (given_since old old held) new
took-all None new held h = tt
took-all (Some old) None held h = absurd h
took-all (Some old) (Some new) held h =
    subst (λ (v : Option (List ℕ)). Took v (Some new)) (sym (told-self old held))
    ([], append-nil (old ++ held) ∙ sym h)

pub flush-took : {T E : Type 0} (old new : Option (List ℕ)) (held left : List ℕ) (r : Result T E) →
    Flushes old new held left r → OnOk r (Took (given_since old old held) new)
flush-took old new held left (Ok x) h = took-all old new held h.0
flush-took old new held left (Err e) h = tt

-- what was taken stays taken
kept-prefix : (bytes mid new more : List ℕ) → new ≡ mid ++ more → IsPrefix bytes mid → IsPrefix bytes new
kept-prefix bytes mid new more is p =
    (p.0 ++ more, sym (append_assoc bytes p.0 more) ∙ ap (λ (v : List ℕ). v ++ more) p.1 ∙ sym is)

pub took-on : (old mid new : Option (List ℕ)) (held there left text : List ℕ) →
    Appends (given_since old old held) (given_since old mid there) [] → Took (given_since old old held) mid →
    Appends (given_since mid mid there) (given_since mid new left) text → Took (given_since old old held) new
took-on None mid new held there left text one t two = tt
took-on (Some old) None new held there left text one t two = not-told old held [] _ one
took-on (Some old) (Some mid) None held there left text one t two = not-told mid there text _ two
took-on (Some old) (Some mid) (Some new) held there left text one t two =
    let g = grown mid new there left text two in
    subst (λ (v : Option (List ℕ)). Took v (Some new)) (sym (told-self old held))
    (kept-prefix (old ++ held) mid new g.more g.known_is
    (subst (λ (v : Option (List ℕ)). Took v (Some mid)) (told-self old held) t))
