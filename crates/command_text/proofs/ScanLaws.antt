-- Texts that are read byte by byte.
use Rattle.std.proofs.Common.{◌≡◌, refl, sym, ◌∙◌, ap, subst, ℕ, ◌≤◌, Bool, true, false, cond, List, [], ◌∷◌, ◌++◌, length, Ok, Err, arith}
use Rattle.command_text.specs.Reading.{Read, Scan, settle, munch}
use Rattle.command_text.proofs.ListParts.{ok_is, left_of}
use Rattle.command_text.proofs.PartLaws.{Open, IsPart}

-- the text leads from the one state to the other
abbrev pub Reads : {S : Type 0} → Scan S → S → List ℕ → S → Type 0
Reads scan s [] u = s ≡ u
Reads scan s (b ∷ t) u = (scan.may s b ≡ true) × Reads scan (scan.next s b) t u

-- a whole text from this state on
abbrev pub Scanned : {S : Type 0} → Scan S → S → S → List ℕ → Type 0
Scanned scan s u t = Reads scan s t u × (scan.whole u ≡ true)

pub Reads-append : {S : Type 0} (scan : Scan S) (s u v : S) (t r : List ℕ) → Reads scan s t u →
    Reads scan u r v → Reads scan s (t ++ r) v
Reads-append scan s u v [] r h k = subst (λ (w : _). Reads scan w r v) (sym h) k
Reads-append scan s u v (b ∷ t) r h k = (h.0, Reads-append scan (scan.next s b) u v t r h.1 k)

Reads-split : {S : Type 0} (scan : Scan S) (s v : S) (t r : List ℕ) → Reads scan s (t ++ r) v →
    (u : S) × Reads scan s t u × Reads scan u r v
Reads-split scan s v [] r h = (s, refl, h)
Reads-split scan s v (b ∷ t) r h = let w = Reads-split scan (scan.next s b) v t r h.1 in (w.0, (h.0, w.1), w.2)

pub munch-on : {S : Type 0} (scan : Scan S) (s u : S) (t rest : List ℕ) → Reads scan s t u →
    munch scan s (t ++ rest) ≡ munch scan u rest
unfolding munch
munch-on scan s u [] rest h = ap (λ v. munch scan v rest) h
munch-on scan s u (b ∷ t) rest h =
    (λ i. cond (h.0 i) (munch scan (scan.next s b) (t ++ rest)) (settle scan s (b ∷ (t ++ rest))))
    ∙ munch-on scan (scan.next s b) u t rest h.1

guard_ok : {A : Type 0} (c : Bool) (x y : A) (d : ℕ) → cond c (Ok x) (Err d) ≡ Ok y → (c ≡ true) × (x ≡ y)
guard_ok true x y d e = (refl, ok_is x y e)
guard_ok false x y d e = absurd cc

guard_err : {A : Type 0} (c : Bool) (x : A) (d left : ℕ) → cond c (Ok x) (Err d) ≡ Err left → (c ≡ false) × (d ≡ left)
guard_err true x d left e = absurd cc
guard_err false x d left e = (refl, cc)

pub record Munched {S : Type 0} (scan : Scan S) (s : S) (bytes : List ℕ) (u : S) (rest : List ℕ) : Type 0 where
  pub text : List ℕ
  pub reads : Reads scan s text u
  pub is : bytes ≡ text ++ rest

more_munched : {S : Type 0} (scan : Scan S) (s : S) (b : ℕ) (bytes : List ℕ) (u : S) (rest : List ℕ) →
    scan.may s b ≡ true →
    Munched scan (scan.next s b) bytes u rest → Munched scan s (b ∷ bytes) u rest
more_munched scan s b bytes u rest h m = record { text = b ∷ m.text; reads = (h, m.reads); is = ap (λ v. b ∷ v) m.is }

none_munched : {S : Type 0} (scan : Scan S) (s : S) (bytes : List ℕ) (u : S) (rest : List ℕ) → s ≡ u →
    bytes ≡ rest → Munched scan s bytes u rest
none_munched scan s bytes u rest h e = record { text = []; reads = h; is = e }

settled_ok : {S : Type 0} (scan : Scan S) (s : S) (bytes : List ℕ) (u : S) (rest : List ℕ) →
    settle scan s bytes ≡ Ok (u, rest) →
    Munched scan s bytes u rest × (scan.whole u ≡ true)
settled_ok scan s bytes u rest e =
    let g = guard_ok (scan.whole s) (s, bytes) (u, rest) (length bytes) e in
    let same = ap (λ x. x.0) g.1 in
    (none_munched scan s bytes u rest same (ap (λ x. x.1) g.1), sym (ap scan.whole same) ∙ g.0)

pub munch-ok : {S : Type 0} (scan : Scan S) (s : S) (bytes : List ℕ) (u : S) (rest : List ℕ) →
    munch scan s bytes ≡ Ok (u, rest) →
    Munched scan s bytes u rest × (scan.whole u ≡ true)
unfolding munch
munch-ok scan s [] u rest e = settled_ok scan s [] u rest e
munch-ok scan s (b ∷ bytes) u rest e =
    elim (scan.may s b) as (λ t. scan.may s b ≡ t → cond t (munch scan (scan.next s b) bytes)
    (settle scan s (b ∷ bytes)) ≡ Ok (u, rest) →
    Munched scan s (b ∷ bytes) u rest × (scan.whole u ≡ true)) [
      | true ↦ λ h f. let m = munch-ok scan (scan.next s b) bytes u rest f in
          (more_munched scan s b bytes u rest h m.0, m.1)
      | false ↦ λ h f. settled_ok scan s (b ∷ bytes) u rest f
    ] refl e

-- the state where nothing goes on, and the bytes that are left
pub record Halted {S : Type 0} (scan : Scan S) (s : S) (bytes : List ℕ) (left : ℕ) : Type 0 where
  pub u : S
  pub rest : List ℕ
  pub munched : Munched scan s bytes u rest
  pub left_is : length rest ≡ left
  pub part : scan.whole u ≡ false

settled_err : {S : Type 0} (scan : Scan S) (s : S) (bytes : List ℕ) (left : ℕ) →
    settle scan s bytes ≡ Err left → Halted scan s bytes left
settled_err scan s bytes left e =
    let g = guard_err (scan.whole s) (s, bytes) (length bytes) left e in
    record { u = s; rest = bytes; munched = none_munched scan s bytes s bytes refl refl; left_is = g.1; part = g.0 }

pub munch-err : {S : Type 0} (scan : Scan S) (s : S) (bytes : List ℕ) (left : ℕ) →
    munch scan s bytes ≡ Err left → Halted scan s bytes left
unfolding munch
munch-err scan s [] left e = settled_err scan s [] left e
munch-err scan s (b ∷ bytes) left e =
    elim (scan.may s b) as (λ t. scan.may s b ≡ t → cond t (munch scan (scan.next s b) bytes)
    (settle scan s (b ∷ bytes)) ≡ Err left →
    Halted scan s (b ∷ bytes) left) [
      | true ↦ λ h f. let m = munch-err scan (scan.next s b) bytes left f in
          record { u = m.u; rest = m.rest; munched = more_munched scan s b bytes m.u m.rest h m.munched; left_is = m.left_is; part = m.part }
      | false ↦ λ h f. settled_err scan s (b ∷ bytes) left f
    ] refl e

settle-le : {S : Type 0} (scan : Scan S) (s : S) (bytes : List ℕ) → left_of (settle scan s bytes) ≤ length bytes
settle-le scan s bytes = elim (scan.whole s) as (λ c. left_of
    (cond c (Ok (s, bytes)) (Err (length bytes))) ≤ length bytes) [
      | true ↦ omega arith
      | false ↦ omega arith
    ]

munch-le : {S : Type 0} (scan : Scan S) (s : S) (bytes : List ℕ) → left_of (munch scan s bytes) ≤ length bytes
unfolding munch
munch-le scan s [] = settle-le scan s []
munch-le scan s (b ∷ bytes) =
    elim (scan.may s b) as (λ t. left_of (cond t (munch scan (scan.next s b) bytes)
    (settle scan s (b ∷ bytes))) ≤ length (b ∷ bytes)) [
      | true ↦ let l = munch-le scan (scan.next s b) bytes in omega arith
      | false ↦ settle-le scan s (b ∷ bytes)
    ]

munch-stop : {S : Type 0} (scan : Scan S) (u : S) (rest : List ℕ) → ((s : S) → scan.may s 32 ≡ false) →
    scan.whole u ≡ true → Open rest →
    munch scan u rest ≡ Ok (u, rest)
unfolding munch
munch-stop scan u [] none whole h = λ i. cond (whole i) (Ok (u, [])) (Err 0)
munch-stop scan u (b ∷ rest) none whole h =
    (λ i. cond ((ap (scan.may u) h ∙ none u) i) (munch scan (scan.next u b) rest) (settle scan u (b ∷ rest)))
    ∙ (λ i. cond (whole i) (Ok (u, b ∷ rest)) (Err (length (b ∷ rest))))

-- a scan that no space goes on with, and that can be ended from each state
pub scan-part : {S : Type 0} (scan : Scan S) (s : S) → ((s : S) → scan.may s 32 ≡ false) →
    ((s : S) → (u : S) × (t : List ℕ) × Scanned scan s u t) → IsPart Open (Scanned scan s) (munch scan s)
scan-part scan s none live = record {
  some = live s;
  takes = λ bytes u rest e. let m = munch-ok scan s bytes u rest e in
      record { text = m.0.text; is_text = (m.0.reads, m.1); is = m.0.is };
  stuck = λ bytes left e.
      let m = munch-err scan s bytes left e in
      let l = live m.u in
      record {
        front = m.munched.text;
        back = m.rest;
        a = l.0;
        more = l.1;
        is_text = (Reads-append scan s m.u l.0 m.munched.text l.1 m.munched.reads l.2.0, l.2.1);
        is = m.munched.is;
        left_is = m.left_is;
      };
  again = λ u t rest h ends. munch-on scan s u t rest h.0 ∙ munch-stop scan u rest none h.1 ends;
  reach = λ u p z y h.
      let r = Reads-split scan s u p z h.0 in
      subst (λ (v : Read _). left_of v ≤ length y) (sym (munch-on scan s r.0 p y r.1)) (munch-le scan r.0 y);
}
