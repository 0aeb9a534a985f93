-- Parts of a line: what is read of each is a text of it, and reading goes as far as some text goes.
use Rattle.std.proofs.Common.{◌≡◌, refl, sym, ◌∙◌, ap, subst, ℕ, ◌≤◌, List, [], ◌∷◌, ◌++◌, length, Ok, Err, inl, inr, append_assoc, arith}
use Rattle.std.proofs.lemmas.List.{append-nil}
use Rattle.command_text.specs.Reading.{Read, ◌>>=◌}
use Rattle.command_text.proofs.ListParts.{two_cuts, ok_is, bind_ok, bind_err, left_of, left_of-bind}

-- what may follow a part inside a line: nothing, or a space
abbrev pub Open : List ℕ → Type 0
Open [] = Unit {0}
Open (b ∷ bytes) = b ≡ 32

abbrev pub IsNil : List ℕ → Type 0
IsNil rest = rest ≡ []

pub Open-nil : (rest : List ℕ) → IsNil rest → Open rest
Open-nil rest e = subst Open (sym e) tt

pub Open-append : (t rest : List ℕ) → Open t → Open rest → Open (t ++ rest)
Open-append [] rest h k = k
Open-append (b ∷ t) rest h k = h

-- a text of a was taken, and rest is left
pub record Took {A : Type 0} (IsText : A → List ℕ → Type 0) (bytes : List ℕ) (a : A) (rest : List ℕ) : Type 0 where
  pub text : List ℕ
  pub is_text : IsText a text
  pub is : bytes ≡ text ++ rest

-- some text begins with all bytes but so many
pub record Begun {A : Type 0} (IsText : A → List ℕ → Type 0) (bytes : List ℕ) (left : ℕ) : Type 0 where
  pub front : List ℕ
  pub back : List ℕ
  pub a : A
  pub more : List ℕ
  pub is_text : IsText a (front ++ more)
  pub is : bytes ≡ front ++ back
  pub left_is : length back ≡ left

-- What reads these texts, where Ends may follow.
pub record IsPart {A : Type 0} (Ends : List ℕ → Type 0) (IsText : A → List ℕ → Type 0) (read : List ℕ → Read A) : Type 0 where
  -- there is a text
  pub some : (a : A) × (t : List ℕ) × IsText a t
  -- what is read is spelled so
  pub takes : (bytes : List ℕ) (a : A) (rest : List ℕ) → read bytes ≡ Ok (a, rest) → Took IsText bytes a rest
  -- where reading is stuck some text goes so far
  pub stuck : (bytes : List ℕ) (left : ℕ) → read bytes ≡ Err left → Begun IsText bytes left
  -- what is spelled so is read
  pub again : (a : A) (t rest : List ℕ) → IsText a t → Ends rest → read (t ++ rest) ≡ Ok (a, rest)
  -- reading goes at least as far as each text goes
  pub reach : (a : A) (p z y : List ℕ) → IsText a (p ++ z) → left_of (read (p ++ y)) ≤ length y

pub within : {A : Type 0} {Ends : List ℕ → Type 0} {IsText : A → List ℕ → Type 0} {read : List ℕ → Read A} →
    IsPart Ends IsText read → (bytes : List ℕ) → left_of (read bytes) ≤ length bytes
within part bytes = part.reach part.some.0 [] part.some.1 bytes part.some.2

-- ---- the same texts, said in another way

pub part-by : {A : Type 0} {Ends : List ℕ → Type 0} {IsText IsToo : A → List ℕ → Type 0} {read : List ℕ → Read A} →
    IsPart Ends IsText read → ((a : A) (t : List ℕ) → IsText a t → IsToo a t) →
    ((a : A) (t : List ℕ) → IsToo a t → IsText a t) → IsPart Ends IsToo read
part-by part to from = record {
  some = (part.some.0, part.some.1, to part.some.0 part.some.1 part.some.2);
  takes = λ bytes a rest e. let took = part.takes bytes a rest e in
      record { text = took.text; is_text = to a took.text took.is_text; is = took.is };
  stuck = λ bytes left e. let b = part.stuck bytes left e in
      record {
        front = b.front;
        back = b.back;
        a = b.a;
        more = b.more;
        is_text = to b.a
            (b.front ++ b.more) b.is_text;
        is = b.is;
        left_is = b.left_is;
      };
  again = λ a t rest h ends. part.again a t rest (from a t h) ends;
  reach = λ a p z y h. part.reach a p z y (from a (p ++ z) h);
}

-- a part, where only nothing may follow
pub narrow : {A : Type 0} {IsText : A → List ℕ → Type 0} {read : List ℕ → Read A} → IsPart Open IsText read →
    IsPart IsNil IsText read
narrow part = record {
  some = part.some;
  takes = part.takes;
  stuck = part.stuck;
  again = λ a t rest h ends. part.again a t rest h (Open-nil rest ends);
  reach = part.reach;
}

-- ---- nothing more

pub done-part : {A : Type 0} (Ends : List ℕ → Type 0) (a : A) →
    IsPart Ends (λ b t. (b ≡ a) × (t ≡ [])) (λ bytes. Ok (a, bytes))
done-part Ends a = record {
  some = (a, [], (refl, refl));
  takes = λ bytes b rest e. let same = ok_is (a, bytes) (b, rest) e in
      record { text = []; is_text = (ap (λ x. x.0) (sym same), refl); is = ap (λ x. x.1) same };
  stuck = λ bytes left e. absurd cc;
  again = λ b t rest h ends. let e = h.1 in (λ i. Ok (sym h.0 i, e i ++ rest));
  reach = λ b p z y h. nothing_before p z y h.1;
}
  where
    nothing_before : (p z y : List ℕ) → p ++ z ≡ [] → length (p ++ y) ≤ length y
    nothing_before [] z y e = omega arith
    nothing_before (b ∷ p) z y e = absurd cc

-- ---- one part after another

pub record Then {A B : Type 0} (IsFirst : A → List ℕ → Type 0) (IsSecond : A → B → List ℕ → Type 0) (b : B) (t : List ℕ) : Type 0 where
  pub first : A
  pub front : List ℕ
  pub back : List ℕ
  pub first_is : IsFirst first front
  pub back_is : IsSecond first b back
  pub is : t ≡ front ++ back

abbrev pub then_read : {A B : Type 0} → (List ℕ → Read A) → (A → List ℕ → Read B) → List ℕ → Read B
then_read read on bytes = read bytes >>= λ found. on found.0 found.1

pub then-part : {A B : Type 0} {Ends : List ℕ → Type 0} {IsFirst : A → List ℕ → Type 0} {IsSecond : A → B →
    List ℕ → Type 0}
    {read : List ℕ → Read A} {on : A → List ℕ → Read B} →
    IsPart Open IsFirst read → ((a : A) → IsPart Ends (IsSecond a) (on a)) →
    ((a : A) (b : B) (t : List ℕ) → IsSecond a b t → Open t) →
    ((rest : List ℕ) → Ends rest → Open rest) →
    IsPart Ends (Then IsFirst IsSecond) (then_read read on)
then-part {A = A} {B = B} {Ends = Ends} {IsFirst = IsFirst} {IsSecond = IsSecond} {read = read} {on = on} one two opens ends_open = record {
  some = let a = one.some in let b = (two a.0).some in
      (b.0, a.1 ++ b.1, record { first = a.0; front = a.1; back = b.1; first_is = a.2; back_is = b.2; is = refl });
  takes = then_takes;
  stuck = then_stuck;
  again = then_again;
  reach = then_reach;
}
  where
    k : A × List ℕ → Read B
    k = λ found. on found.0 found.1

    then_takes : (bytes : List ℕ) (b : B) (rest : List ℕ) → then_read read on bytes ≡ Ok (b, rest) →
        Took (Then IsFirst IsSecond) bytes b rest
    then_takes bytes b rest e =
        let s = bind_ok (read bytes) (λ found. on found.0 found.1) (b, rest) e in
        let f = one.takes bytes s.0.0 s.0.1 s.1 in
        let g = (two s.0.0).takes s.0.1 b rest s.2 in
        record {
          text = f.text ++ g.text;
          is_text = record { first = s.0.0; front = f.text; back = g.text; first_is = f.is_text; back_is = g.is_text; is = refl };
          is = f.is ∙ ap (λ v. f.text ++ v) g.is ∙ sym (append_assoc f.text g.text rest);
        }

    then_stuck : (bytes : List ℕ) (left : ℕ) → then_read read on bytes ≡ Err left →
        Begun (Then IsFirst IsSecond) bytes left
    then_stuck bytes left e = elim (bind_err (read bytes) (λ found. on found.0 found.1) left e) [
      | inl h ↦ let f = one.stuck bytes left h in let g = (two f.a).some in record {
        front = f.front;
        back = f.back;
        a = g.0;
        more = f.more ++ g.1;
        is_text = record { first = f.a; front = f.front ++ f.more; back = g.1; first_is = f.is_text; back_is = g.2; is = sym (append_assoc f.front f.more g.1) };
        is = f.is;
        left_is = f.left_is;
      }
      | inr h ↦ let f = one.takes bytes h.0.0 h.0.1 h.1 in let g = (two h.0.0).stuck h.0.1 left h.2 in record {
        front = f.text ++ g.front;
        back = g.back;
        a = g.a;
        more = g.more;
        is_text = record { first = h.0.0; front = f.text; back = g.front ++ g.more; first_is = f.is_text; back_is = g.is_text; is = append_assoc f.text g.front g.more };
        is = f.is ∙ ap (λ v. f.text ++ v) g.is ∙ sym (append_assoc f.text g.front g.back);
        left_is = g.left_is;
      }
    ]

    then_again : (b : B) (t rest : List ℕ) → Then IsFirst IsSecond b t → Ends rest →
        then_read read on (t ++ rest) ≡ Ok (b, rest)
    then_again b t rest h ends =
        let e : t ++ rest ≡ h.front ++ (h.back ++ rest) = ap (λ v. v ++ rest) h.is
        ∙ append_assoc h.front h.back rest in
        let f = one.again h.first h.front (h.back ++ rest) h.first_is
        (Open-append h.back rest (opens h.first b h.back h.back_is) (ends_open rest ends)) in
        ap (λ r. r >>= λ found. on found.0 found.1) (ap read e ∙ f) ∙ (two h.first).again b h.back rest h.back_is ends

    -- the prefix ends in the first part
    in_first : (b : B) (p z y : List ℕ) (h : Then IsFirst IsSecond b (p ++ z)) (w : List ℕ) →
        h.front ≡ p ++ w → left_of (then_read read on (p ++ y)) ≤ length y
    in_first b p z y h w e =
        left_of-bind (read (p ++ y)) (λ found. on found.0 found.1) (length y) (λ found. within (two found.0) found.1)
        (one.reach h.first p w y (subst (IsFirst h.first) e h.first_is))

    -- it ends behind the first part
    in_second : (b : B) (p z y : List ℕ) (h : Then IsFirst IsSecond b (p ++ z)) (w : List ℕ) →
        p ≡ h.front ++ w → h.back ≡ w ++ z → left_of (then_read read on (p ++ y)) ≤ length y
    in_second b p z y h [] e back = in_first b p z y h [] (sym (append-nil h.front) ∙ sym e ∙ sym (append-nil p))
    in_second b p z y h (c ∷ w) e back =
        let whole : p ++ y ≡ h.front ++ ((c ∷ w) ++ y) = ap (λ v. v ++ y) e ∙ append_assoc h.front (c ∷ w) y in
        let spaced : Open ((c ∷ w) ++ z) = subst Open back (opens h.first b h.back h.back_is) in
        let f = one.again h.first h.front ((c ∷ w) ++ y) h.first_is spaced in
        let r : then_read read on (p ++ y) ≡ on h.first ((c ∷ w) ++ y) = ap
        (λ r. r >>= λ found. on found.0 found.1) (ap read whole ∙ f) in
        subst (λ (v : Read B). left_of v ≤ length y) (sym r)
        ((two h.first).reach b (c ∷ w) z y (subst (IsSecond h.first b) back h.back_is))

    then_reach : (b : B) (p z y : List ℕ) → Then IsFirst IsSecond b (p ++ z) →
        left_of (then_read read on (p ++ y)) ≤ length y
    then_reach b p z y h = elim (two_cuts p z h.front h.back h.is) [
      | inl w ↦ in_second b p z y h w.0 w.1 w.2
      | inr w ↦ in_first b p z y h w.0 w.1
    ]
