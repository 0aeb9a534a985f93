-- A fixed word before a part, and a value that is computed from a part's text.
use Rattle.std.proofs.Common.{◌≡◌, refl, sym, ◌∙◌, ap, subst, ℕ, ◌≤◌, Bool, true, false, cond, List, [], ◌∷◌, ◌++◌, length, Result, Ok, Err, inl, inr, append_assoc, arith}
use Rattle.std.specs.Prelude.{nat_eq}
use Rattle.std.specs.Cmp.{nat_eq_equiv}
use Rattle.std.proofs.lemmas.Bool.{eqb-true}
use Rattle.command_text.specs.Reading.{Read, ◌>>=◌, after}
use Rattle.command_text.proofs.ListParts.{two_cuts, ok_is, bind_ok, bind_err, left_of, left_of-bind}
use Rattle.command_text.proofs.PartLaws.{Begun, IsPart, within}

pub after-again : (w rest : List ℕ) → after w (w ++ rest) ≡ Ok rest
unfolding after
after-again [] rest = refl
after-again (b ∷ w) rest =
    (λ i. cond (nat_eq_equiv.refl b i) (after w (w ++ rest)) (Err (length (b ∷ (w ++ rest))))) ∙ after-again w rest

pub after-takes : (w bytes rest : List ℕ) → after w bytes ≡ Ok rest → bytes ≡ w ++ rest
unfolding after
after-takes [] bytes rest e = ok_is bytes rest e
after-takes (c ∷ w) [] rest e = absurd cc
after-takes (c ∷ w) (b ∷ bytes) rest e =
    elim (nat_eq b c) as (λ t. nat_eq b c ≡ t → cond t (after w bytes)
    (Err (length (b ∷ bytes))) ≡ Ok rest → b ∷ bytes ≡ (c ∷ w) ++ rest) [
      | true ↦ λ h f. λ i. eqb-true b c h i ∷ after-takes w bytes rest f i
      | false ↦ λ h f. absurd cc
    ] refl e

-- the word goes so far
pub record WordBegun (w bytes : List ℕ) (left : ℕ) : Type 0 where
  pub front : List ℕ
  pub back : List ℕ
  pub more : List ℕ
  pub is_word : w ≡ front ++ more
  pub is : bytes ≡ front ++ back
  pub left_is : length back ≡ left

pub after-stuck : (w bytes : List ℕ) (left : ℕ) → after w bytes ≡ Err left → WordBegun w bytes left
unfolding after
after-stuck [] bytes left e = absurd cc
after-stuck (c ∷ w) [] left e = record { front = []; back = []; more = c ∷ w; is_word = refl; is = refl; left_is = cc }
after-stuck (c ∷ w) (b ∷ bytes) left e =
    elim (nat_eq b c) as (λ t. nat_eq b c ≡ t → cond t (after w bytes)
    (Err (length (b ∷ bytes))) ≡ Err left → WordBegun (c ∷ w) (b ∷ bytes) left) [
      | true ↦ λ h f. let r = after-stuck w bytes left f in record {
        front = c ∷ r.front;
        back = r.back;
        more = r.more;
        is_word = ap (λ v. c ∷ v) r.is_word;
        is = λ i. eqb-true b c h i ∷ r.is i;
        left_is = r.left_is;
      }
      | false ↦ λ h f. record { front = []; back = b ∷ bytes; more = c ∷ w; is_word = refl; is = refl; left_is = cc }
    ] refl e

abbrev pub left_behind : Result (List ℕ) ℕ → ℕ
left_behind (Ok rest) = length rest
left_behind (Err left) = left

left_behind-le : (w bytes : List ℕ) → left_behind (after w bytes) ≤ length bytes
unfolding after
left_behind-le [] bytes = omega arith
left_behind-le (c ∷ w) [] = omega arith
left_behind-le (c ∷ w) (b ∷ bytes) =
    elim (nat_eq b c) as (λ t. left_behind (cond t (after w bytes) (Err (length (b ∷ bytes)))) ≤ length (b ∷ bytes)) [
      | true ↦ let l = left_behind-le w bytes in omega arith
      | false ↦ omega arith
    ]

pub after-reach : (p z y : List ℕ) → left_behind (after (p ++ z) (p ++ y)) ≤ length y
unfolding after
after-reach [] z y = left_behind-le z y
after-reach (b ∷ p) z y =
    subst (λ (t : Bool). left_behind (cond t (after (p ++ z) (p ++ y)) (Err (length (b ∷ (p ++ y))))) ≤ length y)
    (sym (nat_eq_equiv.refl b)) (after-reach p z y)

-- ---- a part behind a word

pub record After {A : Type 0} (w : List ℕ) (IsText : A → List ℕ → Type 0) (a : A) (t : List ℕ) : Type 0 where
  pub back : List ℕ
  pub back_is : IsText a back
  pub is : t ≡ w ++ back

abbrev pub after_read : {A : Type 0} → List ℕ → (List ℕ → Read A) → List ℕ → Read A
after_read w read bytes = after w bytes >>= read

pub after-part : {A : Type 0} {Ends : List ℕ → Type 0} {IsText : A → List ℕ → Type 0} {read : List ℕ →
    Read A} (w : List ℕ) →
    IsPart Ends IsText read → IsPart Ends (After w IsText) (after_read w read)
after-part {A = A} {Ends = Ends} {IsText = IsText} {read = read} w part = record {
  some = let s = part.some in (s.0, w ++ s.1, record { back = s.1; back_is = s.2; is = refl });
  takes = λ bytes a rest e.
      let s = bind_ok (after w bytes) read (a, rest) e in
      let g = part.takes s.0 a rest s.2 in
      record {
        text = w ++ g.text;
        is_text = record { back = g.text; back_is = g.is_text; is = refl };
        is = after-takes w bytes s.0 s.1 ∙ ap (λ v. w ++ v) g.is ∙ sym (append_assoc w g.text rest);
      };
  stuck = after_is_stuck;
  again = λ a t rest h ends.
      let e : t ++ rest ≡ w ++ (h.back ++ rest) = ap (λ v. v ++ rest) h.is ∙ append_assoc w h.back rest in
      ap (λ r. r >>= read) (ap (after w) e ∙ after-again w (h.back ++ rest))
      ∙ part.again a h.back rest h.back_is ends;
  reach = after_reaches;
}
  where
    after_is_stuck : (bytes : List ℕ) (left : ℕ) → after_read w read bytes ≡ Err left →
        Begun (After w IsText) bytes left
    after_is_stuck bytes left e = elim (bind_err (after w bytes) read left e) [
      | inl h ↦ let f = after-stuck w bytes left h in let s = part.some in record {
        front = f.front;
        back = f.back;
        a = s.0;
        more = f.more ++ s.1;
        is_text = record {
          back = s.1;
          back_is = s.2;
          is = sym (append_assoc f.front f.more s.1) ∙ ap
              (λ v. v ++ s.1) (sym f.is_word);
        };
        is = f.is;
        left_is = f.left_is;
      }
      | inr h ↦ let g = part.stuck h.0 left h.2 in record {
        front = w ++ g.front;
        back = g.back;
        a = g.a;
        more = g.more;
        is_text = record { back = g.front ++ g.more; back_is = g.is_text; is = append_assoc w g.front g.more };
        is = after-takes w bytes h.0 h.1 ∙ ap (λ v. w ++ v) g.is ∙ sym (append_assoc w g.front g.back);
        left_is = g.left_is;
      }
    ]

    behind : (r : Result (List ℕ) ℕ) (most : ℕ) → left_behind r ≤ most → left_of (r >>= read) ≤ most
    behind (Ok rest) most l = let k = within part rest in omega arith
    behind (Err left) most l = l

    in_word : (p y u : List ℕ) → w ≡ p ++ u → left_of (after_read w read (p ++ y)) ≤ length y
    in_word p y u e = behind (after w (p ++ y)) (length y)
        (subst (λ (v : List ℕ). left_behind (after v (p ++ y)) ≤ length y) (sym e) (after-reach p u y))

    behind_word : (a : A) (p z y u : List ℕ) (h : After w IsText a (p ++ z)) → p ≡ w ++ u → h.back ≡ u ++ z →
        left_of (after_read w read (p ++ y)) ≤ length y
    behind_word a p z y u h e back =
        let whole : p ++ y ≡ w ++ (u ++ y) = ap (λ v. v ++ y) e ∙ append_assoc w u y in
        let r : after_read w read (p ++ y) ≡ read (u ++ y) = ap (λ r. r >>= read)
        (ap (after w) whole ∙ after-again w (u ++ y)) in
        subst (λ (v : Read A). left_of v ≤ length y) (sym r) (part.reach a u z y (subst (IsText a) back h.back_is))

    after_reaches : (a : A) (p z y : List ℕ) → After w IsText a (p ++ z) →
        left_of (after_read w read (p ++ y)) ≤ length y
    after_reaches a p z y h = elim (two_cuts p z w h.back h.is) [
      | inl v ↦ behind_word a p z y v.0 h v.1 v.2
      | inr v ↦ in_word p y v.0 v.1
    ]

-- ---- a value of a part

pub record Valued {A B : Type 0} (IsText : A → List ℕ → Type 0) (value : A → List ℕ → B) (b : B) (t : List ℕ) : Type 0 where
  pub a : A
  pub is_text : IsText a t
  pub is : b ≡ value a t

abbrev pub value_read : {A B : Type 0} → (List ℕ → Read A) → (List ℕ → A × List ℕ → B) → List ℕ → Read B
value_read read found_value bytes = read bytes >>= λ found. Ok (found_value bytes found, found.1)

pub value-part : {A B : Type 0} {Ends : List ℕ → Type 0} {IsText : A → List ℕ → Type 0} {read : List ℕ → Read A}
    (found_value : List ℕ → A × List ℕ → B) (value : A → List ℕ → B) →
    ((a : A) (t rest : List ℕ) → IsText a t → found_value (t ++ rest) (a, rest) ≡ value a t) →
    IsPart Ends IsText read → IsPart Ends (Valued IsText value) (value_read read found_value)
value-part {A = A} {B = B} {IsText = IsText} {read = read} found_value value same part = record {
  some = let s = part.some in (value s.0 s.1, s.1, record { a = s.0; is_text = s.2; is = refl });
  takes = λ bytes b rest e.
      let s = bind_ok (read bytes) (λ found. Ok (found_value bytes found, found.1)) (b, rest) e in
      let f = part.takes bytes s.0.0 s.0.1 s.1 in
      let p = ok_is (found_value bytes s.0, s.0.1) (b, rest) s.2 in
      record {
        text = f.text;
        is_text = record {
          a = s.0.0;
          is_text = f.is_text;
          is = sym (ap (λ x. x.0) p) ∙ ap (λ v. found_value v s.0) f.is ∙ same s.0.0 f.text s.0.1 f.is_text;
        };
        is = f.is ∙ ap (λ (x : B × List ℕ). f.text ++ x.1) p;
      };
  stuck = λ bytes left e. value_stuck bytes left e;
  again = λ b t rest h ends.
      ap (λ r. r >>= λ found. Ok (found_value (t ++ rest) found, found.1)) (part.again h.a t rest h.is_text ends)
      ∙ (λ i. Ok ((same h.a t rest h.is_text ∙ sym h.is) i, rest));
  reach = λ b p z y h. left_of-bind (read (p ++ y)) (λ found. Ok (found_value (p ++ y) found, found.1)) (length y)
      (λ found. omega arith) (part.reach h.a p z y h.is_text);
}
  where
    value_stuck : (bytes : List ℕ) (left : ℕ) → value_read read found_value bytes ≡ Err left →
        Begun (Valued IsText value) bytes left
    value_stuck bytes left e = elim (bind_err (read bytes) (λ found. Ok (found_value bytes found, found.1)) left e) [
      | inl h ↦ let f = part.stuck bytes left h in record {
        front = f.front;
        back = f.back;
        a = value f.a (f.front ++ f.more);
        more = f.more;
        is_text = record { a = f.a; is_text = f.is_text; is = refl };
        is = f.is;
        left_is = f.left_is;
      }
      | inr h ↦ let bad = h.2 in absurd cc
    ]
