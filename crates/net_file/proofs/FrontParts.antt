-- The fields behind a line's word: as many as the line asks, each spelled as it asks.
use Rattle.std.proofs.Common.{◌≡◌, refl, ◌∙◌, ap, ℕ, suc, ◌+◌, ◌-◌, nat_eq, Bool, true, false, cond, ◌&&◌, not, List, [], ◌∷◌, length, zip, Option, Some, None, is_some, Ok, Err, arith}
use Rattle.std.specs.Prelude.{option_and_then}
use Rattle.std.specs.List.{list_all}
use Rattle.std.proofs.lemmas.Bool.{ne_eqb, eq-eqb, eqb-true, both_ways}
use Rattle.eon_model.specs.NetworkFault.{Word, Field, Fields, fields_after, fields_paired, is_spelled, is_in_range, has_form, has_ranges, units_in_range}
use Rattle.eon_model.specs.NetworkFault as model
use Rattle.net_file.specs.declared.fault.Why.TheVariants as why
use Rattle.net_file.specs.LineWords.{ranged}
use Rattle.net_file.proofs.CauseParts.{front, told}

-- ---- kinds and fields, side by side

-- as many fields as kinds, each spelled as its kind asks
abbrev pub matches : List Field → Fields → Bool
matches [] [] = true
matches [] (f ∷ fs) = false
matches (k ∷ ks) [] = false
matches (k ∷ ks) (f ∷ fs) = is_spelled (k, f) && matches ks fs

exchange : (a b c : Bool) → (a && (b && c)) ≡ (b && (a && c))
exchange true true c = refl
exchange true false c = refl
exchange false true c = refl
exchange false false c = refl

eqb_more : (a b c : ℕ) (t : Bool) → nat_eq a b ≡ t → c ≡ suc b → nat_eq (suc a) c ≡ t
eqb_more a b c true e s = eq-eqb (suc a) c (let k = eqb-true a b e in omega arith)
eqb_more a b c false e s = ne_eqb (suc a) c λ k. both_ways (nat_eq a b) e (eq-eqb a b (omega arith))

same_length : (ks : List Field) (fs : Fields) →
    (nat_eq (length fs) (length ks) && list_all is_spelled (zip ks fs)) ≡ matches ks fs
same_length [] [] = refl
same_length [] (f ∷ fs) = ap (λ b. b && true) (ne_eqb (suc (length fs)) 0 (λ e. absurd (omega arith)))
same_length (k ∷ ks) [] = ap (λ b. b && true) (ne_eqb 0 (suc (length ks)) (λ e. absurd (omega arith)))
same_length (k ∷ ks) (f ∷ fs) =
    let rest = list_all is_spelled (zip ks fs) in
    ap (λ b. b && (is_spelled (k, f) && rest))
    (eqb_more (length fs) (length ks) (suc (length ks)) (nat_eq (length fs) (length ks)) refl refl)
    ∙ exchange (nat_eq (length fs) (length ks)) (is_spelled (k, f)) rest
    ∙ ap (λ b. is_spelled (k, f) && b) (same_length ks fs)

-- a line has the form of these kinds
pub form_of : (w : Word) (kinds : List Field) (word : List ℕ) (rest : Fields) →
    fields_after w (length rest) ≡ kinds → has_form w (word ∷ rest) ≡ matches kinds rest
form_of w kinds word rest e =
    let count : suc (length rest) - 1 ≡ length rest = omega arith in
    let after = ap (fields_after w) count ∙ e in
    let more : length kinds + 1 ≡ suc (length kinds) = omega arith in
    (λ i. nat_eq (suc (length rest)) (length (after i) + 1) && list_all is_spelled (zip (after i) rest))
    ∙ ap (λ b. b && list_all is_spelled (zip kinds rest))
    (eqb_more (length rest) (length kinds) (length kinds + 1) (nat_eq (length rest) (length kinds)) refl more)
    ∙ same_length kinds rest

-- and these ranges
pub ranges_of : (earlier : List Fields) (w : Word) (kinds : List Field) (word : List ℕ) (rest : Fields) →
    fields_after w (length rest) ≡ kinds → has_ranges earlier w (word ∷ rest)
    ≡ (list_all is_in_range (zip kinds rest) && units_in_range earlier w (word ∷ rest))
ranges_of earlier w kinds word rest e =
    let count : suc (length rest) - 1 ≡ length rest = omega arith in
    let after = ap (fields_after w) count ∙ e in
    λ i. list_all is_in_range (zip (after i) rest) && units_in_range earlier w (word ∷ rest)

-- ---- what is read, one field after another

-- one more field that is read where a test passes
pub and_more : {A B : Type 0} (b : Bool) (v : A) (f : A → Option B) (r : Bool) → r ≡ is_some (f v) →
    (b && r) ≡ is_some (option_and_then f (cond b (Some v) None))
and_more true v f r e = e
and_more false v f r e = refl

pub through : {A B : Type 0} (b : Bool) (v : A) (f : A → Option B) (y : B) →
    option_and_then f (cond b (Some v) None) ≡ Some y → (b ≡ true) × (f v ≡ Some y)
through true v f y e = (refl, e)
through false v f y e = cc

-- What the fields behind a word are read as: something exactly where they have the form, in range exactly where the
-- value passes, and then they are its spelling.
pub record ReadsAs {A : Type 0} (earlier : List Fields) (w : Word) (word : List ℕ) (rest : Fields) (o : Option A) (test : A → Bool)
    (spell : A → Fields) : Type 0 where
  pub form : has_form w (word ∷ rest) ≡ is_some o
  pub ranges : (a : A) → o ≡ Some a → has_ranges earlier w (word ∷ rest) ≡ test a
  pub spelled : (a : A) → o ≡ Some a → test a ≡ true → rest ≡ spell a

front_by : {A : Type 0} (earlier : List Fields) (w : Word) (fields : Fields) (o : Option A) (test : A → Bool) (rest : Option model.Why) →
    has_form w fields ≡ is_some o → ((a : A) → o ≡ Some a → has_ranges earlier w fields ≡ test a) →
    front earlier w fields rest ≡ told (ranged test o) rest
front_by earlier w fields None test rest form ranges =
    λ i. cond (not (form i)) (Some model.Form) (cond (not (has_ranges earlier w fields)) (Some model.Range) rest)
front_by earlier w fields (Some a) test rest form ranges =
    (λ i. cond (not (form i)) (Some model.Form) (cond (not (ranges a refl i)) (Some model.Range) rest))
    ∙ by_test (test a)
  where
    by_test : (b : Bool) → cond (not b) (Some model.Range) rest ≡ told (cond b (Ok a) (Err why.Range)) rest
    by_test true = refl
    by_test false = refl

-- the causes of form and range are those that the reader tells
pub front-told : {A : Type 0} (earlier : List Fields) (w : Word) (word : List ℕ) (rest : Fields) (o : Option A) (test : A → Bool)
    (spell : A → Fields) (more : Option model.Why) → ReadsAs earlier w word rest o test spell →
    front earlier w (word ∷ rest) more ≡ told (ranged test o) more
front-told earlier w word rest o test spell more r = front_by earlier w (word ∷ rest) o test more r.form r.ranges
