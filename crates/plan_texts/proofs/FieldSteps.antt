-- Steps of a reader of fields: what a step that went on had read, and that the spelling of a value is read as it.
use Rattle.std.proofs.Common.{◌≡◌, refl, sym, ◌∙◌, ap, ℕ, ◌<◌, ◌^◌, ℤ, pos, negsuc, Bool, true, false, cond, List, [], ◌∷◌, drop, Option, Some, None, arith}
use Rattle.std.specs.Prelude.{nat_le, nat_abs, bytes_eq}
use Rattle.std.specs.Bool.{then_some}
use Rattle.std.specs.Option.{option_and_then, option_map}
use Rattle.std.specs.Fmt.{decimal, signed_decimal}
use Rattle.std.proofs.lemmas.Bool.{and_parts, leb-true}
use Rattle.std.proofs.lemmas.Slice.Eq.{bytes_eq-Decides}
use Rattle.eon_model.specs.Names.{Name, is_name}
use Rattle.eon_model.specs.Numerals.{is_within}
use Rattle.eon_model.specs.CommandText.{is_centre}
use Rattle.eon_model.specs.NetworkFault.{Fields}
use Rattle.eon_model.proofs.SpellingLaws.{IsSmall, centre-IsSmall}
use Rattle.eon_model.proofs.WholeLines.{told_by}
use Rattle.eon_base.specs.Names.{name_of}
use Rattle.eon_base.specs.Numbers.{number_of, integer_of}
use Rattle.eon_base.proofs.OneSpellingLaws.{one_spelling, one_signed_spelling}
use Rattle.net_file.specs.Readings.{first_read, is_nil}
use Rattle.plan_texts.specs.Fields.{◌>>=◌, guarded, kept, number_within, centre_of, is_first}

-- ---- steps

-- the first field, read as a value with which the reader goes on
pub record Taken {A B : Type 0} (read : List ℕ → Option A) (fields : Fields) (k : A → Option B) (b : B) : Type 0 where
  pub field : List ℕ
  pub value : A
  pub front : fields ≡ field ∷ drop 1 fields
  pub is : read field ≡ Some value
  pub more : k value ≡ Some b

taken_by : {A B : Type 0} (read : List ℕ → Option A) (f : List ℕ) (rest : Fields) (k : A → Option B) (b : B)
    (o : Option A) → read f ≡ o → option_and_then k o ≡ Some b → Taken read (f ∷ rest) k b
taken_by read f rest k b None e h = absurd (cc)
taken_by read f rest k b (Some x) e h = record { field = f; value = x; front = refl; is = e; more = h }

pub taken : {A B : Type 0} (read : List ℕ → Option A) (fields : Fields) (k : A → Option B) (b : B) →
    (first_read read fields >>= k) ≡ Some b → Taken read fields k b
taken read [] k b h = absurd (cc)
taken read (f ∷ rest) k b h = taken_by read f rest k b (read f) refl h

-- a value with which the reader goes on
pub went_on : {A B : Type 0} (o : Option A) (k : A → Option B) (b : B) → (o >>= k) ≡ Some b →
    (x : A) × (o ≡ Some x) × (k x ≡ Some b)
went_on None k b h = absurd (cc)
went_on (Some x) k b h = (x, refl, h)

pub passed : {A : Type 0} (test : Bool) (o : Option A) (x : A) → guarded test o ≡ Some x → (test ≡ true) × (o ≡ Some x)
passed true o x h = (refl, h)
passed false o x h = absurd (cc)

pub mapped : {A B : Type 0} (f : A → B) (o : Option A) (y : B) → option_map f o ≡ Some y → (x : A) × (o ≡ Some x) × (f x ≡ y)
mapped f None y h = absurd (cc)
mapped f (Some x) y h = (x, refl, (cc))

-- two readings of which each has the values of the other
pub same_reading : {A : Type 0} (a b : Option A) → ((x : A) → a ≡ Some x → b ≡ Some x) →
    ((x : A) → b ≡ Some x → a ≡ Some x) → a ≡ b
same_reading None None f g = refl
same_reading (Some x) b f g = sym (f x refl)
same_reading None (Some y) f g = g y refl

-- ---- single fields

pub number-spelled : (least most n : ℕ) (f : List ℕ) → most < 2 ^ 64 → number_within least most f ≡ Some n →
    (f ≡ decimal n) × (is_within least most n ≡ true)
number-spelled least most n f small h =
    let t = told_by (number_of f) (is_within least most) n h in
    let top = leb-true n most (and_parts (nat_le least n) (nat_le n most) t.1).1 in
    ((one_spelling n f (omega arith)).0 t.0, t.1)

pub number-read : (least most n : ℕ) → most < 2 ^ 64 → is_within least most n ≡ true →
    number_within least most (decimal n) ≡ Some n
number-read least most n small h =
    let top = leb-true n most (and_parts (nat_le least n) (nat_le n most) h).1 in
    ap (kept (is_within least most)) ((one_spelling n (decimal n) (omega arith)).1 refl) ∙ ap (λ b. then_some b n) h

small_abs : (z : ℤ) → IsSmall z → nat_abs z < 2 ^ 63
small_abs (pos n) l = omega arith
small_abs (negsuc n) l = omega arith

pub centre-spelled : (z : ℤ) (f : List ℕ) → centre_of f ≡ Some z → (f ≡ signed_decimal z) × (is_centre z ≡ true)
centre-spelled z f h =
    let t = told_by (integer_of f) is_centre z h in
    ((one_signed_spelling z f (small_abs z (centre-IsSmall z t.1))).0 t.0, t.1)

pub centre-read : (z : ℤ) → is_centre z ≡ true → centre_of (signed_decimal z) ≡ Some z
centre-read z h =
    ap (kept is_centre) ((one_signed_spelling z (signed_decimal z) (small_abs z (centre-IsSmall z h))).1 refl)
    ∙ ap (λ b. then_some b z) h

pub name-spelled : (x : Name) (f : List ℕ) → name_of f ≡ Some x → (f ≡ x) × (is_name x ≡ true)
name-spelled x f h = by (is_name f) refl h
  where
    by : (b : Bool) → is_name f ≡ b → cond b (Some f) None ≡ Some x → (f ≡ x) × (is_name x ≡ true)
    by true e k = let same : f ≡ x = cc in (same, ap is_name (sym same) ∙ e)
    by false e k = absurd (cc)

pub name-read : (x : Name) → is_name x ≡ true → name_of x ≡ Some x
name-read x h = ap (λ b. cond b (Some x) None) h

pub word-front : (word : List ℕ) (fields : Fields) → is_first word fields ≡ true → fields ≡ word ∷ drop 1 fields
word-front word [] h = absurd (cc)
word-front word (f ∷ rest) h = ap (λ v. v ∷ rest) ((bytes_eq-Decides f word).0 h)

pub word-read : (word : List ℕ) → bytes_eq word word ≡ true
word-read word = (bytes_eq-Decides word word).1 refl

pub nothing-left : {X : Type 0} (xs : List X) → is_nil xs ≡ true → xs ≡ []
nothing-left [] h = refl
nothing-left (x ∷ xs) h = absurd (cc)
