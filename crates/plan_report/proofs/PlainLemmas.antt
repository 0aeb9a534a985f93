-- JSON of names, whole numbers, lists and objects, as its text.
use Rattle.std.proofs.Common.{◌≡◌, refl, sym, ap, ◌∙◌, ℕ, ℤ, pos, negsuc, ◌≤◌, ◌<◌, true, false, ◌&&◌, List, [], ◌∷◌, ◌++◌, map, length, zero, suc, slice_index, nat_lt, append_assoc, decimal, arith}
use Rattle.std.specs.Prelude.{⊤, nat_le}
use Rattle.std.specs.Fmt.{signed_decimal}
use Rattle.std.specs.List.{list_all, join_with_byte}
use Rattle.std.specs.Str.{IsUtf8}
use Rattle.std.proofs.lemmas.Bool.{and_parts, or_from, le-ltb, ne_eqb}
use Rattle.std.proofs.lemmas.Bool.Decides.{nat_tests}
use Rattle.std.proofs.lemmas.Str.{IsUtf8-from_ascii}
use Rattle.json.specs.Print.{escape, escape_byte, escape_letter, quoted as escaped}
use Rattle.serde_json.specs.Data.{Data, null, number, unsigned, string, array, object, Members, no_members, member}
use Rattle.serde_json.specs.Find.{of_integer}
use Rattle.serde_json.specs.View.{items_of}
use Rattle.serde_json.specs.Written.{has_float, items_have_float, members_have_float, compact_text, items_text, members_text}
use Rattle.eon_model.specs.Names.{Name, is_name, is_name_byte}
use Rattle.eon_model.specs.Json as json
use Rattle.eon_model.proofs.OrderLaws.{AllOf}

-- ---- names

record IsPlainByte (b : ℕ) : Type 0 where
  pub least : 35 ≤ b
  pub most : b < 128
  pub other : b ≡ 92 → ⊥

plain_byte : (b : ℕ) → is_name_byte b ≡ true → IsPlainByte b
plain_byte b h = record {
  least = grind (arith, nat_tests);
  most = grind (arith, nat_tests);
  other = grind (arith, nat_tests);
}

letter_none : (b : ℕ) → IsPlainByte b → escape_letter b ≡ 0
letter_none b p =
    let low = p.least in
    let e34 = ne_eqb b 34 (λ e. omega arith) in
    let e92 = ne_eqb b 92 p.other in
    let e8 = ne_eqb b 8 (λ e. omega arith) in
    let e12 = ne_eqb b 12 (λ e. omega arith) in
    let e10 = ne_eqb b 10 (λ e. omega arith) in
    let e13 = ne_eqb b 13 (λ e. omega arith) in
    let e9 = ne_eqb b 9 (λ e. omega arith) in
    rw (e34, e92, e8, e12, e10, e13, e9) refl

byte_same : (b : ℕ) → IsPlainByte b → escape_byte b ≡ b ∷ []
unfolding escape_byte
byte_same b p =
    let none = letter_none b p in
    let low = p.least in
    let high : nat_lt b 32 ≡ false = le-ltb b 32 (omega arith) in
    rw (none, high) refl

bytes_same : (bs : List ℕ) → list_all is_name_byte bs ≡ true → escape bs ≡ bs
bytes_same [] h = refl
bytes_same (b ∷ bs) h =
    let p = and_parts (is_name_byte b) (list_all is_name_byte bs) h in
    λ i. byte_same b (plain_byte b p.0) i ++ bytes_same bs p.1 i

name_bytes : (name : Name) → is_name name ≡ true → list_all is_name_byte name ≡ true
name_bytes name h =
    (and_parts (nat_le 1 (length name) && nat_le (length name) 32) (list_all is_name_byte name) h).1

-- a name needs no escape
pub name_same : (name : Name) → is_name name ≡ true → escape name ≡ name
name_same name h = bytes_same name (name_bytes name h)

bytes_low : (bs : List ℕ) → list_all is_name_byte bs ≡ true → (i : ℕ) → slice_index bs i < 128
bytes_low [] h i = omega arith
bytes_low (b ∷ bs) h zero =
    let p = and_parts (is_name_byte b) (list_all is_name_byte bs) h in (plain_byte b p.0).most
bytes_low (b ∷ bs) h (suc i) =
    let p = and_parts (is_name_byte b) (list_all is_name_byte bs) h in bytes_low bs p.1 i

-- a name is text
pub name_utf8 : (name : Name) → is_name name ≡ true → IsUtf8 name
name_utf8 name h = IsUtf8-from_ascii name (bytes_low name (name_bytes name h))

-- ---- values

-- JSON with no float, and its text
pub record IsPlain (d : Data) (text : List ℕ) : Type 0 where
  pub no_float : has_float d ≡ false
  pub is : compact_text d ≡ text

pub plain-null : IsPlain null json.null
plain-null = record { no_float = refl; is = refl }

pub plain-unsigned : (n : ℕ) → IsPlain (number (unsigned n)) (decimal n)
plain-unsigned n = record { no_float = refl; is = refl }

pub plain-integer : (z : ℤ) → IsPlain (number (of_integer z)) (signed_decimal z)
plain-integer (pos n) = record { no_float = refl; is = refl }
plain-integer (negsuc n) = record { no_float = refl; is = refl }

pub plain-string : (s : List ℕ) → escape s ≡ s → IsPlain (string s) (json.quoted s)
plain-string s e = record { no_float = refl; is = ap (λ v. 34 ∷ (v ++ 34 ∷ [])) e }

-- ---- lists

-- each behind a comma, and then the bracket
abbrev after : ℕ → List (List ℕ) → List ℕ
after close [] = close ∷ []
after close (t ∷ ts) = 44 ∷ (t ++ after close ts)

joined-after : (close : ℕ) (t : List ℕ) (ts : List (List ℕ)) →
    join_with_byte 44 (t ∷ ts) ++ close ∷ [] ≡ t ++ after close ts
joined-after close t [] = refl
joined-after close t (u ∷ us) =
    append_assoc t (44 ∷ join_with_byte 44 (u ∷ us)) (close ∷ [])
    ∙ ap (λ v. t ++ 44 ∷ v) (joined-after close u us)

-- each is plain, with its text
abbrev pub ItemsPlain : List Data → List (List ℕ) → Type 0
ItemsPlain [] [] = ⊤
ItemsPlain [] (t ∷ ts) = ⊥
ItemsPlain (d ∷ ds) [] = ⊥
ItemsPlain (d ∷ ds) (t ∷ ts) = IsPlain d t × ItemsPlain ds ts

items-after : (ds : List Data) (ts : List (List ℕ)) → ItemsPlain ds ts →
    items_text true (items_of ds) ≡ after 93 ts
items-after [] [] p = refl
items-after [] (t ∷ ts) p = absurd p
items-after (d ∷ ds) [] p = absurd p
items-after (d ∷ ds) (t ∷ ts) p = λ i. 44 ∷ (p.0.is i ++ items-after ds ts p.1 i)

items-no_float : (ds : List Data) (ts : List (List ℕ)) → ItemsPlain ds ts → items_have_float (items_of ds) ≡ false
items-no_float [] ts p = refl
items-no_float (d ∷ ds) [] p = absurd p
items-no_float (d ∷ ds) (t ∷ ts) p =
    or_from (has_float d) (items_have_float (items_of ds)) p.0.no_float (items-no_float ds ts p.1)

array_text : (ds : List Data) (ts : List (List ℕ)) → ItemsPlain ds ts →
    compact_text (array (items_of ds)) ≡ json.array ts
array_text [] [] p = refl
array_text [] (t ∷ ts) p = absurd p
array_text (d ∷ ds) [] p = absurd p
array_text (d ∷ ds) (t ∷ ts) p =
    (λ i. 91 ∷ (p.0.is i ++ items-after ds ts p.1 i)) ∙ ap (λ v. 91 ∷ v) (sym (joined-after 93 t ts))

pub plain-array : (ds : List Data) (ts : List (List ℕ)) → ItemsPlain ds ts →
    IsPlain (array (items_of ds)) (json.array ts)
plain-array ds ts p = record { no_float = items-no_float ds ts p; is = array_text ds ts p }

pub plain-map : {X : Type 0} (f : X → Data) (text : X → List ℕ) (xs : List X) →
    AllOf (λ x. IsPlain (f x) (text x)) xs → ItemsPlain (map f xs) (map text xs)
plain-map f text [] a = tt
plain-map f text (x ∷ xs) a = (a.0, plain-map f text xs a.1)

-- ---- objects

-- a key that needs no escape, and a plain value
pub record MemberPlain (k : List ℕ) (d : Data) (text : List ℕ) : Type 0 where
  pub value : List ℕ
  pub plain : IsPlain d value
  pub key : escape k ≡ k
  pub is : text ≡ json.member k value

-- each is plain, with its text
abbrev pub MembersPlain : Members → List (List ℕ) → Type 0
MembersPlain no_members [] = ⊤
MembersPlain no_members (t ∷ ts) = ⊥
MembersPlain (member k d ms) [] = ⊥
MembersPlain (member k d ms) (t ∷ ts) = MemberPlain k d t × MembersPlain ms ts

member_text : (k : List ℕ) (d : Data) (t rest : List ℕ) → MemberPlain k d t →
    escaped k ++ 58 ∷ (compact_text d ++ rest) ≡ t ++ rest
member_text k d t rest p =
    (λ i. (34 ∷ (p.key i ++ 34 ∷ [])) ++ 58 ∷ (p.plain.is i ++ rest))
    ∙ sym (append_assoc (json.quoted k) (58 ∷ p.value) rest)
    ∙ ap (λ v. v ++ rest) (sym p.is)

members-after : (ms : Members) (ts : List (List ℕ)) → MembersPlain ms ts → members_text true ms ≡ after 125 ts
members-after no_members [] p = refl
members-after no_members (t ∷ ts) p = absurd p
members-after (member k d ms) [] p = absurd p
members-after (member k d ms) (t ∷ ts) p =
    ap (λ v. 44 ∷ v) (member_text k d t (members_text true ms) p.0
    ∙ ap (λ v. t ++ v) (members-after ms ts p.1))

members-no_float : (ms : Members) (ts : List (List ℕ)) → MembersPlain ms ts → members_have_float ms ≡ false
members-no_float no_members ts p = refl
members-no_float (member k d ms) [] p = absurd p
members-no_float (member k d ms) (t ∷ ts) p =
    or_from (has_float d) (members_have_float ms) p.0.plain.no_float (members-no_float ms ts p.1)

object_text : (ms : Members) (ts : List (List ℕ)) → MembersPlain ms ts →
    compact_text (object ms) ≡ json.object ts
object_text no_members [] p = refl
object_text no_members (t ∷ ts) p = absurd p
object_text (member k d ms) [] p = absurd p
object_text (member k d ms) (t ∷ ts) p =
    ap (λ v. 123 ∷ v) (member_text k d t (members_text true ms) p.0
    ∙ ap (λ v. t ++ v) (members-after ms ts p.1) ∙ sym (joined-after 125 t ts))

pub plain-object : (ms : Members) (ts : List (List ℕ)) → MembersPlain ms ts → IsPlain (object ms) (json.object ts)
plain-object ms ts p = record { no_float = members-no_float ms ts p; is = object_text ms ts p }
