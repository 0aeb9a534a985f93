-- The steps of the loops that read parts.
use Rattle.std.proofs.Common.{◌≡◌, refl, sym, ◌∙◌, ap, ℕ, suc, ◌+◌, ◌-◌, ◌<◌, ◌≤◌, Bool, true, false, cond, List, [], ◌∷◌, ◌++◌, length, take, length-take, drop, length-drop, drop-cons, get_or, Some, None, Ok, Err, inl, inr, arith}
use Rattle.std.specs.Prelude.{nat_eq, nat_le, slice_get, unwrap_or}
use Rattle.std.specs.List.{list_all}
use Rattle.std.proofs.lemmas.List.Splits.{length-slice_split, join_with_byte-slice_split}
use Rattle.std.proofs.lemmas.List.{append-nil, nil_from_length}
use Rattle.std.specs.Bool.{then_some}
use Rattle.std.proofs.lemmas.Bool.{eqb-true, eqb-false, eq-eqb, ne_eqb, lt-ltb, le-ltb, le-leb, both_ways, cases_lt, and_parts, and_from, false≢true, false_from_ne_true}
use Rattle.eon_model.specs.Names.{Name, is_name}
use Rattle.eon_model.specs.Spelling.{fibre_list}
use Rattle.eon_model.specs.Network.{name_at as nth_name}
use Rattle.eon_model.proofs.NamePlaceLaws.{name_at-passes}
use Rattle.eon_base.specs.Names.{name_of}
use Rattle.command_text.specs.Reading.{◌>>=◌, after, Scan, settle, munch}
use Rattle.command_text.specs.Parts.{one_more, name_scan, name_at, fibre_scan, comma_pieces, fibres_at, fibre_names_of}
use Rattle.command_text.proofs.ListParts.{ok_is}
use Rattle.command_text.proofs.NameParts.{name-parts, name-part}
use Rattle.command_text.proofs.FibreParts.{fibres-part, pieces-list}

some_more : {S : Type 0} (c : Bool) (x s : S) → cond c (Some x) None ≡ Some s → (c ≡ true) × (x ≡ s)
some_more true x s e = (refl, cc)
some_more false x s e = absurd cc

no_more : {S : Type 0} (c : Bool) (x : S) → cond c (Some x) None ≡ None → c ≡ false
no_more true x e = absurd cc
no_more false x e = refl

-- one byte more
pub munch-goes : {S : Type 0} (scan : Scan S) (s t : S) (b : ℕ) (bytes others : List ℕ) → bytes ≡ b ∷ others →
    Some t ≡ one_more scan s b →
    munch scan s bytes ≡ munch scan t others
unfolding munch
munch-goes scan s t b bytes others e h =
    let m = some_more (scan.may s b) (scan.next s b) t (sym h) in
    ap (munch scan s) e ∙ (λ i. cond (m.0 i) (munch scan (scan.next s b) others) (settle scan s (b ∷ others)))
    ∙ ap (λ u. munch scan u others) m.1

-- no text goes on
pub munch-halts : {S : Type 0} (scan : Scan S) (s : S) (b : ℕ) (bytes others : List ℕ) → bytes ≡ b ∷ others →
    None ≡ one_more scan s b →
    munch scan s bytes ≡ settle scan s bytes
unfolding munch
munch-halts scan s b bytes others e h =
    let m = no_more (scan.may s b) (scan.next s b) (sym h) in
    ap (munch scan s) e ∙ (λ i. cond (m i) (munch scan (scan.next s b) others) (settle scan s (b ∷ others)))
    ∙ ap (settle scan s) (sym e)

-- no byte is left
pub munch-ends : {S : Type 0} (scan : Scan S) (s : S) (bytes : List ℕ) → length bytes ≡ 0 →
    munch scan s bytes ≡ settle scan s bytes
unfolding munch
munch-ends scan s bytes h = let e = nil_from_length bytes h in ap (munch scan s) e ∙ ap (settle scan s) (sym e)

-- ---- a word

pub after-goes : (word bytes others : List ℕ) (i b : ℕ) → i < length word → bytes ≡ b ∷ others → b ≡ get_or word i 0 →
    after (drop i word) bytes ≡ after (drop (i + 1) word) others
unfolding after
after-goes word bytes others i b l e same =
    let w : drop i word ≡ get_or word i 0 ∷ drop (suc i) word = drop-cons word i 0 l in
    let more : suc i ≡ i + 1 = omega arith in
    (λ k. after (w k) (e k))
    ∙ (λ k. cond (eq-eqb b (get_or word i 0) same k) (after (drop (suc i) word) others) (Err (length (b ∷ others))))
    ∙ ap (λ k. after (drop k word) others) more

pub after-halts : (word bytes others : List ℕ) (i b : ℕ) → i < length word → bytes ≡ b ∷ others →
    (b ≡ get_or word i 0 → ⊥) →
    after (drop i word) bytes ≡ Err (length bytes)
unfolding after
after-halts word bytes others i b l e other =
    let w : drop i word ≡ get_or word i 0 ∷ drop (suc i) word = drop-cons word i 0 l in
    (λ k. after (w k) (e k))
    ∙ (λ k. cond (ne_eqb b (get_or word i 0) other k) (after (drop (suc i) word) others) (Err (length (b ∷ others))))
    ∙ ap (λ v. Err (length v)) (sym e)

pub after-short : (word bytes : List ℕ) (i : ℕ) → i < length word → length bytes ≡ 0 →
    after (drop i word) bytes ≡ Err (length bytes)
unfolding after
after-short word bytes i l none =
    let w : drop i word ≡ get_or word i 0 ∷ drop (suc i) word = drop-cons word i 0 l in
    let e = nil_from_length bytes none in
    (λ k. after (w k) (e k)) ∙ ap (λ v. Err (length v)) (sym e)

pub after-done : (word bytes : List ℕ) (i : ℕ) → length word ≤ i → after (drop i word) bytes ≡ Ok bytes
unfolding after
after-done word bytes i l =
    let rest = length-drop i word in
    ap (λ v. after v bytes) (nil_from_length (drop i word) (omega arith))

-- ---- a name

whole_name : (bytes rest : List ℕ) (len : ℕ) → munch name_scan 0 bytes ≡ settle name_scan len rest → 0 < len →
    name_at bytes ≡ Ok (take len bytes, rest)
unfolding name_at
whole_name bytes rest len e some =
    ap (λ r. r >>= λ found. Ok (take found.0 bytes, found.1))
    (e ∙ λ i. cond (lt-ltb 0 len some i) (Ok (len, rest)) (Err (length rest)))

no_name : (bytes rest : List ℕ) (len : ℕ) → munch name_scan 0 bytes ≡ settle name_scan len rest → len ≤ 0 →
    name_at bytes ≡ Err (length rest)
unfolding name_at
no_name bytes rest len e none =
    ap (λ r. r >>= λ found. Ok (take found.0 bytes, found.1))
    (e ∙ λ i. cond (le-ltb 0 len none i) (Ok (len, rest)) (Err (length rest)))

name_is : (b : Bool) (front : List ℕ) (name : List ℕ) → Some name ≡ cond b (Some front) None →
    (b ≡ true) × (name ≡ front)
name_is true front name e = (refl, cc)
name_is false front name e = absurd cc

name_is_not : (b : Bool) (front : List ℕ) → None ≡ cond b (Some front) None → b ≡ false
name_is_not true front e = absurd cc
name_is_not false front e = refl

pub name-taken : (bytes rest name : List ℕ) (len : ℕ) → munch name_scan 0 bytes ≡ settle name_scan len rest →
    Some name ≡ name_of (take len bytes) → name_at bytes ≡ Ok (name, rest)
name-taken bytes rest name len e h =
    let n = name_is (is_name (take len bytes)) (take len bytes) name h in
    let some = (name-parts (take len bytes) n.0).some in
    let most = length-take len bytes in
    whole_name bytes rest len e (omega arith) ∙ (λ i. Ok (sym n.1 i, rest))

pub name-refused : (bytes rest : List ℕ) (len : ℕ) → munch name_scan 0 bytes ≡ settle name_scan len rest →
    None ≡ name_of (take len bytes) → name_at bytes ≡ Err (length rest)
name-refused bytes rest len e h =
    elim (cases_lt 0 len) [
      | inl some ↦
          let took = name-part.takes bytes (take len bytes) rest (whole_name bytes rest len e some) in
          absurd (both_ways (is_name (take len bytes))
          (name_is_not (is_name (take len bytes)) (take len bytes) h) took.is_text.0)
      | inr none ↦ no_name bytes rest len e none
    ]

-- ---- a list of fibres

pub fibres-taken : (bytes rest : List ℕ) (len : ℕ) → munch fibre_scan 0 bytes ≡ settle fibre_scan len rest → 0 < len →
    fibres_at bytes ≡ Ok (comma_pieces (take (length bytes - length rest) bytes), rest)
unfolding fibres_at
fibres-taken bytes rest len e some =
    ap (λ r. r >>= λ found. Ok (comma_pieces (take (length bytes - length found.1) bytes), found.1))
    (e ∙ λ i. cond (lt-ltb 0 len some i) (Ok (len, rest)) (Err (length rest)))

pub fibres-refused : (bytes rest : List ℕ) (len : ℕ) → munch fibre_scan 0 bytes ≡ settle fibre_scan len rest →
    len ≤ 0 →
    fibres_at bytes ≡ Err (length rest)
unfolding fibres_at
fibres-refused bytes rest len e none =
    ap (λ r. r >>= λ found. Ok (comma_pieces (take (length bytes - length found.1) bytes), found.1))
    (e ∙ λ i. cond (le-ltb 0 len none i) (Ok (len, rest)) (Err (length rest)))

pub fibres-valid : (bytes rest : List ℕ) (names : List Name) → fibres_at bytes ≡ Ok (names, rest) →
    list_all is_name names ≡ true
fibres-valid bytes rest names e =
    let took = fibres-part.takes bytes names rest e in
    (and_parts (nat_le 1 (length names)) (list_all is_name names) took.is_text.0).1

-- what is read to the end is a list of fibres
pub fibres-whole : (bytes rest : List ℕ) (names : List Name) → fibres_at bytes ≡ Ok (names, rest) →
    length rest ≡ 0 → Some names ≡ fibre_names_of bytes
fibres-whole bytes rest names e none =
    let took = fibres-part.takes bytes names rest e in
    let whole : bytes ≡ fibre_list names = took.is ∙ ap (λ v. took.text ++ v) (nil_from_length rest none)
    ∙ append-nil took.text ∙ took.is_text.1 in
    let parts = and_parts (nat_le 1 (length names)) (list_all is_name names) took.is_text.0 in
    let same : comma_pieces bytes ≡ names = ap comma_pieces whole ∙ listed names parts.0 parts.1 in
    sym (λ i. cond ((ap (list_all is_name) same ∙ parts.1) i) (Some (same i)) None)
  where
    listed : (names : List Name) → nat_le 1 (length names) ≡ true → list_all is_name names ≡ true →
        comma_pieces (fibre_list names) ≡ names
    listed [] h k = absurd (false≢true h)
    listed (name ∷ names) h k = pieces-list name names k

-- a list of fibres is read to the end
pub fibres-listed : (bytes : List ℕ) → list_all is_name (comma_pieces bytes) ≡ true →
    fibres_at bytes ≡ Ok (comma_pieces bytes, [])
fibres-listed bytes h =
    let names = comma_pieces bytes in
    let some = length-slice_split (λ b. nat_eq b 44) bytes in
    let text : bytes ≡ fibre_list names = sym (join_with_byte-slice_split 44 bytes) in
    ap fibres_at (sym (append-nil bytes)) ∙ fibres-part.again names bytes []
    (and_from _ _ (le-leb 1 (length names) (omega arith)) h, text) tt

pub fibres-none : (bytes : List ℕ) → (fibres_at bytes ≡ Ok (comma_pieces bytes, []) → ⊥) → None ≡ fibre_names_of bytes
fibres-none bytes h =
    let not_all = false_from_ne_true (list_all is_name (comma_pieces bytes)) λ all. h (fibres-listed bytes all) in
    sym (λ i. cond (not_all i) (Some (comma_pieces bytes)) None)

pub fibres-longer : (bytes rest : List ℕ) (names : List Name) → fibres_at bytes ≡ Ok (names, rest) →
    (length rest ≡ 0 → ⊥) → None ≡ fibre_names_of bytes
fibres-longer bytes rest names e some = fibres-none bytes λ h.
    let same = ok_is (names, rest) (comma_pieces bytes, []) (sym e ∙ h) in
    some (ap (λ (x : List Name × List ℕ). length x.1) same)

pub fibres-stuck : (bytes : List ℕ) (left : ℕ) → fibres_at bytes ≡ Err left → None ≡ fibre_names_of bytes
fibres-stuck bytes left e = fibres-none bytes λ h. let bad = sym e ∙ h in absurd cc

pub name-there : (names : List Name) (i : ℕ) (piece : List ℕ) → list_all is_name names ≡ true →
    i < length names → Some piece ≡ slice_get names i →
    None ≡ name_of piece → ⊥
name-there names i piece all l e bad =
    let passes = name_at-passes is_name names i all l in
    let same : nth_name names i ≡ piece = ap (λ o. unwrap_or o []) (sym e) in
    both_ways (is_name piece) (name_is_not (is_name piece) piece bad) (ap is_name (sym same) ∙ passes)

pub fibres-ended : (bytes rest : List ℕ) (names : List Name) → fibres_at bytes ≡ Ok (names, rest) →
    then_some (nat_eq (length rest) 0) names ≡ fibre_names_of bytes
fibres-ended bytes rest names e =
    elim (nat_eq (length rest) 0) as (λ t. nat_eq (length rest) 0 ≡ t → then_some t names ≡ fibre_names_of bytes) [
      | true ↦ λ h. fibres-whole bytes rest names e (eqb-true (length rest) 0 h)
      | false ↦ λ h. fibres-longer bytes rest names e (eqb-false (length rest) 0 h)
    ] refl
