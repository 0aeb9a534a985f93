-- Fields and lines are what a byte cuts off.
use Rattle.std.proofs.Common.{◌≡◌, refl, sym, ◌∙◌, ap, ℕ, suc, ◌+◌, ◌-◌, ◌<◌, ◌≤◌, Bool, true, false, cond, not, List, [], ◌∷◌, length, take, drop, Option, Some, None, nat_lt, nat_eq, arith, inl, inr}
use Rattle.std.specs.Prelude.{◌==◌, position}
use Rattle.std.specs.Option.{option_map, option_map_or, is_some}
use denote.Bor.{Bor}
use Rattle.std.specs.List.{position_or_len}
use Rattle.std.proofs.lemmas.Bool.{cases_lt, lt-ltb, le-ltb, eqb-true, false_from_ne_true}
use Rattle.std.proofs.lemmas.List.{take_rest}
use Rattle.eon_model.specs.Spelling.{fields_of, field_before}
use Rattle.eon_model.specs.NetworkFault.{whole_lines, with_byte}
use Rattle.net_file.specs.Cut.{cut_at}
use Rattle.net_file.specs.Readings.{is_nil, has_nothing}
use Rattle.eon_model.proofs.WholeLines.{line_first}

abbrev pub parts : List ℕ → ℕ → List ℕ × List ℕ
parts xs i = (take i xs, drop (i + 1) xs)

abbrev behind : ℕ → List ℕ × List ℕ → List ℕ × List ℕ
behind x p = (x ∷ p.0, p.1)

-- a cut at a place, if the place is there
abbrev cut_there : List ℕ → ℕ → Option (List ℕ × List ℕ)
cut_there xs n = cond (nat_lt n (length xs)) (Some (parts xs n)) None

parts_more : (x : ℕ) (xs : List ℕ) (n : ℕ) → parts (x ∷ xs) (1 + n) ≡ behind x (parts xs n)
parts_more x xs n =
    let e : 1 + n ≡ suc n = omega arith in
    let f : 1 + n + 1 ≡ suc (n + 1) = omega arith in
    λ i. (take (e i) (x ∷ xs), drop (f i) (x ∷ xs))

there : (xs : List ℕ) (n : ℕ) → n < length xs → cut_there xs n ≡ Some (parts xs n)
there xs n l = λ i. cond (lt-ltb n (length xs) l i) (Some (parts xs n)) None

not_there : (xs : List ℕ) (n : ℕ) → length xs ≤ n → cut_there xs n ≡ None
not_there xs n l = λ i. cond (le-ltb n (length xs) l i) (Some (parts xs n)) None

place_more : (x : ℕ) (xs : List ℕ) (n : ℕ) → cut_there (x ∷ xs) (1 + n) ≡ option_map (behind x) (cut_there xs n)
place_more x xs n =
    elim (cases_lt n (length xs)) [
      | inl l ↦ there (x ∷ xs) (1 + n) (omega arith) ∙ ap Some (parts_more x xs n) ∙ sym (ap (option_map (behind x)) (there xs n l))
      | inr l ↦ not_there (x ∷ xs) (1 + n) (omega arith) ∙ sym (ap (option_map (behind x)) (not_there xs n l))
    ]

place_cuts : (b : Bool) (x : ℕ) (xs : List ℕ) (n : ℕ) →
    cut_there (x ∷ xs) (cond (not b) (1 + n) 0) ≡ cond b (Some (parts (x ∷ xs) 0)) (option_map (behind x) (cut_there xs n))
place_cuts true x xs n = there (x ∷ xs) 0 (omega arith)
place_cuts false x xs n = place_more x xs n

cut_first : (b : ℕ) (xs : List ℕ) → cut_there xs (position_or_len (λ x. x == b) xs) ≡ cut_at b xs
cut_first b [] = refl
cut_first b (x ∷ xs) =
    place_cuts (x == b) x xs (position_or_len (λ x. x == b) xs)
    ∙ (λ i. cond (x == b) (Some (parts (x ∷ xs) 0)) (option_map (behind x) (cut_first b xs i)))

mapped : (b : Bool) (xs : List ℕ) (n : ℕ) → option_map (parts xs) (cond b (Some n) None) ≡ cond b (Some (parts xs n)) None
mapped true xs n = refl
mapped false xs n = refl

-- the place of the first byte cuts there
pub cut-position : (b : ℕ) (xs : List ℕ) →
    option_map (parts xs) (position (λ x. x == b) xs) ≡ cut_at b xs
cut-position b xs =
    let n = position_or_len (λ x. x == b) xs in
    mapped (nat_lt n (length xs)) xs n ∙ cut_first b xs

-- a byte that has no place cuts nothing
pub cut-none : (b : ℕ) (xs : List ℕ) → None ≡ position (λ x. x == b) xs → None ≡ cut_at b xs
cut-none b xs e = ap (option_map (parts xs)) e ∙ cut-position b xs

pub cut-some : (b : ℕ) (xs : List ℕ) (at : ℕ) → Some at ≡ position (λ x. x == b) xs →
    Some (take at xs, take (length xs - (at + 1)) (drop (at + 1) xs)) ≡ cut_at b xs
cut-some b xs at e =
    ap (λ (r : List ℕ). Some (take at xs, r)) (take_rest xs (at + 1)) ∙ ap (option_map (parts xs)) e
    ∙ cut-position b xs

-- ---- fields

fields_cut : (b : Bool) (x : ℕ) (xs : List ℕ) (o : Option (List ℕ × List ℕ)) (p : List ℕ × List ℕ) →
    cut_at 32 xs ≡ o → cond b (Some (parts (x ∷ xs) 0)) (option_map (behind x) o) ≡ Some p →
    ((q : List ℕ × List ℕ) → cut_at 32 xs ≡ Some q → fields_of xs ≡ q.0 ∷ fields_of q.1) →
    cond b ([] ∷ fields_of xs) (field_before x (fields_of xs)) ≡ p.0 ∷ fields_of p.1
fields_cut true x xs o p e h more = ap (λ (q : List ℕ × List ℕ). q.0 ∷ fields_of q.1) (let k : ([], xs) ≡ p = cc in k)
fields_cut false x xs None p e h more = absurd cc
fields_cut false x xs (Some q) p e h more =
    ap (field_before x) (more q e) ∙ ap (λ (q : List ℕ × List ℕ). q.0 ∷ fields_of q.1) (let k : (x ∷ q.0, q.1) ≡ p = cc in k)

-- what stands before the first space is the first field
pub fields-cut : (xs : List ℕ) (p : List ℕ × List ℕ) → cut_at 32 xs ≡ Some p → fields_of xs ≡ p.0 ∷ fields_of p.1
fields-cut [] p h = absurd cc
fields-cut (x ∷ xs) p h = fields_cut (x == 32) x xs (cut_at 32 xs) p refl h (fields-cut xs)

fields_uncut : (b : Bool) (x : ℕ) (xs : List ℕ) (o : Option (List ℕ × List ℕ)) →
    cut_at 32 xs ≡ o → cond b (Some (parts (x ∷ xs) 0)) (option_map (behind x) o) ≡ None →
    (cut_at 32 xs ≡ None → fields_of xs ≡ xs ∷ []) →
    cond b ([] ∷ fields_of xs) (field_before x (fields_of xs)) ≡ (x ∷ xs) ∷ []
fields_uncut true x xs o e h more = absurd cc
fields_uncut false x xs None e h more = ap (field_before x) (more e)
fields_uncut false x xs (Some q) e h more = absurd cc

-- a line without spaces is one field
pub fields-uncut : (xs : List ℕ) → cut_at 32 xs ≡ None → fields_of xs ≡ xs ∷ []
fields-uncut [] h = refl
fields-uncut (x ∷ xs) h = fields_uncut (x == 32) x xs (cut_at 32 xs) refl h (fields-uncut xs)

-- ---- lines

abbrev pub Lines : Type 0
Lines = List (List ℕ) × List ℕ

lines_cut : (b : Bool) (x : ℕ) (xs : List ℕ) (o : Option (List ℕ × List ℕ)) (p : List ℕ × List ℕ) →
    cut_at 10 xs ≡ o → cond b (Some (parts (x ∷ xs) 0)) (option_map (behind x) o) ≡ Some p →
    ((q : List ℕ × List ℕ) → cut_at 10 xs ≡ Some q → whole_lines xs ≡ line_first q.0 (whole_lines q.1)) →
    cond b (line_first [] (whole_lines xs)) (with_byte x (whole_lines xs).0 (whole_lines xs).1) ≡ line_first p.0 (whole_lines p.1)
lines_cut true x xs o p e h more = ap (λ (q : List ℕ × List ℕ). line_first q.0 (whole_lines q.1)) (let k : ([], xs) ≡ p = cc in k)
lines_cut false x xs None p e h more = absurd cc
lines_cut false x xs (Some q) p e h more =
    ap (λ (t : Lines). with_byte x t.0 t.1) (more q e) ∙ ap (λ (q : List ℕ × List ℕ). line_first q.0 (whole_lines q.1)) (let k : (x ∷ q.0, q.1) ≡ p = cc in k)

-- what stands before the first byte 10 is the first line
pub lines-cut : (xs : List ℕ) (p : List ℕ × List ℕ) → cut_at 10 xs ≡ Some p → whole_lines xs ≡ line_first p.0 (whole_lines p.1)
lines-cut [] p h = absurd cc
lines-cut (x ∷ xs) p h = lines_cut (x == 10) x xs (cut_at 10 xs) p refl h (lines-cut xs)

lines_uncut : (b : Bool) (x : ℕ) (xs : List ℕ) (o : Option (List ℕ × List ℕ)) →
    cut_at 10 xs ≡ o → cond b (Some (parts (x ∷ xs) 0)) (option_map (behind x) o) ≡ None →
    (cut_at 10 xs ≡ None → whole_lines xs ≡ ([], xs)) →
    cond b (line_first [] (whole_lines xs)) (with_byte x (whole_lines xs).0 (whole_lines xs).1) ≡ ([], x ∷ xs)
lines_uncut true x xs o e h more = absurd cc
lines_uncut false x xs None e h more = ap (λ (t : Lines). with_byte x t.0 t.1) (more e)
lines_uncut false x xs (Some q) e h more = absurd cc

-- a text without byte 10 has no whole line
pub lines-uncut : (xs : List ℕ) → cut_at 10 xs ≡ None → whole_lines xs ≡ ([], xs)
lines-uncut [] h = refl
lines-uncut (x ∷ xs) h = lines_uncut (x == 10) x xs (cut_at 10 xs) refl h (lines-uncut xs)

-- ---- what is empty

not_zero : (n : ℕ) → nat_eq (suc n) 0 ≡ false
not_zero n = false_from_ne_true (nat_eq (suc n) 0) λ e. absurd (let k = eqb-true (suc n) 0 e in omega arith)

-- a list without elements has the length 0
pub length-is_nil : {X : Type 0} (xs : List X) → nat_eq (length xs) 0 ≡ is_nil xs
length-is_nil [] = refl
length-is_nil (x ∷ xs) = not_zero (length xs)

some_fields : (b : Bool) (x : ℕ) (fields : List (List ℕ)) → is_nil (cond b ([] ∷ fields) (field_before x fields)) ≡ false
some_fields true x fields = refl
some_fields false x [] = refl
some_fields false x (f ∷ fields) = refl

-- a line has a field
pub fields-some : (xs : List ℕ) → is_nil (fields_of xs) ≡ false
fields-some [] = refl
fields-some (x ∷ xs) = some_fields (x == 32) x (fields_of xs)

not_empty : (b : Bool) (x : ℕ) (lines : List (List ℕ)) (rest : List ℕ) →
    has_nothing (cond b (line_first [] (lines, rest)) (with_byte x lines rest)) ≡ false
not_empty true x lines rest = refl
not_empty false x [] rest = refl
not_empty false x (l ∷ lines) rest = refl

-- nothing is left of a text exactly where it has no bytes
pub lines-nothing : (xs : List ℕ) → has_nothing (whole_lines xs) ≡ is_nil xs
lines-nothing [] = refl
lines-nothing (x ∷ xs) = not_empty (x == 10) x (whole_lines xs).0 (whole_lines xs).1

-- ---- what a cursor has left

abbrev pub cut_off : List ℕ → List ℕ → Option (List ℕ × List ℕ)
cut_off a b = Some (a, b)

pub fields-more : (now : List (List ℕ)) (xs a b : List ℕ) → now ≡ fields_of xs → cut_off a b ≡ cut_at 32 xs →
    now ≡ a ∷ fields_of b
fields-more now xs a b n e = n ∙ fields-cut xs (a, b) (sym e)

pub fields-last : (now : List (List ℕ)) (xs : List ℕ) → now ≡ fields_of xs → None ≡ cut_at 32 xs → now ≡ xs ∷ []
fields-last now xs n e = n ∙ fields-uncut xs (sym e)

is_not : (r : Bool) → true ≡ not r → r ≡ false
is_not true e = e
is_not false e = refl

is_so : (r : Bool) → false ≡ not r → r ≡ true
is_so true e = refl
is_so false e = e

pub fields-done : (o : Option (Bor (List ℕ))) (now : List (List ℕ)) (r : Bool) →
    option_map_or (λ x. fields_of x.now) o [] ≡ now → is_some o ≡ not r → r ≡ is_nil now
fields-done None now r v e = is_so r e ∙ ap is_nil v
fields-done (Some x) now r v e = is_not r e ∙ sym (fields-some x.now) ∙ ap is_nil v

pub lines-more : (now : Lines) (xs a b : List ℕ) → whole_lines xs ≡ now → cut_off a b ≡ cut_at 10 xs →
    now ≡ line_first a (whole_lines b)
lines-more now xs a b n e = sym n ∙ lines-cut xs (a, b) (sym e)

pub lines-last : (now : Lines) (xs : List ℕ) → whole_lines xs ≡ now → None ≡ cut_at 10 xs → now ≡ ([], xs)
lines-last now xs n e = sym n ∙ lines-uncut xs (sym e)

pub lines-done : (now : Lines) (xs : List ℕ) (r : Bool) → whole_lines xs ≡ now → r ≡ nat_eq (length xs) 0 →
    r ≡ has_nothing now
lines-done now xs r n e = e ∙ length-is_nil xs ∙ sym (lines-nothing xs) ∙ ap has_nothing n
