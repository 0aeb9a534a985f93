-- The format for a length, found row by row.
use Rattle.std.proofs.Common.{◌≡◌, refl, sym, ◌∙◌, ap, subst, ℕ, zero, suc, ◌+◌, ◌<◌, ◌≤◌, max, Bool, true, false, cond, ◌&&◌, List, [], ◌∷◌, ◌++◌, length, take, find, get_or, Option, Some, None, arith}
use Rattle.std.specs.Prelude.{nat_le, nat_lt, slice_get, IfSome}
use Rattle.std.specs.List.{list_all, fold}
use Rattle.std.specs.Option.{option_or, option_and_then}
use Rattle.std.proofs.Math.Nat.{max-eq_left, max-eq_right}
use Rattle.std.proofs.lemmas.Bool.{and_parts, leb-true, leb-false, le-leb, lt-leb, ltb-true, ltb-false}
use Rattle.std.proofs.lemmas.Bool.Decides.{nat_tests}
use Rattle.std.proofs.lemmas.List.{take_more}
use Rattle.std.proofs.lemmas.List.Elements.{filter-append}
use Rattle.std.proofs.lemmas.List.Folds.{find-append}
use Rattle.std.proofs.lemmas.List.Sums.{fold_push}
use Rattle.std.proofs.lemmas.Option.{slice_get-get_or}
use Rattle.eon_model.specs.Formats.{Format, reaching, format_for}
use Rattle.eon_model.proofs.OrderLaws.{AllOf}
use Rattle.eon_model.proofs.FindLaws.{find-none}

-- the greatest number of Gbit/s per slot
abbrev pub top : List Format → ℕ
top rows = fold (λ a f. max a f.per) 0 rows

-- ---- the first row with the greatest number

both_le : (a b k : ℕ) → (nat_le a k && nat_le b k) ≡ nat_le (max a b) k
both_le a b k = grind (arith, nat_tests)

and_assoc : (a b c : Bool) → (a && (b && c)) ≡ ((a && b) && c)
and_assoc true b c = refl
and_assoc false b c = refl

and_true : (b : Bool) → (b && true) ≡ b
and_true true = refl
and_true false = refl

le_from : (k a : ℕ) (rows : List Format) →
    (nat_le a k && list_all (λ g. nat_le g.per k) rows) ≡ nat_le (fold (λ a f. max a f.per) a rows) k
le_from k a [] = and_true (nat_le a k)
le_from k a (g ∷ rows) =
    and_assoc (nat_le a k) (nat_le g.per k) (list_all (λ g. nat_le g.per k) rows)
    ∙ ap (λ b. b && list_all (λ g. nat_le g.per k) rows) (both_le a g.per k) ∙ le_from k (max a g.per) rows

-- no row has more than k exactly where the greatest is no more
le_top : (k : ℕ) (rows : List Format) → list_all (λ g. nat_le g.per k) rows ≡ nat_le (top rows) k
le_top k rows =
    sym (ap (λ b. b && list_all (λ g. nat_le g.per k) rows) (le-leb 0 k (omega arith))) ∙ le_from k 0 rows

abbrev best : List Format → Option Format
best rows = find (λ f. nat_le (top rows) f.per) rows

format_for-best : (rows : List Format) (km : ℕ) → format_for rows km ≡ best (reaching rows km)
format_for-best rows km = λ i. find (λ f. le_top f.per (reaching rows km) i) (reaching rows km)

-- ---- one more row

top_push : (rows : List Format) (x : Format) → top (rows ++ x ∷ []) ≡ max (top rows) x.per
top_push rows x = fold_push (λ a f. max a f.per) 0 rows x

below : (k a : ℕ) (rows : List Format) → a < k → AllOf (λ f. nat_le k f.per ≡ false) rows →
    fold (λ a f. max a f.per) a rows < k
below k a [] l h = l
below k a (f ∷ rows) l h =
    let less : f.per < k = leb-false k f.per h.0 in below k (max a f.per) rows (omega arith) h.1

-- some row has the greatest, if that is above 0
has_best : (rows : List Format) → 0 < top rows → best rows ≡ None → ⊥
has_best rows l h =
    let under = below (top rows) 0 rows l (find-none (λ f. nat_le (top rows) f.per) rows h) in omega (arith, under)

first_of_two : (o rest : Option Format) → (o ≡ None → ⊥) → option_or o rest ≡ o
first_of_two None rest h = absurd (h refl)
first_of_two (Some f) rest h = refl

none_above : (k t : ℕ) → t < k → (rows : List Format) → list_all (λ g. nat_le g.per t) rows ≡ true →
    find (λ g. nat_le k g.per) rows ≡ None
none_above k t l [] h = refl
none_above k t l (f ∷ rows) h =
    let parts = and_parts (nat_le f.per t) (list_all (λ g. nat_le g.per t) rows) h in
    let less : f.per ≤ t = leb-true f.per t parts.0 in
    ap (λ b. cond b (Some f) (find (λ g. nat_le k g.per) rows)) (lt-leb k f.per (omega (arith, less, l)))
    ∙ none_above k t l rows parts.1

-- a row with no more than the greatest so far changes nothing
best_stays : (rows : List Format) (x : Format) → 0 < x.per → x.per ≤ top rows →
    (best (rows ++ x ∷ []) ≡ best rows) × (top (rows ++ x ∷ []) ≡ top rows)
best_stays rows x some l =
    let same = top_push rows x ∙ max-eq_left l in (
      ap (λ t. find (λ f. nat_le t f.per) (rows ++ x ∷ [])) same
          ∙ find-append (λ f. nat_le (top rows) f.per) rows (x ∷ [])
          ∙ first_of_two (best rows) _ (has_best rows (omega (arith, some, l))),
      same,
    )

-- one with more is the first that has the greatest
best_changes : (rows : List Format) (x : Format) → top rows < x.per →
    (best (rows ++ x ∷ []) ≡ Some x) × (top (rows ++ x ∷ []) ≡ x.per)
best_changes rows x l =
    let same = top_push rows x ∙ max-eq_right (omega (arith, l)) in
    let none = none_above x.per (top rows) l rows (le_top (top rows) rows ∙ le-leb (top rows) (top rows) (omega arith)) in (
      ap (λ t. find (λ f. nat_le t f.per) (rows ++ x ∷ [])) same
          ∙ find-append (λ f. nat_le x.per f.per) rows (x ∷ [])
          ∙ ap (λ o. option_or o (cond (nat_le x.per x.per) (Some x) None)) none
          ∙ ap (λ b. cond b (Some x) None) (le-leb x.per x.per (omega arith)),
      same,
    )

-- ---- the search over all rows

-- among the first i rows, the best for the length, and how much it puts into a slot
pub record IsBest (rows : List Format) (km i : ℕ) (place : Option ℕ) (most : ℕ) : Type 0 where
  pub in_range : IfSome place (λ k. k < i)
  pub row : option_and_then (λ k. slice_get rows k) place ≡ format_for (take i rows) km
  pub level : most ≡ top (reaching (take i rows) km)

pub IsBest-init : (rows : List Format) (km : ℕ) → IsBest rows km 0 None 0
IsBest-init rows km = record { in_range = tt; row = refl; level = refl }

reaching_more : (rows : List Format) (km i : ℕ) (x : Format) → i < length rows → x ≡ get_or rows i x →
    reaching (take (i + 1) rows) km ≡ reaching (take i rows) km ++ cond (nat_le km x.reach) (x ∷ []) []
reaching_more rows km i x l is =
    ap (λ r. reaching r km) (take_more rows i x l ∙ ap (λ y. take i rows ++ y ∷ []) (sym is))
    ∙ filter-append (λ f. nat_le km f.reach) (take i rows) (x ∷ [])

later : (place : Option ℕ) (i : ℕ) → IfSome place (λ k. k < i) → IfSome place (λ k. k < i + 1)
later None i h = tt
later (Some k) i h = omega (arith, h)

stays : (rows : List Format) (km i : ℕ) (place : Option ℕ) (most : ℕ) → IsBest rows km i place most →
    format_for (take (i + 1) rows) km ≡ format_for (take i rows) km →
    top (reaching (take (i + 1) rows) km) ≡ top (reaching (take i rows) km) → IsBest rows km (i + 1) place most
stays rows km i place most h same alike =
    record { in_range = later place i h.in_range; row = h.row ∙ sym same; level = h.level ∙ sym alike }

append_nothing : (r : List Format) → r ++ [] ≡ r
append_nothing [] = refl
append_nothing (x ∷ r) = ap (λ s. x ∷ s) (append_nothing r)

-- a row that does not reach so far
out_of_reach : (rows : List Format) (km i : ℕ) (x : Format) (place : Option ℕ) (most : ℕ) → i < length rows →
    x ≡ get_or rows i x → IsBest rows km i place most → nat_le km x.reach ≡ false → IsBest rows km (i + 1) place most
out_of_reach rows km i x place most l is h far =
    let same = reaching_more rows km i x l is
    ∙ ap (λ b. reaching (take i rows) km ++ cond b (x ∷ []) []) far ∙ append_nothing (reaching (take i rows) km) in
    stays rows km i place most h
    (format_for-best (take (i + 1) rows) km ∙ ap best same ∙ sym (format_for-best (take i rows) km)) (ap top same)

no_better : (rows : List Format) (km i : ℕ) (x : Format) (place : Option ℕ) (most : ℕ) → i < length rows →
    x ≡ get_or rows i x → 0 < x.per → IsBest rows km i place most → nat_le km x.reach ≡ true → x.per ≤ most →
    IsBest rows km (i + 1) place most
no_better rows km i x place most l is some h near less =
    let same = reaching_more rows km i x l is
    ∙ ap (λ b. reaching (take i rows) km ++ cond b (x ∷ []) []) near in
    let kept = best_stays (reaching (take i rows) km) x some (omega (arith, less, h.level)) in
    stays rows km i place most h
    (format_for-best (take (i + 1) rows) km ∙ ap best same ∙ kept.0 ∙ sym (format_for-best (take i rows) km))
    (ap top same ∙ kept.1)

-- the row is passed over
pub IsBest-kept : (rows : List Format) (km i : ℕ) (x : Format) (place : Option ℕ) (most : ℕ) → i < length rows →
    x ≡ get_or rows i x → 0 < x.per → IsBest rows km i place most →
    (nat_le km x.reach && nat_lt most x.per) ≡ false → IsBest rows km (i + 1) place most
IsBest-kept rows km i x place most l is some h passed = by_reach (nat_le km x.reach) refl
  where
    by_reach : (b : Bool) → nat_le km x.reach ≡ b → IsBest rows km (i + 1) place most
    by_reach false far = out_of_reach rows km i x place most l is h far
    by_reach true near =
        no_better rows km i x place most l is some h near
        (ltb-false most x.per (sym (ap (λ b. b && nat_lt most x.per) near) ∙ passed))

-- the row is better than those before it
pub IsBest-taken : (rows : List Format) (km i : ℕ) (x : Format) (place : Option ℕ) (most : ℕ) → i < length rows →
    x ≡ get_or rows i x → IsBest rows km i place most →
    (nat_le km x.reach && nat_lt most x.per) ≡ true → IsBest rows km (i + 1) (Some i) x.per
IsBest-taken rows km i x place most l is h better =
    let parts = and_parts (nat_le km x.reach) (nat_lt most x.per) better in
    let more : most < x.per = ltb-true most x.per parts.1 in
    let same = reaching_more rows km i x l is
    ∙ ap (λ b. reaching (take i rows) km ++ cond b (x ∷ []) []) parts.0 in
    let now = best_changes (reaching (take i rows) km) x (omega (arith, more, h.level)) in
    record {
      in_range = omega arith;
      row = slice_get-get_or rows i x l ∙ ap Some (sym is)
          ∙ sym (format_for-best (take (i + 1) rows) km ∙ ap best same ∙ now.0);
      level = sym (ap top same ∙ now.1);
    }

-- ---- rows in range

pub all-at : {X : Type 0} (p : X → Bool) (xs : List X) (i : ℕ) (x : X) → i < length xs → x ≡ get_or xs i x →
    list_all p xs ≡ true → p x ≡ true
all-at p [] i x l is h = absurd (omega arith)
all-at p (y ∷ ys) zero x l is h = ap p is ∙ (and_parts (p y) (list_all p ys) h).0
all-at p (y ∷ ys) (suc i) x l is h = all-at p ys i x (omega arith) is (and_parts (p y) (list_all p ys) h).1

pub all-got : {X : Type 0} (p : X → Bool) (xs : List X) (i : ℕ) (x : X) → slice_get xs i ≡ Some x →
    list_all p xs ≡ true → p x ≡ true
all-got p [] i x is h = cc
all-got p (y ∷ ys) zero x is h = let same : y ≡ x = cc in ap p (sym same) ∙ (and_parts (p y) (list_all p ys) h).0
all-got p (y ∷ ys) (suc i) x is h = all-got p ys i x is (and_parts (p y) (list_all p ys) h).1

pub IsBest-along : (rows : List Format) (km i : ℕ) (place now : Option ℕ) (most level : ℕ) → now ≡ place →
    level ≡ most → IsBest rows km i place most → IsBest rows km i now level
IsBest-along rows km i place now most level e f h =
    subst (λ (p : Option ℕ × ℕ). IsBest rows km i p.0 p.1) (λ j. (sym e j, sym f j)) h
