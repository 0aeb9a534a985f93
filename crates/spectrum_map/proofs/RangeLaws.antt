-- A range in each of several rows of 1,024 places.
use Rattle.std.proofs.Common.{◌≡◌, refl, sym, ◌∙◌, ap, subst, ℕ, zero, suc, ◌+◌, ◌*◌, ◌<◌, ◌≤◌, arith, inl, inr, Bool, true, false, cond, ◌&&◌, ◌||◌, not, List, [], ◌∷◌, length, get_or, take, nat_eq}
use Rattle.std.specs.Cmp.{nat_eq_equiv}
use Rattle.std.specs.List.{AllByRecursion, list_all}
use Rattle.std.proofs.lemmas.Bool.{and_parts, both_ways, not-true, false_from_ne_true}
use Rattle.std.proofs.lemmas.List.{take_more, take_all}
use Rattle.std.proofs.lemmas.List.Folds.{list_any-append}
use Rattle.eon_model.specs.Lists.{numbers_differ}
use Rattle.eon_model.proofs.OrderLaws.{IsIn}
use Rattle.eon_model.proofs.Members.{list_all-at, any-member, any-by}
use Rattle.spectrum_map.specs.Bits.{is_between, is_on_rows}
use Rattle.spectrum_map.proofs.BitLaws.{between-facts}

pub all_at : (P : ℕ → Type 0) (xs : List ℕ) (n : ℕ) → AllByRecursion P xs → n < length xs → P (get_or xs n 0)
all_at P [] n a l = absurd (omega (arith, l))
all_at P (x ∷ xs) zero a l = a.0
all_at P (x ∷ xs) (suc n) a l = all_at P xs n a.1 (omega (arith, l))

item_in : (xs : List ℕ) (n : ℕ) → n < length xs → IsIn (get_or xs n 0) xs
item_in [] n l = absurd (omega (arith, l))
item_in (x ∷ xs) zero l = inl refl
item_in (x ∷ xs) (suc n) l = inr (item_in xs n (omega (arith, l)))

-- no earlier number is the same
not_before : (xs : List ℕ) (n : ℕ) → numbers_differ xs ≡ true → n < length xs → IsIn (get_or xs n 0) (take n xs) → ⊥
not_before [] n d l i = absurd (omega (arith, l))
not_before (x ∷ xs) zero d l i = i
not_before (x ∷ xs) (suc n) d l i =
    let p = and_parts (list_all (λ y. not (nat_eq x y)) xs) (numbers_differ xs) d in
    elim i [
      | inl same ↦ both_ways (nat_eq x x)
          (not-true _ (subst (λ (y : ℕ). not (nat_eq x y) ≡ true) same
          (list_all-at (λ y. not (nat_eq x y)) xs (get_or xs n 0) p.0 (item_in xs n (omega (arith, l))))))
          (nat_eq_equiv.refl x)
      | inr more ↦ not_before xs n p.1 (omega (arith, l)) more
    ]

-- ---- row by row

-- whether the place lies in the range, in this row
abbrev pub is_in_row : ℕ → ℕ → ℕ → ℕ → Bool
is_in_row row first end i = is_between (1024 * row + first) (1024 * row + end) i

or_nothing : (a b : Bool) → (a || (b || false)) ≡ (a || b)
or_nothing true b = refl
or_nothing false true = refl
or_nothing false false = refl

pub one_row_more : (rows : List ℕ) (n first end i : ℕ) → n < length rows →
    is_on_rows (take (n + 1) rows) first end i
    ≡ (is_on_rows (take n rows) first end i || is_in_row (get_or rows n 0) first end i)
one_row_more rows n first end i l =
    ap (λ (rs : List ℕ). is_on_rows rs first end i) (take_more rows n 0 l)
    ∙ list_any-append (λ row. is_in_row row first end i) (take n rows) (get_or rows n 0 ∷ [])
    ∙ or_nothing (is_on_rows (take n rows) first end i) (is_in_row (get_or rows n 0) first end i)

pub all_rows : (rows : List ℕ) (n first end i : ℕ) → length rows ≤ n →
    is_on_rows (take n rows) first end i ≡ is_on_rows rows first end i
all_rows rows n first end i l = ap (λ (rs : List ℕ). is_on_rows rs first end i) (take_all n rows l)

pub row_is_on : (rows : List ℕ) (n first end i : ℕ) → n < length rows →
    is_in_row (get_or rows n 0) first end i ≡ true → is_on_rows rows first end i ≡ true
row_is_on rows n first end i l h =
    any-by (λ row. is_in_row row first end i) rows (get_or rows n 0) (item_in rows n l) h

-- no place of a row was met in an earlier one
pub not_yet : (rows : List ℕ) (n first end i : ℕ) → numbers_differ rows ≡ true → end ≤ 1024 → n < length rows →
    is_in_row (get_or rows n 0) first end i ≡ true → is_on_rows (take n rows) first end i ≡ false
not_yet rows n first end i d w l h = false_from_ne_true (is_on_rows (take n rows) first end i) λ k.
    let found = any-member (λ row. is_in_row row first end i) (take n rows) k in
    let a = between-facts (1024 * found.0 + first) (1024 * found.0 + end) i found.1.1 in
    let b = between-facts (1024 * get_or rows n 0 + first) (1024 * get_or rows n 0 + end) i h in
    let a0 = a.0 in let a1 = a.1 in let b0 = b.0 in let b1 = b.1 in
    let same : found.0 ≡ get_or rows n 0 = omega (arith, a0, a1, b0, b1, w) in
    not_before rows n d l (subst (λ (r : ℕ). IsIn r (take n rows)) same found.1.0)

-- ---- bits

-- the bits of the rows before this one are set
abbrev pub RowsSet : (ℕ → Bool) → (ℕ → Bool) → List ℕ → ℕ → ℕ → ℕ → Type 0
RowsSet before now rows n first end = (i : ℕ) → now i ≡ (before i || is_on_rows (take n rows) first end i)

-- or cleared
abbrev pub RowsCleared : (ℕ → Bool) → (ℕ → Bool) → List ℕ → ℕ → ℕ → ℕ → Type 0
RowsCleared before now rows n first end = (i : ℕ) → now i ≡ (before i && not (is_on_rows (take n rows) first end i))

module _ (before now : ℕ → Bool) (rows : List ℕ) (n first end : ℕ) where
  pub rows_set : n < length rows → RowsSet before now rows n first end → (new : ℕ → Bool) →
      ((i : ℕ) → new i ≡ (now i || is_in_row (get_or rows n 0) first end i)) →
      RowsSet before new rows (n + 1) first end
  rows_set l s new e i =
      e i ∙ (λ k. s i k || is_in_row (get_or rows n 0) first end i)
      ∙ regroup (before i) (is_on_rows (take n rows) first end i) (is_in_row (get_or rows n 0) first end i)
      ∙ ap (λ b. before i || b) (sym (one_row_more rows n first end i l))
    where
      regroup : (a b c : Bool) → ((a || b) || c) ≡ (a || (b || c))
      regroup true b c = refl
      regroup false b c = refl

  pub rows_cleared : n < length rows → RowsCleared before now rows n first end → (new : ℕ → Bool) →
      ((i : ℕ) → new i ≡ (now i && not (is_in_row (get_or rows n 0) first end i))) →
      RowsCleared before new rows (n + 1) first end
  rows_cleared l s new e i =
      e i ∙ (λ k. s i k && not (is_in_row (get_or rows n 0) first end i))
      ∙ regroup (before i) (is_on_rows (take n rows) first end i) (is_in_row (get_or rows n 0) first end i)
      ∙ ap (λ b. before i && not b) (sym (one_row_more rows n first end i l))
    where
      regroup : (a b c : Bool) → ((a && not b) && not c) ≡ (a && not (b || c))
      regroup true true c = refl
      regroup true false c = refl
      regroup false b c = refl

-- ---- counts

-- the places of the rows before this one were changed once
abbrev pub RowsCounted : (ℕ → ℕ) → (ℕ → ℕ) → (ℕ → ℕ) → List ℕ → ℕ → ℕ → ℕ → Type 0
RowsCounted change before now rows n first end =
    (i : ℕ) → now i ≡ cond (is_on_rows (take n rows) first end i) (change (before i)) (before i)

module _ (change before now : ℕ → ℕ) (rows : List ℕ) (n first end : ℕ) (differ : numbers_differ rows ≡ true)
    (few : end ≤ 1024) (l : n < length rows) (s : RowsCounted change before now rows n first end) where
  -- what a place of this row counts is what it did before
  pub count_unchanged : (i : ℕ) → is_in_row (get_or rows n 0) first end i ≡ true → now i ≡ before i
  count_unchanged i h =
      s i ∙ ap (λ b. cond b (change (before i)) (before i)) (not_yet rows n first end i differ few l h)

  pub rows_counted : (new : ℕ → ℕ) →
      ((i : ℕ) → new i ≡ cond (is_in_row (get_or rows n 0) first end i) (change (now i)) (now i)) →
      RowsCounted change before new rows (n + 1) first end
  rows_counted new e i =
      e i ∙ by (is_in_row (get_or rows n 0) first end i) refl
      ∙ ap (λ b. cond b (change (before i)) (before i)) (sym (one_row_more rows n first end i l))
    where
      or_false : (a : Bool) → a ≡ (a || false)
      or_false true = refl
      or_false false = refl

      by : (b : Bool) → is_in_row (get_or rows n 0) first end i ≡ b →
          cond b (change (now i)) (now i)
          ≡ cond (is_on_rows (take n rows) first end i || b) (change (before i)) (before i)
      by true h = ap change (count_unchanged i h)
          ∙ ap (λ a. cond (a || true) (change (before i)) (before i)) (sym (not_yet rows n first end i differ few l h))
      by false h = s i ∙ ap (λ a. cond a (change (before i)) (before i)) (or_false (is_on_rows (take n rows) first end i))
