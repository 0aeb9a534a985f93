-- Rows of fibres with one more group.
use Rattle.std.proofs.Common.{◌≡◌, refl, sym, ◌∙◌, ap, ℕ, zero, suc, ◌+◌, ◌<◌, nat_eq, nat_lt, Bool, true, false, cond, ◌||◌, List, [], ◌∷◌, ◌++◌, length, take, get_or, set, arith, zero-add}
use Rattle.std.specs.List.{list_all}
use Rattle.std.proofs.lemmas.Bool.{eq-eqb, ne_eqb, and_parts, or_from, or_left, or_right, ltb-true}
use Rattle.std.proofs.lemmas.List.{take_more}
use Rattle.std.proofs.lemmas.List.Folds.{list_any-append}
use Rattle.eon_model.specs.Lists.{has_number, numbers_ascend}
use Rattle.net_graph.specs.declared.graph.FibreRow.{FibreRow}
use Rattle.net_graph.specs.Rows.{row_with, rows_with, few_groups}

pub rows_with-none : (risk n : ℕ) (rows : List FibreRow) → rows_with risk [] n rows ≡ rows
rows_with-none risk n [] = refl
rows_with-none risk n (r ∷ rows) = ap (λ rs. r ∷ rs) (rows_with-none risk (n + 1) rows)

pub length-rows_with : (risk : ℕ) (numbers : List ℕ) (n : ℕ) (rows : List FibreRow) →
    length (rows_with risk numbers n rows) ≡ length rows
length-rows_with risk numbers n [] = refl
length-rows_with risk numbers n (r ∷ rows) =
    let more = length-rows_with risk numbers (n + 1) rows in omega arith

-- the row at a place
pub get_or-rows_with : (risk : ℕ) (numbers : List ℕ) (n : ℕ) (rows : List FibreRow) (i : ℕ) (d : FibreRow) →
    i < length rows → get_or (rows_with risk numbers n rows) i d
    ≡ cond (has_number numbers (n + i)) (row_with risk (get_or rows i d)) (get_or rows i d)
get_or-rows_with risk numbers n [] i d l = absurd (omega arith)
get_or-rows_with risk numbers n (r ∷ rows) zero d l =
    let here : n ≡ n + 0 = omega arith in
    ap (λ k. cond (has_number numbers k) (row_with risk r) r) here
get_or-rows_with risk numbers n (r ∷ rows) (suc i) d l =
    let there : n + 1 + i ≡ n + suc i = omega arith in
    get_or-rows_with risk numbers (n + 1) rows i d (omega arith)
    ∙ ap (λ k. cond (has_number numbers k) (row_with risk (get_or rows i d)) (get_or rows i d)) there

has_number-push : (numbers : List ℕ) (k n : ℕ) →
    has_number (numbers ++ k ∷ []) n ≡ (has_number numbers n || nat_eq k n)
has_number-push numbers k n =
    list_any-append (λ m. nat_eq m n) numbers (k ∷ [])
    ∙ ap (λ b. has_number numbers n || b) (or-false (nat_eq k n))
  where
    or-false : (b : Bool) → (b || false) ≡ b
    or-false true = refl
    or-false false = refl

-- beyond the number nothing changes
rows_past : (risk : ℕ) (numbers : List ℕ) (k n : ℕ) (rows : List FibreRow) → k < n →
    rows_with risk (numbers ++ k ∷ []) n rows ≡ rows_with risk numbers n rows
rows_past risk numbers k n [] l = refl
rows_past risk numbers k n (r ∷ rows) l =
    let same : has_number (numbers ++ k ∷ []) n ≡ has_number numbers n =
    has_number-push numbers k n ∙ ap (λ b. has_number numbers n || b) (ne_eqb k n (λ e. omega arith))
    ∙ or-false (has_number numbers n) in
    λ i. cond (same i) (row_with risk r) r ∷ rows_past risk numbers k (n + 1) rows (omega arith) i
  where
    or-false : (b : Bool) → (b || false) ≡ b
    or-false true = refl
    or-false false = refl

-- one more number changes the row at that place alone
pub rows_with-push : (risk : ℕ) (numbers : List ℕ) (n i : ℕ) (rows : List FibreRow) (d : FibreRow) →
    i < length rows → has_number numbers (n + i) ≡ false →
    rows_with risk (numbers ++ (n + i) ∷ []) n rows
    ≡ set (rows_with risk numbers n rows) i (row_with risk (get_or rows i d))
rows_with-push risk numbers n i [] d l new = absurd (omega arith)
rows_with-push risk numbers n zero (r ∷ rows) d l new =
    let here : n + 0 ≡ n = omega arith in
    let now : has_number (numbers ++ (n + 0) ∷ []) n ≡ true =
    has_number-push numbers (n + 0) n ∙ or-true (has_number numbers n) (nat_eq (n + 0) n) (eq-eqb (n + 0) n here) in
    λ j. cond (now j) (row_with risk r) r ∷ rows_past risk numbers (n + 0) (n + 1) rows (omega arith) j
  where
    or-true : (a b : Bool) → b ≡ true → (a || b) ≡ true
    or-true true b h = refl
    or-true false b h = h
rows_with-push risk numbers n (suc i) (r ∷ rows) d l new =
    let there : n + suc i ≡ n + 1 + i = omega arith in
    let apart : n + suc i ≡ n → ⊥ = λ e. omega arith in
    let same : has_number (numbers ++ (n + suc i) ∷ []) n ≡ has_number numbers n =
    has_number-push numbers (n + suc i) n
    ∙ ap (λ b. has_number numbers n || b) (ne_eqb (n + suc i) n apart)
    ∙ or-false (has_number numbers n) in
    (λ j. cond (same j) (row_with risk r) r ∷ rows_with risk (numbers ++ (there j) ∷ []) (n + 1) rows)
    ∙ ap (λ rs. cond (has_number numbers n) (row_with risk r) r ∷ rs)
    (rows_with-push risk numbers (n + 1) i rows d (omega arith)
    (ap (has_number numbers) (sym there) ∙ new))
  where
    or-false : (b : Bool) → (b || false) ≡ b
    or-false true = refl
    or-false false = refl

pub list_all-at_index : {X : Type 0} (p : X → Bool) (xs : List X) (j : ℕ) (d : X) → list_all p xs ≡ true →
    j < length xs → p (get_or xs j d) ≡ true
list_all-at_index p [] j d h l = absurd (omega arith)
list_all-at_index p (x ∷ xs) zero d h l = (and_parts (p x) (list_all p xs) h).0
list_all-at_index p (x ∷ xs) (suc j) d h l =
    list_all-at_index p xs j d (and_parts (p x) (list_all p xs) h).1 (omega arith)

-- an ascending list has none of its numbers twice
pub not_before : (numbers : List ℕ) (j : ℕ) (d : ℕ) → numbers_ascend numbers ≡ true → j < length numbers →
    has_number (take j numbers) (get_or numbers j d) ≡ false
not_before [] j d up l = absurd (omega arith)
not_before (x ∷ numbers) zero d up l = refl
not_before (x ∷ numbers) (suc j) d up l =
    let parts = and_parts (list_all (nat_lt x) numbers) (numbers_ascend numbers) up in
    let low : x < get_or numbers j d =
    ltb-true x (get_or numbers j d) (list_all-at_index (nat_lt x) numbers j d parts.0 (omega arith)) in
    or_from (nat_eq x (get_or numbers j d)) (has_number (take j numbers) (get_or numbers j d))
    (ne_eqb x (get_or numbers j d) (λ e. omega arith))
    (not_before numbers j d parts.1 (omega arith))

has_number-at : (numbers : List ℕ) (j d : ℕ) → j < length numbers →
    has_number numbers (get_or numbers j d) ≡ true
has_number-at [] j d l = absurd (omega arith)
has_number-at (x ∷ numbers) zero d l = or_left (nat_eq x x) (has_number numbers x) (eq-eqb x x refl)
has_number-at (x ∷ numbers) (suc j) d l =
    or_right (nat_eq x (get_or numbers j d)) (has_number numbers (get_or numbers j d))
    (has_number-at numbers j d (omega arith))

-- while rows are marked, the next one is as it was
pub next_row : (risk : ℕ) (numbers : List ℕ) (j : ℕ) (rows : List FibreRow) (d : FibreRow) →
    numbers_ascend numbers ≡ true → j < length numbers → get_or numbers j 0 < length rows →
    get_or (rows_with risk (take j numbers) 0 rows) (get_or numbers j 0) d ≡ get_or rows (get_or numbers j 0) d
next_row risk numbers j rows d up l m =
    let k = get_or numbers j 0 in
    let new : has_number (take j numbers) (0 + k) ≡ false =
    ap (has_number (take j numbers)) (zero-add k) ∙ not_before numbers j 0 up l in
    get_or-rows_with risk (take j numbers) 0 rows k d m
    ∙ (λ i. cond (new i) (row_with risk (get_or rows k d)) (get_or rows k d))

pub next_few : (risk : ℕ) (numbers : List ℕ) (j : ℕ) (rows : List FibreRow) (d : FibreRow) →
    numbers_ascend numbers ≡ true → j < length numbers → get_or numbers j 0 < length rows →
    few_groups numbers rows →
    (get_or (rows_with risk (take j numbers) 0 rows) (get_or numbers j 0) d).groups < 8
next_few risk numbers j rows d up l m few =
    let k = get_or numbers j 0 in
    let same = ap (λ r. r.groups) (next_row risk numbers j rows d up l m) in
    let low = few k d m (has_number-at numbers j 0 l) in
    omega arith

-- marking one more row
pub mark_more : (risk : ℕ) (numbers : List ℕ) (j : ℕ) (rows : List FibreRow) (d : FibreRow) →
    numbers_ascend numbers ≡ true → j < length numbers → get_or numbers j 0 < length rows →
    set (rows_with risk (take j numbers) 0 rows) (get_or numbers j 0)
    (row_with risk (get_or (rows_with risk (take j numbers) 0 rows) (get_or numbers j 0) d))
    ≡ rows_with risk (take (j + 1) numbers) 0 rows
mark_more risk numbers j rows d up l m =
    let k = get_or numbers j 0 in
    let place : 0 + k ≡ k = zero-add k in
    let new : has_number (take j numbers) (0 + k) ≡ false =
    ap (has_number (take j numbers)) place ∙ not_before numbers j 0 up l in
    ap (λ r. set (rows_with risk (take j numbers) 0 rows) k (row_with risk r)) (next_row risk numbers j rows d up l m)
    ∙ sym (ap (λ ns. rows_with risk ns 0 rows) (take_more numbers j 0 l)
    ∙ ap (λ n. rows_with risk (take j numbers ++ n ∷ []) 0 rows) (sym place)
    ∙ rows_with-push risk (take j numbers) 0 k rows d m new)
