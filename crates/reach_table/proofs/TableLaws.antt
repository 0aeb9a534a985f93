-- A row at the end of a table.
use Rattle.std.proofs.Common.{◌≡◌, refl, sym, ◌∙◌, ap, ℕ, zero, suc, ◌+◌, ◌-◌, ◌*◌, ◌/◌, ◌%◌, ◌<◌, ◌≤◌, min, Bool, true, false, cond, ◌&&◌, ◌||◌, List, [], ◌∷◌, ◌++◌, length, Some, arith}
use Rattle.std.specs.Prelude.{nat_le, not, slice_get}
use Rattle.std.specs.Option.{option_map, option_and_then}
use Rattle.std.proofs.lemmas.Nat.{div-mul-add, div-add-mod'}
use Rattle.eon_model.specs.Numerals.{is_within}
use Rattle.std.specs.List.{list_all, list_any}
use Rattle.std.proofs.lemmas.Bool.{and_parts, and_from, leb-true, le-leb}
use Rattle.std.proofs.lemmas.List.{length-append}
use Rattle.std.proofs.lemmas.List.Folds.{list_all-append}
use Rattle.eon_model.specs.Names.{Name, same_name, has_name, differ, is_name}
use Rattle.eon_model.specs.Formats.{Format, format_for, div_ceil, need}
use Rattle.eon_model.specs.NetworkText.{is_format, is_table}
use Rattle.eon_model.proofs.NameLaws.{names_equal}
use Rattle.reach_table.specs.Tables.{FormatTable, format_names, are_rows, is_format_table}

pub has_name-map : (rows : List Format) (name : Name) →
    has_name (format_names rows) name ≡ list_any (λ f. same_name name f.name) rows
has_name-map [] name = refl
has_name-map (f ∷ rows) name = ap (λ b. same_name name f.name || b) (has_name-map rows name)

not_or : (a b : Bool) → not (a || b) ≡ (not a && not b)
not_or true b = refl
not_or false b = refl

-- no name of these is x
unlike : (names : List Name) (x : Name) → list_all (λ a. not (same_name a x)) names ≡ not (has_name names x)
unlike [] x = refl
unlike (a ∷ names) x =
    (λ i. not (names_equal.symm a x i) && unlike names x i) ∙ sym (not_or (same_name x a) (has_name names x))

-- names to which one more is added
differ_push : (names : List Name) (x : Name) → differ (names ++ x ∷ []) ≡ (differ names && not (has_name names x))
differ_push [] x = refl
differ_push (a ∷ names) x =
    (λ i. list_all-append (λ b. not (same_name a b)) names (x ∷ []) i && differ_push names x i)
    ∙ ap (λ b. (list_all (λ b. not (same_name a b)) names && b) && (differ names && not (has_name names x))) (and_one (not (same_name a x)))
    ∙ swap (list_all (λ b. not (same_name a b)) names) (not (same_name a x)) (differ names) (not (has_name names x))
    ∙ ap (λ b. (list_all (λ b. not (same_name a b)) names && differ names) && b)
    (ap (λ b. not b && not (has_name names x)) (names_equal.symm a x) ∙ sym (not_or (same_name x a) (has_name names x)))
  where
    and_one : (b : Bool) → (b && true) ≡ b
    and_one true = refl
    and_one false = refl

    swap : (a b c d : Bool) → ((a && b) && (c && d)) ≡ ((a && c) && (b && d))
    swap true true c d = refl
    swap true false true d = refl
    swap true false false d = refl
    swap false b c d = refl

map_push : (rows : List Format) (f : Format) → format_names (rows ++ f ∷ []) ≡ format_names rows ++ f.name ∷ []
map_push [] f = refl
map_push (g ∷ rows) f = ap (λ names. g.name ∷ names) (map_push rows f)

-- a table with one more row
pub push_row : (rows : List Format) (guard : ℕ) (f : Format) →
    is_format_table (record { rows = rows; guard = guard }) ≡ true → ¬ (length rows ≡ 64) →
    is_format f ≡ true → has_name (format_names rows) f.name ≡ false →
    is_format_table (record { rows = rows ++ f ∷ []; guard = guard }) ≡ true
push_row rows guard f h room good new =
    let whole = and_parts (are_rows rows) (nat_le guard 64) h in
    let parts = and_parts (nat_le (length rows) 64 && list_all is_format rows) (differ (format_names rows)) whole.0 in
    let front = and_parts (nat_le (length rows) 64) (list_all is_format rows) parts.0 in
    let few : length rows ≤ 64 = leb-true (length rows) 64 front.0 in
    let one : length (rows ++ f ∷ []) ≡ length rows + 1 = length-append rows (f ∷ []) in
    and_from _ _
    (and_from _ _
    (and_from _ _ (le-leb (length (rows ++ f ∷ [])) 64 (omega (arith, one, few, room)))
    (list_all-append is_format rows (f ∷ []) ∙ and_from _ _ front.1 (and_from _ _ good refl)))
    (ap differ (map_push rows f) ∙ differ_push (format_names rows) f.name
    ∙ and_from _ _ parts.1 (ap not new)))
    whole.1

-- the rows of a table are in range
pub rows_in_range : (t : FormatTable) → is_format_table t ≡ true → list_all is_format t.rows ≡ true
rows_in_range t h =
    let whole = and_parts (are_rows t.rows) (nat_le t.guard 64) h in
    let parts = and_parts (nat_le (length t.rows) 64 && list_all is_format t.rows) (differ (format_names t.rows)) whole.0 in
    (and_parts (nat_le (length t.rows) 64) (list_all is_format t.rows) parts.0).1

pub format_in_range : (f : Format) (name : Name) → is_name name ≡ true → name ≡ f.name → 1 ≤ f.reach →
    f.reach ≤ 100000 → 1 ≤ f.per → f.per ≤ 10000 → is_format f ≡ true
format_in_range f name h is a b c d =
    and_from _ _
    (and_from _ _ (sym (ap is_name is) ∙ h) (and_from _ _ (le-leb 1 f.reach a) (le-leb f.reach 100000 b)))
    (and_from _ _ (le-leb 1 f.per c) (le-leb f.per 10000 d))

-- a table after a call that may have added a row
pub push_if : (t : FormatTable) (before after : List Format) (guard : ℕ) (f : Format) (pushed : Bool) →
    (let u : FormatTable = record { rows = before; guard = guard } in u) ≡ t →
    is_format_table (record { rows = before; guard = guard }) ≡ true → ¬ (length t.rows ≡ 64) →
    is_format f ≡ true → has_name (format_names t.rows) f.name ≡ false →
    after ≡ cond pushed (before ++ f ∷ []) before →
    is_format_table (record { rows = after; guard = guard }) ≡ true
push_if t before after guard f true same h room good new is =
    ap (λ rows. is_format_table (record { rows = rows; guard = guard })) is
    ∙ push_row before guard f h (λ e. room (sym (ap (λ u. length u.rows) same) ∙ e)) good
    (ap (λ u. has_name (format_names u.rows) f.name) same ∙ new)
push_if t before after guard f false same h room good new is =
    ap (λ rows. is_format_table (record { rows = rows; guard = guard })) is ∙ h

pub positive_per : (f : Format) → is_format f ≡ true → 0 < f.per
positive_per f h =
    let parts = and_parts (is_name f.name && is_within 1 100000 f.reach) (is_within 1 10000 f.per) h in
    leb-true 1 f.per (and_parts (nat_le 1 f.per) (nat_le f.per 10000) parts.1).0

-- ---- the slot width of a rate

rounded_up : (a b q r : ℕ) → 0 < b → r < b → a ≡ q * b + r → q + min 1 r ≡ (a + b - 1) / b
rounded_up a b q zero some less is =
    let e : a + b - 1 ≡ q * b + (b - 1) = omega (arith, is, some) in
    let one : q + min 1 0 ≡ q = omega arith in
    one ∙ sym (ap (λ n. n / b) e ∙ div-mul-add q b (b - 1) (omega (arith, some)))
rounded_up a b q (suc r) some less is =
    let e : a + b - 1 ≡ (q + 1) * b + r = omega (arith, is, some) in
    let one : q + min 1 (suc r) ≡ q + 1 = omega arith in
    one ∙ sym (ap (λ n. n / b) e ∙ div-mul-add (q + 1) b r (omega (arith, less)))

ceil_is : (a b : ℕ) → 0 < b → a / b + min 1 (a % b) ≡ div_ceil a b
ceil_is a b some = rounded_up a b (a / b) (a % b) some (omega (arith, some)) (sym (div-add-mod' a b))

-- the width, from the row that was picked
pub need_is : (rows : List Format) (guard rate km i width : ℕ) (x : Format) →
    option_and_then (λ k. slice_get rows k) (Some i) ≡ format_for rows km → slice_get rows i ≡ Some x →
    0 < x.per → width ≡ rate / x.per + min 1 (rate % x.per) →
    Some (width + guard) ≡ need rows guard rate km
need_is rows guard rate km i width x picked is some rounded =
    ap (λ w. Some (w + guard)) (rounded ∙ ceil_is rate x.per some)
    ∙ ap (option_map (λ f. div_ceil rate f.per + guard)) (sym is ∙ picked)

-- ---- what a table's invariant says of a setup

-- the rows of a table that has some are those of a network text
pub table_has_text : (t : FormatTable) → is_format_table t ≡ true → 1 ≤ length t.rows → is_table t.rows ≡ true
table_has_text t h some =
    let whole = and_parts (are_rows t.rows) (nat_le t.guard 64) h in
    let parts = and_parts (nat_le (length t.rows) 64 && list_all is_format t.rows) (differ (format_names t.rows)) whole.0 in
    let front = and_parts (nat_le (length t.rows) 64) (list_all is_format t.rows) parts.0 in
    and_from _ _ (and_from _ _ (and_from _ _ (le-leb 1 (length t.rows) some) front.0) front.1) parts.1

pub guard_in_range : (t : FormatTable) → is_format_table t ≡ true → t.guard ≤ 64
guard_in_range t h = leb-true t.guard 64 (and_parts (are_rows t.rows) (nat_le t.guard 64) h).1
