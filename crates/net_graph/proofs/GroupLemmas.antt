-- The numbers of the fibres that a group names.
use Rattle.std.proofs.Common.{◌≡◌, refl, sym, ◌∙◌, ap, inl, inr, ℕ, zero, suc, ◌+◌, ◌<◌, ◌≤◌, nat_lt, nat_le, Bool, true, false, cond, ◌||◌, not, List, [], ◌∷◌, ◌++◌, length, map, take, get_or, Option, Some, None, arith, All}
use Rattle.std.specs.Option.{is_none, is_some, option_map_or}
use Rattle.std.specs.List.{list_any, list_all, filter_map, cons_option, prefix_len, AllByRecursion}
use Rattle.std.specs.declared.cmp.Ordering.TheVariants.{Less, Equal}
use Rattle.std.specs.Cmp.{tied_itself}
use Rattle.std.specs.Cmp.Lexicographic.{nat_list_cmp_total}
use Rattle.std.proofs.lemmas.Bool.{and_parts, and_from, or_left, or_right, or_parts, cases_lt, cases_eq, lt-ltb, le-ltb, false≢true}
use Rattle.std.proofs.lemmas.List.{take_more}
use Rattle.std.proofs.lemmas.List.Elements.{filter_map-append}
use Rattle.std.proofs.lemmas.List.Folds.{list_any-append}
use Rattle.std.proofs.lemmas.List.Quantifiers.{position-Some}
use Rattle.std.proofs.lemmas.Option.{slice_get-get_or}
use Rattle.eon_model.specs.Names.{Name, name_cmp, is_above, same_name, has_name, ascend}
use Rattle.eon_model.specs.Lists.{numbers_ascend}
use Rattle.eon_model.specs.Network.{Group, number_of}
use Rattle.eon_model.proofs.Members.{map-itself}
use Rattle.eon_model.proofs.NumberLaws.{same-name, lt-less}
use Rattle.net_graph.specs.declared.graph.FibreRow.{FibreRow}
use Rattle.net_graph.specs.Graph.{holders}
use Rattle.net_graph.specs.Rows.{count_at, some_full_row, row_names, CountsGroups}
use Rattle.net_graph.proofs.NameOrder.{key_less}
use Rattle.net_graph.proofs.FaultLemmas.{number-below}
use Rattle.net_graph.proofs.RouteSums.{each_known}

or-false : (b : Bool) → (b || false) ≡ b
or-false true = refl
or-false false = refl

-- ---- tests along a list

pub any_at : {X : Type 0} (p : X → Bool) (xs : List X) (j : ℕ) (d : X) → p (get_or xs j d) ≡ true →
    j < length xs → list_any p xs ≡ true
any_at p [] j d h l = absurd (omega arith)
any_at p (x ∷ xs) zero d h l = or_left (p x) (list_any p xs) h
any_at p (x ∷ xs) (suc j) d h l = or_right (p x) (list_any p xs) (any_at p xs j d h (omega arith))

pub none_more : {X : Type 0} (p : X → Bool) (xs : List X) (j : ℕ) (d : X) → j < length xs →
    list_any p (take j xs) ≡ false → p (get_or xs j d) ≡ false → list_any p (take (j + 1) xs) ≡ false
none_more p xs j d l before here =
    ap (list_any p) (take_more xs j d l) ∙ list_any-append p (take j xs) (get_or xs j d ∷ [])
    ∙ (λ i. before i || (here i || false))

pub count_at-read : (rows : List FibreRow) (i : ℕ) (d : FibreRow) → i < length rows →
    count_at rows i ≡ (get_or rows i d).groups
count_at-read rows i d l = ap (λ o. option_map_or (λ (r : FibreRow). r.groups) o 0) (slice_get-get_or rows i d l)

pub numbers_more : (names fibres : List Name) (j k : ℕ) (d : Name) → j < length fibres →
    Some k ≡ number_of names (get_or fibres j d) →
    filter_map (number_of names) (take (j + 1) fibres)
    ≡ filter_map (number_of names) (take j fibres) ++ k ∷ []
numbers_more names fibres j k d l found =
    let h = number_of names in
    ap (filter_map h) (take_more fibres j d l) ∙ filter_map-append h (take j fibres) (get_or fibres j d ∷ [])
    ∙ ap (λ o. filter_map h (take j fibres) ++ cons_option o []) (sym found)

-- ---- the name of a fibre

found_by : (p : Name → Bool) (names : List Name) (b : Bool) (x : Name) → p x ≡ b →
    nat_lt (prefix_len (λ n. not (p n)) names) (length names) ≡ list_any p names →
    nat_lt (cond (not b) (1 + prefix_len (λ n. not (p n)) names) 0) (length (x ∷ names))
    ≡ (b || list_any p names)
found_by p names true x e h = lt-ltb 0 (length (x ∷ names)) (omega arith)
found_by p names false x e h =
    elim (cases_lt (prefix_len (λ n. not (p n)) names) (length names)) [
      | inl near ↦ lt-ltb _ (length (x ∷ names)) (omega arith) ∙ sym (lt-ltb _ _ near) ∙ h
      | inr far ↦ le-ltb _ (length (x ∷ names)) (omega arith) ∙ sym (le-ltb _ _ far) ∙ h
    ]

found_any : (p : Name → Bool) (names : List Name) →
    nat_lt (prefix_len (λ n. not (p n)) names) (length names) ≡ list_any p names
found_any p [] = le-ltb 0 0 (omega arith)
found_any p (x ∷ names) = found_by p names (p x) x refl (found_any p names)

is_some-cond : (b : Bool) (i : ℕ) → is_some (cond b (Some i) None) ≡ b
is_some-cond true i = refl
is_some-cond false i = refl

-- a name has a number where it is one of the names
pub has_number_of : (names : List Name) (a : Name) → is_some (number_of names a) ≡ has_name names a
has_number_of names a = is_some-cond _ _ ∙ found_any (same_name a) names

-- ---- the numbers

numbers_by : (names fibres : List Name) (o : Option ℕ) (f : Name) → o ≡ number_of names f →
    AllByRecursion (λ i. i < length names) (filter_map (number_of names) fibres) →
    AllByRecursion (λ i. i < length names) (cons_option o (filter_map (number_of names) fibres))
numbers_by names fibres None f e more = more
numbers_by names fibres (Some i) f e more = (number-below names f i e, more)

pub numbers_below : (names fibres : List Name) →
    AllByRecursion (λ i. i < length names) (filter_map (number_of names) fibres)
numbers_below names [] = tt
numbers_below names (f ∷ fibres) =
    numbers_by names fibres (number_of names f) f refl (numbers_below names fibres)

pub numbers_known : (names fibres : List Name) →
    All (λ i. i < length names) (filter_map (number_of names) fibres)
numbers_known names fibres = each_known (length names) _ (numbers_below names fibres)

number_less : (names : List Name) (a b : Name) (i j : ℕ) → ascend names ≡ true →
    Some i ≡ number_of names a → Some j ≡ number_of names b → is_above b a ≡ true → i < j
number_less names a b i j up in_a in_b above =
    let low : name_cmp a b ≡ Less = lt-less (name_cmp a b) above in
    let at_a = position-Some (same_name a) names i [] (sym in_a) in
    let at_b = position-Some (same_name b) names j [] (sym in_b) in
    let one : a ≡ get_or names i [] = same-name a (get_or names i []) at_a.1 in
    let two : b ≡ get_or names j [] = same-name b (get_or names j []) at_b.1 in
    let itself : name_cmp a a ≡ Equal = tied_itself nat_list_cmp_total a in
    elim (cases_lt i j) [
      | inl less ↦ less
      | inr more ↦ elim (cases_eq i j) [
        | inl same ↦
            let ab : a ≡ b = one ∙ ap (λ n. get_or names n []) same ∙ sym two in
            let e : Less ≡ Equal = sym low ∙ ap (name_cmp a) (sym ab) ∙ itself in
            cc
        | inr apart ↦
            let all : ascend (map (λ (x : Name). x) names) ≡ true = ap ascend (map-itself names) ∙ up in
            let back : name_cmp b a ≡ Less =
            (λ k. name_cmp (two k) (one k))
            ∙ key_less (λ (x : Name). x) names j i [] all (omega arith) (omega (arith, at_a.0)) in
            let e : Less ≡ Equal = sym (nat_list_cmp_total.trans a b a low back) ∙ itself in
            cc
      ]
    ]

above_by : (names fibres : List Name) (a : Name) (i : ℕ) (f : Name) (o : Option ℕ) → ascend names ≡ true →
    Some i ≡ number_of names a → o ≡ number_of names f → is_above f a ≡ true →
    list_all (nat_lt i) (filter_map (number_of names) fibres) ≡ true →
    list_all (nat_lt i) (cons_option o (filter_map (number_of names) fibres)) ≡ true
above_by names fibres a i f None up in_a e above more = more
above_by names fibres a i f (Some j) up in_a e above more =
    and_from (nat_lt i j) _ (lt-ltb i j (number_less names a f i j up in_a e above)) more

all_above_number : (names fibres : List Name) (a : Name) (i : ℕ) → ascend names ≡ true →
    Some i ≡ number_of names a → list_all (λ b. is_above b a) fibres ≡ true →
    list_all (nat_lt i) (filter_map (number_of names) fibres) ≡ true
all_above_number names [] a i up in_a h = refl
all_above_number names (f ∷ fibres) a i up in_a h =
    let parts = and_parts (is_above f a) (list_all (λ b. is_above b a) fibres) h in
    above_by names fibres a i f (number_of names f) up in_a refl parts.0
    (all_above_number names fibres a i up in_a parts.1)

rise_by : (names fibres : List Name) (f : Name) (o : Option ℕ) → ascend names ≡ true →
    o ≡ number_of names f → list_all (λ b. is_above b f) fibres ≡ true →
    numbers_ascend (filter_map (number_of names) fibres) ≡ true →
    numbers_ascend (cons_option o (filter_map (number_of names) fibres)) ≡ true
rise_by names fibres f None up e h more = more
rise_by names fibres f (Some i) up e h more =
    and_from (list_all (nat_lt i) (filter_map (number_of names) fibres)) _
    (all_above_number names fibres f i up e h) more

-- fibres in the order of names are in the order of numbers
pub numbers_rise : (names fibres : List Name) → ascend names ≡ true → ascend fibres ≡ true →
    numbers_ascend (filter_map (number_of names) fibres) ≡ true
numbers_rise names [] up h = refl
numbers_rise names (f ∷ fibres) up h =
    let parts = and_parts (list_all (λ b. is_above b f) fibres) (ascend fibres) h in
    rise_by names fibres f (number_of names f) up refl parts.0 (numbers_rise names fibres up parts.1)

some_by : (rest : List ℕ) (o : Option ℕ) → is_none o ≡ false → 1 ≤ length (cons_option o rest)
some_by rest None e = absurd (false≢true (sym e))
some_by rest (Some i) e = omega arith

-- the first of them is found
pub some_number : (names fibres : List Name) → 0 < length fibres →
    list_any (λ f. is_none (number_of names f)) fibres ≡ false →
    1 ≤ length (filter_map (number_of names) fibres)
some_number names [] l h = absurd (omega arith)
some_number names (f ∷ fibres) l h =
    some_by (filter_map (number_of names) fibres) (number_of names f)
    (or_parts (is_none (number_of names f)) (list_any (λ g. is_none (number_of names g)) fibres) h).0

-- ---- fibres in eight groups

full_by : (rows : List FibreRow) (groups : List Group) (numbers : List ℕ) → CountsGroups rows groups →
    ((k d : ℕ) → k < length numbers → get_or numbers k d < length rows) →
    some_full_row rows numbers ≡ list_any (λ i. nat_le 8 (holders groups i)) numbers
full_by [] groups [] counts known = refl
full_by (r ∷ rows) groups [] counts known = refl
full_by [] groups (i ∷ numbers) counts known = let l = known 0 0 (omega arith) in absurd (omega arith)
full_by (r ∷ rows) groups (i ∷ numbers) counts known =
    let here : i < length (r ∷ rows) = known 0 0 (omega arith) in
    let same : count_at (r ∷ rows) i ≡ holders groups i =
    count_at-read (r ∷ rows) i r here ∙ counts.at i r here in
    λ k. nat_le 8 (same k)
    || full_by (r ∷ rows) groups numbers counts (λ j d l. known (suc j) d (omega arith)) k

pub full_same : (rows : List FibreRow) (groups : List Group) (numbers : List ℕ) → CountsGroups rows groups →
    All (λ i. i < length rows) numbers →
    some_full_row rows numbers ≡ list_any (λ i. nat_le 8 (holders groups i)) numbers
full_same = full_by

length_row_names : (rows : List FibreRow) → length (row_names rows) ≡ length rows
length_row_names [] = refl
length_row_names (r ∷ rows) = let more = length_row_names rows in omega arith

pub numbers_within : (rows : List FibreRow) (fibres : List Name) (numbers : List ℕ) →
    numbers ≡ filter_map (number_of (row_names rows)) fibres → All (λ i. i < length rows) numbers
numbers_within rows fibres numbers is k d l =
    let e = ap (λ ns. get_or ns k d) is in
    let long = ap length is in
    omega (arith, e, length_row_names rows, numbers_known (row_names rows) fibres k d (omega (arith, long)))
