-- Names in ascending order: one more name, and binary search.
use Rattle.std.proofs.Common.{◌≡◌, refl, sym, ◌∙◌, ap, subst, inl, inr, ℕ, zero, suc, ◌+◌, ◌-◌, ◌<◌, ◌≤◌, Bool, true, false, ◌&&◌, List, [], ◌∷◌, ◌++◌, length, map, take, drop, get_or, slice_get, Option, Some, None, Ok, Err, arith}
use Rattle.std.specs.List.{list_all, position, AllWithin}
use Rattle.std.specs.List.Sorted.{IsBinarySearchResult, IsNonDecreasingBy}
use Rattle.std.specs.declared.cmp.Ordering.{Ordering}
use Rattle.std.specs.declared.cmp.Ordering.TheVariants.{Less, Equal, Greater}
use Rattle.std.specs.Ordering.{nat_cmp, is_lt, is_some_and, ordering_index}
use Rattle.std.specs.Cmp.{tied_itself}
use Rattle.std.specs.Cmp.Lexicographic.{slice_partial_cmp, lists_agrees, nat_list_cmp_total}
use Rattle.std.proofs.lemmas.Bool.{and_parts, and_from, cases_lt, and_right, both_ways, false_from_ne_true}
use Rattle.std.proofs.lemmas.List.{take_more, take-append-drop}
use Rattle.std.proofs.lemmas.List.Quantifiers.{position-Some}
use Rattle.eon_model.specs.Names.{Name, name_cmp, is_above, same_name, ascend}
use Rattle.eon_model.specs.Network.{name_at, number_of}
use Rattle.eon_model.proofs.Members.{map-itself}
use Rattle.eon_model.proofs.NumberLaws.{name_cmp_exact, same-name, lt-less}
use Rattle.eon_model.proofs.NamePlaceLaws.{number_of-name_at}
use Rattle.net_graph.specs.Graph.{comes_after}
use Rattle.eon_model.proofs.SetLists.{same_test}

-- bytes are compared as names are
pub bytes_below : (a b : Name) →
    is_some_and is_lt (slice_partial_cmp (λ x y. Some (nat_cmp x y)) a b) ≡ is_above b a
bytes_below a b = ap (is_some_and is_lt) (lists_agrees {R = nat_cmp} (λ x y. refl) a b)

-- ---- the last name

pub after_last : {X : Type 0} (key : X → Name) (xs : List X) (name : Name) (x : X) →
    slice_get xs (length xs - 1) ≡ Some x → comes_after (map key xs) name ≡ is_above name (key x)
after_last key [] name x e = cc
after_last key (y ∷ []) name x e = let same : y ≡ x = cc in ap (λ v. is_above name (key v)) same
after_last key (y ∷ z ∷ ys) name x e =
    let place : length (y ∷ z ∷ ys) - 1 ≡ suc (length (z ∷ ys) - 1) = omega arith in
    after_last key (z ∷ ys) name x (sym (ap (slice_get (y ∷ z ∷ ys)) place) ∙ e)

pub after_none : {X : Type 0} (key : X → Name) (xs : List X) (name : Name) →
    slice_get xs (length xs - 1) ≡ None → comes_after (map key xs) name ≡ true
after_none key [] name e = refl
after_none key (y ∷ []) name e = cc
after_none key (y ∷ z ∷ ys) name e =
    let place : length (y ∷ z ∷ ys) - 1 ≡ suc (length (z ∷ ys) - 1) = omega arith in
    after_none key (z ∷ ys) name (sym (ap (slice_get (y ∷ z ∷ ys)) place) ∙ e)

-- ---- one more name

above_trans : (a b c : Name) → is_above b a ≡ true → is_above c b ≡ true → is_above c a ≡ true
above_trans a b c up more =
    ap is_lt (nat_list_cmp_total.trans a b c (lt-less (name_cmp a b) up) (lt-less (name_cmp b c) more))

above_all : (names : List Name) (x : Name) → ascend names ≡ true → comes_after names x ≡ true →
    list_all (λ a. is_above x a) names ≡ true
above_all [] x up h = refl
above_all (a ∷ []) x up h = and_from (is_above x a) true h refl
above_all (a ∷ b ∷ names) x up h =
    let parts = and_parts (list_all (λ y. is_above y a) (b ∷ names)) (ascend (b ∷ names)) up in
    let rest = above_all (b ∷ names) x parts.1 h in
    let next = (and_parts (is_above b a) (list_all (λ y. is_above y a) names) parts.0).0 in
    let last = (and_parts (is_above x b) (list_all (λ y. is_above x y) names) rest).0 in
    and_from (is_above x a) (list_all (λ y. is_above x y) (b ∷ names)) (above_trans a b x next last) rest

after_all : (names : List Name) (x : Name) → list_all (λ a. is_above x a) names ≡ true →
    comes_after names x ≡ true
after_all [] x h = refl
after_all (a ∷ []) x h = (and_parts (is_above x a) true h).0
after_all (a ∷ b ∷ names) x h =
    after_all (b ∷ names) x (and_parts (is_above x a) (list_all (λ y. is_above x y) (b ∷ names)) h).1

pub list_all-push : {X : Type 0} (p : X → Bool) (xs : List X) (x : X) → list_all p xs ≡ true → p x ≡ true →
    list_all p (xs ++ x ∷ []) ≡ true
list_all-push p [] x all h = and_from (p x) true h refl
list_all-push p (y ∷ xs) x all h =
    let parts = and_parts (p y) (list_all p xs) all in
    and_from (p y) (list_all p (xs ++ x ∷ [])) parts.0 (list_all-push p xs x parts.1 h)

list_all-front : {X : Type 0} (p : X → Bool) (xs ys : List X) → list_all p (xs ++ ys) ≡ true →
    list_all p xs ≡ true
list_all-front p [] ys h = refl
list_all-front p (x ∷ xs) ys h =
    let parts = and_parts (p x) (list_all p (xs ++ ys)) h in
    and_from (p x) (list_all p xs) parts.0 (list_all-front p xs ys parts.1)

list_all-last : {X : Type 0} (p : X → Bool) (xs : List X) (x : X) → list_all p (xs ++ x ∷ []) ≡ true →
    p x ≡ true
list_all-last p [] x h = (and_parts (p x) true h).0
list_all-last p (y ∷ xs) x h = list_all-last p xs x (and_parts (p y) (list_all p (xs ++ x ∷ [])) h).1

ascend_more : (names : List Name) (x : Name) → ascend names ≡ true →
    list_all (λ a. is_above x a) names ≡ true → ascend (names ++ x ∷ []) ≡ true
ascend_more [] x up all = refl
ascend_more (a ∷ names) x up all =
    let parts = and_parts (list_all (λ y. is_above y a) names) (ascend names) up in
    let above = and_parts (is_above x a) (list_all (λ y. is_above x y) names) all in
    and_from (list_all (λ y. is_above y a) (names ++ x ∷ [])) (ascend (names ++ x ∷ []))
    (list_all-push (λ y. is_above y a) names x parts.0 above.0) (ascend_more names x parts.1 above.1)

pub ascend-front : (xs ys : List Name) → ascend (xs ++ ys) ≡ true → ascend xs ≡ true
ascend-front [] ys h = refl
ascend-front (x ∷ xs) ys h =
    let parts = and_parts (list_all (λ y. is_above y x) (xs ++ ys)) (ascend (xs ++ ys)) h in
    and_from (list_all (λ y. is_above y x) xs) (ascend xs)
    (list_all-front (λ y. is_above y x) xs ys parts.0) (ascend-front xs ys parts.1)

ascend-above : (names : List Name) (x : Name) → ascend (names ++ x ∷ []) ≡ true →
    list_all (λ a. is_above x a) names ≡ true
ascend-above [] x h = refl
ascend-above (a ∷ names) x h =
    let parts = and_parts (list_all (λ y. is_above y a) (names ++ x ∷ [])) (ascend (names ++ x ∷ [])) h in
    and_from (is_above x a) (list_all (λ y. is_above x y) names)
    (list_all-last (λ y. is_above y a) names x parts.0) (ascend-above names x parts.1)

-- names and one more ascend where it comes after them
pub ascend-push : (names : List Name) (x : Name) →
    ascend (names ++ x ∷ []) ≡ (ascend names && comes_after names x)
ascend-push names x = same_test _ _
    (λ h. and_from (ascend names) (comes_after names x) (ascend-front names (x ∷ []) h)
    (after_all names x (ascend-above names x h)))
    (λ h. let parts = and_parts (ascend names) (comes_after names x) h in
    ascend_more names x parts.0 (above_all names x parts.0 parts.1))

-- ---- binary search

index_small : (o : Ordering) → ordering_index o ≤ 2
index_small Less = omega arith
index_small Equal = omega arith
index_small Greater = omega arith

rank_by : (a b n : Name) (o : Ordering) → name_cmp a b ≡ Less → name_cmp b n ≡ o →
    ordering_index (name_cmp a n) ≤ ordering_index o
rank_by a b n Less l e =
    let low : ordering_index (name_cmp a n) ≡ 0 = ap ordering_index (nat_list_cmp_total.trans a b n l e) in
    omega arith
rank_by a b n Equal l e =
    let same : b ≡ n = name_cmp_exact b n e in
    let low : ordering_index (name_cmp a n) ≡ 0 = ap ordering_index
    (subst (λ (v : Name). name_cmp a v ≡ Less) same l) in
    omega arith
rank_by a b n Greater l e = index_small (name_cmp a n)

below_at : {X : Type 0} (key : X → Name) (a : Name) (xs : List X) (j : ℕ) (d : X) →
    list_all (λ y. is_above y a) (map key xs) ≡ true → j < length xs →
    name_cmp a (key (get_or xs j d)) ≡ Less
below_at key a [] j d h l = absurd (omega arith)
below_at key a (x ∷ xs) zero d h l =
    lt-less _ (and_parts (is_above (key x) a) (list_all (λ y. is_above y a) (map key xs)) h).0
below_at key a (x ∷ xs) (suc j) d h l =
    below_at key a xs j d (and_parts (is_above (key x) a) (list_all (λ y. is_above y a) (map key xs)) h).1
    (omega arith)

pub key_less : {X : Type 0} (key : X → Name) (xs : List X) (i j : ℕ) (d : X) → ascend (map key xs) ≡ true →
    i < j → j < length xs → name_cmp (key (get_or xs i d)) (key (get_or xs j d)) ≡ Less
key_less key [] i j d up l m = absurd (omega arith)
key_less key (x ∷ xs) i zero d up l m = absurd (omega arith)
key_less key (x ∷ xs) zero (suc j) d up l m =
    below_at key (key x) xs j d
    (and_parts (list_all (λ y. is_above y (key x)) (map key xs)) (ascend (map key xs)) up).0 (omega arith)
key_less key (x ∷ xs) (suc i) (suc j) d up l m =
    key_less key xs i j d
    (and_parts (list_all (λ y. is_above y (key x)) (map key xs)) (ascend (map key xs)) up).1 (omega arith)
    (omega arith)

ranks_rise : {X : Type 0} (key : X → Name) (xs : List X) (n : Name) → ascend (map key xs) ≡ true →
    IsNonDecreasingBy (λ y. ordering_index (name_cmp (key y) n)) xs
ranks_rise key xs n up i j d l m =
    elim (cases_lt i j) [
      | inl less ↦
          rank_by (key (get_or xs i d)) (key (get_or xs j d)) n (name_cmp (key (get_or xs j d)) n)
          (key_less key xs i j d up less m) refl
      | inr more ↦
          let same : i ≡ j = omega arith in
          let e = ap (λ k. ordering_index (name_cmp (key (get_or xs k d)) n)) same in
          omega arith
    ]

name_at-map : {X : Type 0} (key : X → Name) (xs : List X) (i : ℕ) (d : X) → i < length xs →
    name_at (map key xs) i ≡ key (get_or xs i d)
name_at-map key [] i d l = absurd (omega arith)
name_at-map key (x ∷ xs) zero d l = refl
name_at-map key (x ∷ xs) (suc i) d l = name_at-map key xs i d (omega arith)

get_or-map_key : {X : Type 0} (key : X → Name) (xs : List X) (i : ℕ) (d : X) →
    get_or (map key xs) i (key d) ≡ key (get_or xs i d)
get_or-map_key key [] i d = refl
get_or-map_key key (x ∷ xs) zero d = refl
get_or-map_key key (x ∷ xs) (suc i) d = get_or-map_key key xs i d

length-map_key : {X : Type 0} (key : X → Name) (xs : List X) → length (map key xs) ≡ length xs
length-map_key key [] = refl
length-map_key key (x ∷ xs) = let more = length-map_key key xs in omega arith

unequal : (o : Ordering) (a n : Name) → name_cmp a n ≡ o → (o ≡ Equal → ⊥) → same_name n a ≡ true → ⊥
unequal o a n e other same =
    let one : n ≡ a = same-name n a same in
    other (sym e ∙ ap (λ v. name_cmp a v) one ∙ tied_itself nat_list_cmp_total a)

none_by : {X : Type 0} (key : X → Name) (x : X) (xs : List X) (n : Name) (o : Option ℕ) →
    position (same_name n) (map key (x ∷ xs)) ≡ o →
    ((k : ℕ) → k < length (x ∷ xs) → same_name n (key (get_or (x ∷ xs) k x)) ≡ true → ⊥) → None ≡ o
none_by key x xs n None e apart = refl
none_by key x xs n (Some i) e apart =
    let at = position-Some (same_name n) (map key (x ∷ xs)) i (key x) e in
    let long = length-map_key key (x ∷ xs) in
    absurd (apart i (omega (arith, at.0, long))
    (ap (same_name n) (sym (get_or-map_key key (x ∷ xs) i x)) ∙ at.1))

not_found : {X : Type 0} (key : X → Name) (xs : List X) (n : Name) (i : ℕ) →
    AllWithin (λ y. name_cmp (key y) n ≡ Less) xs 0 i →
    AllWithin (λ y. name_cmp (key y) n ≡ Greater) xs i (length xs) →
    None ≡ number_of (map key xs) n
not_found key [] n i below above = refl
not_found key (x ∷ xs) n i below above =
    none_by key x xs n (number_of (map key (x ∷ xs)) n) refl
    (λ k l. elim (cases_lt k i) [
      | inl less ↦ unequal Less (key (get_or (x ∷ xs) k x)) n (below k x (omega arith) less) (λ e. cc)
      | inr more ↦ unequal Greater (key (get_or (x ∷ xs) k x)) n (above k x more l) (λ e. cc)
    ])

-- what a binary search finds is the number of the name
pub found_number : {X : Type 0} (key : X → Name) (xs : List X) (n : Name) (i : ℕ) →
    ascend (map key xs) ≡ true → i < length xs →
    IsBinarySearchResult (λ y. name_cmp (key y) n) xs (Ok i) → Some i ≡ number_of (map key xs) n
found_number key [] n i up l h = absurd (omega arith)
found_number key (x ∷ xs) n i up l h =
    let long = length-map_key key (x ∷ xs) in
    let same : name_at (map key (x ∷ xs)) i ≡ n =
    name_at-map key (x ∷ xs) i x l ∙ name_cmp_exact (key (get_or (x ∷ xs) i x)) n (h x) in
    sym (sym (ap (number_of (map key (x ∷ xs))) same)
    ∙ number_of-name_at (map key (x ∷ xs)) i up (omega (arith, long)))

-- where it finds nothing, nothing has the name
pub no_number : {X : Type 0} (key : X → Name) (xs : List X) (n : Name) (i : ℕ) →
    ascend (map key xs) ≡ true → IsBinarySearchResult (λ y. name_cmp (key y) n) xs (Err i) →
    None ≡ number_of (map key xs) n
no_number key xs n i up h =
    let parts = h (ranks_rise key xs n up) in not_found key xs n i parts.0 parts.1

-- in a list that holds the names themselves
pub number_itself : (names : List Name) (n : Name) (found told : Option ℕ) →
    found ≡ number_of (map (λ x. x) names) n → found ≡ told → number_of names n ≡ told
number_itself names n found told e h = ap (λ ns. number_of ns n) (sym (map-itself names)) ∙ sym e ∙ h

-- ---- a list of names, name by name

pub ascend-taken : (names : List Name) (i : ℕ) (x : Name) → i < length names →
    ascend (take (i + 1) names) ≡ (ascend (take i names) && comes_after (take i names) (get_or names i x))
ascend-taken names i x l = ap ascend (take_more names i x l) ∙ ascend-push (take i names) (get_or names i x)

-- names whose first ones do not ascend do not
pub ascend-not : (names : List Name) (i : ℕ) (x : Name) → i < length names →
    comes_after (take i names) (get_or names i x) ≡ false → false ≡ ascend names
ascend-not names i x l out =
    let first : ascend (take (i + 1) names) ≡ false =
    ascend-taken names i x l ∙ and_right (ascend (take i names)) _ out in
    sym (false_from_ne_true (ascend names) (λ up. both_ways (ascend (take (i + 1) names)) first
    (ascend-front (take (i + 1) names) (drop (i + 1) names)
    (ap ascend (take-append-drop (i + 1) names) ∙ up))))
