-- Fronts: what begins with them, and where they end.
use Rattle.std.proofs.Common.{◌≡◌, refl, sym, ◌∙◌, ap, ℕ, zero, suc, ◌+◌, ◌-◌, ◌<◌, ◌≤◌, nat_eq, Bool, true, false, ◌&&◌, ◌||◌, List, [], ◌∷◌, ◌++◌, length, take, get_or, Some, None, arith}
use Rattle.std.specs.List.{list_any, AllByRecursion}
use Rattle.std.specs.Cmp.Lexicographic.{pointwise}
use Rattle.std.specs.Cmp.{nat_eq_equiv}
use Rattle.std.specs.FinSet.{contains, insert}
use Rattle.std.proofs.lemmas.Bool.{and_parts, and_right, false≢true}
use Rattle.std.proofs.lemmas.List.{take_more}
use Rattle.std.proofs.lemmas.List.Folds.{list_any-append}
use Rattle.eon_model.specs.Lists.{has_number}
use Rattle.eon_model.specs.Network.{Network, Fibre}
use Rattle.eon_model.specs.Route.{Route, km_of}
use Rattle.eon_model.specs.Sets.{NumberSet, has_member}
use Rattle.eon_model.specs.Deviations.{begins_with, is_front, leads_to, next_node, passed}
use Rattle.eon_model.proofs.SetLaws.{member-insert}
use Rattle.eon_model.proofs.DeviationOrder.{km-append}
use Rattle.route_list.specs.Distance.{km_at}
use Rattle.route_list.specs.Fronts.{leads_by}

-- ---- what begins with a front

pub front-starts : (front fibres : List ℕ) → length front < length fibres →
    pointwise nat_eq front (take (length front) fibres) ≡ is_front front fibres
front-starts [] [] l = absurd (omega (arith, l))
front-starts [] (y ∷ ys) l = refl
front-starts (x ∷ xs) [] l = absurd (omega (arith, l))
front-starts (x ∷ xs) (y ∷ ys) l = ap (λ b. nat_eq x y && b) (front-starts xs ys (omega (arith, l)))

pub front-long : (front fibres : List ℕ) → length fibres ≤ length front → is_front front fibres ≡ false
front-long [] [] l = refl
front-long [] (y ∷ ys) l = absurd (omega (arith, l))
front-long (x ∷ xs) [] l = refl
front-long (x ∷ xs) (y ∷ ys) l = and_right (nat_eq x y) _ (front-long xs ys (omega (arith, l)))

pub front-shorter : (front fibres : List ℕ) → is_front front fibres ≡ true → length front < length fibres
front-shorter [] [] h = absurd (false≢true h)
front-shorter [] (y ∷ ys) h = omega arith
front-shorter (x ∷ xs) [] h = absurd (false≢true h)
front-shorter (x ∷ xs) (y ∷ ys) h =
    let more = front-shorter xs ys (and_parts (nat_eq x y) (is_front xs ys) h).1 in omega (arith, more)

and_false : (a b c : Bool) → (a && b) ≡ false → (b ≡ false → c ≡ false) → (a && c) ≡ false
and_false true b c h f = f h
and_false false b c h f = refl

pub next-none : (front fibres : List ℕ) (i : ℕ) → is_front front fibres ≡ false →
    begins_with (front ++ i ∷ []) fibres ≡ false
next-none [] [] i h = refl
next-none [] (y ∷ ys) i h = absurd (false≢true (sym h))
next-none (x ∷ xs) [] i h = refl
next-none (x ∷ xs) (y ∷ ys) i h = and_false (nat_eq x y) (is_front xs ys) _ h (next-none xs ys i)

and-true : (b : Bool) → (b && true) ≡ b
and-true true = refl
and-true false = refl

pub next-some : (front fibres : List ℕ) (i d : ℕ) → is_front front fibres ≡ true →
    begins_with (front ++ i ∷ []) fibres ≡ nat_eq i (get_or fibres (length front) d)
next-some [] [] i d h = absurd (false≢true h)
next-some [] (y ∷ ys) i d h = and-true (nat_eq i y)
next-some (x ∷ xs) [] i d h = absurd (false≢true h)
next-some (x ∷ xs) (y ∷ ys) i d h =
    let p = and_parts (nat_eq x y) (is_front xs ys) h in
    ap (λ b. b && begins_with (xs ++ i ∷ []) ys) p.0 ∙ next-some xs ys i d p.1

pub small-at : (n : ℕ) (is : List ℕ) (k d : ℕ) → AllByRecursion (λ i. i < n) is → k < length is → get_or is k d < n
small-at n [] k d a l = absurd (omega (arith, l))
small-at n (i ∷ is) zero d a l = a.0
small-at n (i ∷ is) (suc k) d a l = small-at n is k d a.1 (omega (arith, l))

-- ---- the fibres that are used

or_swap : (a b : Bool) → (a || b) ≡ (b || a)
or_swap true true = refl
or_swap true false = refl
or_swap false true = refl
or_swap false false = refl

pub member-with : (used : NumberSet) (k i : ℕ) → has_member (insert used k) i ≡ (has_member used i || leads_by i (Some k))
member-with used k i = member-insert used k i ∙ or_swap (nat_eq i k) (has_member used i)

or_none : (b : Bool) → (b || false) ≡ b
or_none true = refl
or_none false = refl

pub member-without : (used : NumberSet) (i : ℕ) → has_member used i ≡ (has_member used i || leads_by i None)
member-without used i = sym (or_none (has_member used i))

or_assoc : (a b c : Bool) → ((a || b) || c) ≡ (a || (b || c))
or_assoc true b c = refl
or_assoc false b c = refl

-- one route more
pub used-more : (test : Route → Bool) (found : List Route) (j : ℕ) (r : Route) (before now banned : Bool) →
    j < length found → before ≡ (banned || list_any test (take j found)) →
    now ≡ (before || test (get_or found j r)) → now ≡ (banned || list_any test (take (j + 1) found))
used-more test found j r before now banned l e h =
    h ∙ ap (λ b. b || test (get_or found j r)) e
    ∙ or_assoc banned (list_any test (take j found)) (test (get_or found j r))
    ∙ ap (λ b. banned || b) (ap (λ b. list_any test (take j found) || b) (sym (or_none (test (get_or found j r))))
    ∙ sym (list_any-append test (take j found) (get_or found j r ∷ []))
    ∙ ap (list_any test) (sym (take_more found j r l)))

pub numbers-at : (found : List Route) (j : ℕ) (r : Route) →
    AllByRecursion (λ q. AllByRecursion (λ i. i < 128) q.fibres) found → j < length found →
    AllByRecursion (λ i. i < 128) (get_or found j r).fibres
numbers-at [] j r a l = absurd (omega (arith, l))
numbers-at (q ∷ qs) zero r a l = a.0
numbers-at (q ∷ qs) (suc j) r a l = numbers-at qs j r a.1 (omega (arith, l))

-- ---- where a front ends

pub leads-past : (fibres : List Fibre) (s : ℕ) (front : List ℕ) (i : ℕ) →
    leads_to fibres s (front ++ i ∷ []) ≡ next_node fibres (leads_to fibres s front) i
leads-past fibres s [] i = refl
leads-past fibres s (x ∷ xs) i = leads-past fibres (next_node fibres s x) xs i

pub passed-past : (fibres : List Fibre) (s : ℕ) (front : List ℕ) (i : ℕ) →
    passed fibres s (front ++ i ∷ []) ≡ passed fibres s front ++ leads_to fibres s front ∷ []
passed-past fibres s [] i = refl
passed-past fibres s (x ∷ xs) i = ap (λ ns. s ∷ ns) (passed-past fibres (next_node fibres s x) xs i)

pub member-passed : (set : NumberSet) (before : List ℕ) (node n : ℕ) →
    ((n : ℕ) → has_member set n ≡ has_number before n) →
    has_member (insert set node) n ≡ has_number (before ++ node ∷ []) n
member-passed set before node n h =
    member-insert set node n ∙ or_swap (nat_eq n node) (contains set n)
    ∙ (λ k. h n k || nat_eq_equiv.symm n node k) ∙ ap (λ b. has_number before n || b) (sym (or_none (nat_eq node n)))
    ∙ sym (list_any-append (λ k. nat_eq k n) before (node ∷ []))

pub left-past : (net : Network) (front : List ℕ) (i max_km left : ℕ) → left ≡ max_km - km_of net front →
    left - km_at net i ≡ max_km - km_of net (front ++ i ∷ [])
left-past net front i max_km left e = let s = km-append net front (i ∷ []) in omega (arith, e, s)
