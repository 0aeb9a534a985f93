-- The pool of deviations: its earliest one, and what leaves it.
use Rattle.std.proofs.Common.{◌≡◌, refl, sym, ◌∙◌, ap, inl, inr, ℕ, zero, suc, ◌+◌, ◌<◌, Bool, true, false, cond, List, [], ◌∷◌, length, map, filter, get_or, arith}
use Rattle.std.specs.List.{remove}
use Rattle.std.specs.Ordering.{is_lt}
use Rattle.std.specs.Cmp.{IsTotalOrder, on_total, then_total, nat_cmp_total, tied_itself}
use Rattle.std.specs.Cmp.Lexicographic.{nat_list_cmp_total}
use Rattle.std.proofs.lemmas.Bool.{cases_eq, false≢true, false_from_ne_true}
use Rattle.std.proofs.lemmas.List.{get_or_default}
use Rattle.eon_model.specs.Lists.{IsAmong}
use Rattle.eon_model.specs.Deviations as model
use Rattle.eon_model.specs.Route.{Route}
use Rattle.eon_model.proofs.NumberLaws.{lt-less}
use Rattle.route_list.specs.declared.deviation.Deviation.{Deviation}
use Rattle.route_list.specs.Fronts.{seen}
use Rattle.route_list.specs.Pools.{numbers_cmp, IsTakenOf}

pub numbers-total : IsTotalOrder numbers_cmp
numbers-total =
    then_total (on_total (λ (r : Route). r.km) nat_cmp_total) (on_total (λ (r : Route). r.fibres) nat_list_cmp_total)

pub not-itself : (r : Route) → is_lt (numbers_cmp r r) ≡ false
not-itself r = ap is_lt (tied_itself numbers-total r)

-- what does not come before a route does not come before one that comes before it
pub not-before_earlier : (a b r : Route) → is_lt (numbers_cmp a b) ≡ true → is_lt (numbers_cmp r b) ≡ false →
    is_lt (numbers_cmp r a) ≡ false
not-before_earlier a b r less not_less = false_from_ne_true (is_lt (numbers_cmp r a)) (λ h.
    false≢true (sym not_less
    ∙ ap is_lt (numbers-total.trans r a b (lt-less (numbers_cmp r a) h) (lt-less (numbers_cmp a b) less))))

pub filter-mapped : {X Y : Type 0} (f : X → Y) (test : Y → Bool) (xs : List X) →
    map f (filter (λ x. test (f x)) xs) ≡ filter test (map f xs)
filter-mapped f test [] = refl
filter-mapped f test (x ∷ xs) = by (test (f x)) (filter-mapped f test xs)
  where
    by : (b : Bool) → map f (filter (λ x. test (f x)) xs) ≡ filter test (map f xs) →
        map f (cond b (x ∷ filter (λ x. test (f x)) xs) (filter (λ x. test (f x)) xs))
        ≡ cond b (f x ∷ filter test (map f xs)) (filter test (map f xs))
    by true e = ap (λ ys. f x ∷ ys) e
    by false e = e

-- ---- the earliest so far

better : (pool : List Deviation) (i best : ℕ) (x y : Deviation) (b : Bool) → i < length pool → best < length pool →
    b ≡ is_lt (numbers_cmp (get_or pool i x).route (get_or pool best y).route) → (d : Deviation) →
    b ≡ is_lt (numbers_cmp (get_or pool i d).route (get_or pool best d).route)
better pool i best x y b l m e d =
    e ∙ (λ k. is_lt (numbers_cmp (get_or_default pool i x d l k).route (get_or_default pool best y d m k).route))

pub now-best : (pool : List Deviation) (i best : ℕ) (x y : Deviation) (b : Bool) → i < length pool →
    best < length pool → b ≡ is_lt (numbers_cmp (get_or pool i x).route (get_or pool best y).route) → b ≡ true →
    ((j : ℕ) (d : Deviation) → j < i →
    is_lt (numbers_cmp (get_or pool j d).route (get_or pool best d).route) ≡ false) →
    (j : ℕ) (d : Deviation) → j < i + 1 →
    is_lt (numbers_cmp (get_or pool j d).route (get_or pool i d).route) ≡ false
now-best pool i best x y b l m e won first j d k = elim (cases_eq j i) [
  | inl same ↦ ap (λ n. is_lt (numbers_cmp (get_or pool n d).route (get_or pool i d).route)) same
      ∙ not-itself (get_or pool i d).route
  | inr ne ↦ not-before_earlier (get_or pool i d).route (get_or pool best d).route (get_or pool j d).route
      (sym (better pool i best x y b l m e d) ∙ won) (first j d (omega (arith, k, ne)))
]

pub still-best : (pool : List Deviation) (i best : ℕ) (x y : Deviation) (b : Bool) → i < length pool →
    best < length pool → b ≡ is_lt (numbers_cmp (get_or pool i x).route (get_or pool best y).route) → b ≡ false →
    ((j : ℕ) (d : Deviation) → j < i →
    is_lt (numbers_cmp (get_or pool j d).route (get_or pool best d).route) ≡ false) →
    (j : ℕ) (d : Deviation) → j < i + 1 →
    is_lt (numbers_cmp (get_or pool j d).route (get_or pool best d).route) ≡ false
still-best pool i best x y b l m e lost first j d k = elim (cases_eq j i) [
  | inl same ↦ ap (λ n. is_lt (numbers_cmp (get_or pool n d).route (get_or pool best d).route)) same
      ∙ sym (better pool i best x y b l m e d) ∙ lost
  | inr ne ↦ first j d (omega (arith, k, ne))
]

-- ---- one that is taken out

among_mapped : (xs : List Deviation) (i : ℕ) (r : Deviation) → i < length xs → r ≡ get_or xs i r →
    IsAmong (seen r) (map seen xs)
among_mapped [] i r l e = absurd (omega (arith, l))
among_mapped (x ∷ xs) zero r l e = inl (ap seen e)
among_mapped (x ∷ xs) (suc i) r l e = inr (among_mapped xs i r (omega (arith, l)) e)

-- the place of one of them
record Place (xs : List Deviation) (d : model.Deviation) (e : Deviation) : Type 0 where
  at : ℕ
  inside : at < length xs
  is : d.route ≡ (get_or xs at e).route

place_of : (xs : List Deviation) (d : model.Deviation) (e : Deviation) → IsAmong d (map seen xs) → Place xs d e
place_of [] d e i = absurd i
place_of (x ∷ xs) d e i = elim i [
  | inl here ↦ record { at = 0; inside = omega arith; is = ap (λ (v : model.Deviation). v.route) here }
  | inr later ↦
      let p = place_of xs d e later in
      let l = p.inside in
      record { at = suc p.at; inside = omega (arith, l); is = p.is }
]

filter_removed : (keep : model.Deviation → Bool) (xs : List Deviation) (i : ℕ) (r : Deviation) → i < length xs →
    r ≡ get_or xs i r → keep (seen r) ≡ false →
    filter keep (map seen (remove xs i)) ≡ filter keep (map seen xs)
filter_removed keep [] i r l e k = absurd (omega (arith, l))
filter_removed keep (x ∷ xs) zero r l e k =
    ap (λ b. cond b (seen x ∷ filter keep (map seen xs)) (filter keep (map seen xs))) (sym (ap (λ v. keep (seen v)) (sym e) ∙ k))
filter_removed keep (x ∷ xs) (suc i) r l e k =
    ap (λ ds. cond (keep (seen x)) (seen x ∷ ds) ds) (filter_removed keep xs i r (omega (arith, l)) e k)

pub taken : (old fresh : List Deviation) (best : ℕ) (r : Deviation) → best < length old → r ≡ get_or old best r →
    fresh ≡ remove old best →
    ((j : ℕ) (d : Deviation) → j < length old →
    is_lt (numbers_cmp (get_or old j d).route (get_or old best d).route) ≡ false) →
    IsTakenOf (map seen old) (map seen fresh) r.route
taken old fresh best r l e is first = record {
  deviation = seen r;
  among = among_mapped old best r l e;
  route = refl;
  first = λ d i.
      let p = place_of old d r i in
      ap (λ v. is_lt (numbers_cmp v r.route)) p.is
      ∙ ap (λ (v : Deviation). is_lt (numbers_cmp (get_or old p.at r).route v.route)) e ∙ first p.at r p.inside;
  others = λ keep k. ap (λ ds. filter keep (map seen ds)) is ∙ filter_removed keep old best r l e k;
}
