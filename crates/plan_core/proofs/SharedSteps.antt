-- The least name among the groups that are in two sets, found group by group.
use Rattle.std.proofs.Common.{◌≡◌, refl, sym, ◌∙◌, ap, subst, inl, inr, ℕ, zero, suc, ◌+◌, ◌<◌, arith, add-one, Bool, true, false, cond, ◌&&◌, not, List, [], ◌∷◌, ◌++◌, map, filter, Some}
use Rattle.std.specs.List.{list_all, range_with_len}
use Rattle.std.specs.Ordering.{is_lt}
use Rattle.std.specs.Cmp.Lexicographic.{nat_list_cmp_total}
use Rattle.std.specs.FinSet.{contains, items, contains-items}
use Rattle.std.proofs.lemmas.List.{map-append}
use Rattle.std.proofs.lemmas.List.Elements.{filter-append}
use Rattle.std.proofs.lemmas.Bool.{and_parts, and_from, not-true, not_from_false, false≢true, cases_Bool}
use Rattle.eon_model.specs.Names.{Name, name_cmp, is_above, least_name}
use Rattle.eon_model.specs.Sets.{NumberSet, has_member, common_members}
use Rattle.eon_model.specs.Network.{Network, risk_name}
use Rattle.eon_model.proofs.OrderLaws.{IsIn}
use Rattle.eon_model.proofs.ListLaws.{IsIn-filter, in_range}
use Rattle.eon_model.proofs.FoundLaws.{found, of-IsIn-filter}
use Rattle.eon_model.proofs.Members.{list_all-at, list_all-of}
use Rattle.eon_model.proofs.LeastNameLaws.{itself}
use Rattle.eon_model.proofs.SharedNames.{least_name-same, none-empty, neither_above, ties-in, in-ties, same-map}
use Rattle.eon_model.proofs.NumberLaws.{lt-less}
use Rattle.plan_core.specs.Placing.{lesser, least_with, shared_below}

-- ---- the least of one more name

-- one of them that is above no other is the least
least-is : (names : List Name) (a : Name) → IsIn a names → ((b : Name) → IsIn b names → is_above a b ≡ false) →
    least_name names ≡ Some a
least-is names a i low = elim (found (λ x. list_all (λ b. not (is_above x b)) names) names) [
  | inl none ↦ absurd (false≢true (sym (none.1 a i)
      ∙ list_all-of (λ b. not (is_above a b)) names (λ b k. not_from_false _ (low b k))))
  | inr some ↦ some.1 ∙ ap Some (neither_above some.0 a
      (not-true _ (list_all-at (λ b. not (is_above some.0 b)) names a some.3 i)) (low some.0 some.2))
]

in-append_left : {X : Type 0} (xs ys : List X) (x : X) → IsIn x xs → IsIn x (xs ++ ys)
in-append_left [] ys x i = absurd i
in-append_left (z ∷ xs) ys x i = elim i [ inl e ↦ inl e | inr more ↦ inr (in-append_left xs ys x more) ]

in-last : {X : Type 0} (xs : List X) (x : X) → IsIn x (xs ++ x ∷ [])
in-last [] x = inl refl
in-last (z ∷ xs) x = inr (in-last xs x)

of-append : {X : Type 0} (xs : List X) (y x : X) → IsIn x (xs ++ y ∷ []) → (P : Type 0) → (IsIn x xs → P) →
    (x ≡ y → P) → P
of-append [] y x i P f g = elim i [ inl e ↦ g e | inr more ↦ absurd more ]
of-append (z ∷ xs) y x i P f g = elim i [
  | inl e ↦ f (inl e)
  | inr more ↦ of-append xs y x more P (λ k. f (inr k)) g
]

-- above b and not above it: where b is the least, and a lies below it
below_all : (names : List Name) (a b : Name) → is_above b a ≡ true → ((c : Name) → IsIn c names → is_above b c ≡ false) →
    (c : Name) → IsIn c names → is_above a c ≡ false
below_all names a b under low c i = elim (cases_Bool (is_above a c)) [
  | inr f ↦ f
  | inl t ↦ absurd (false≢true (sym (low c i)
      ∙ ap is_lt (nat_list_cmp_total.trans c a b (lt-less (name_cmp c a) t) (lt-less (name_cmp a b) under))))
]

least_of : (names : List Name) (a b : Name) → IsIn b names → ((c : Name) → IsIn c names → is_above b c ≡ false) →
    (under : Bool) → is_above b a ≡ under → least_name (names ++ a ∷ []) ≡ Some (cond under a b)
least_of names a b i low true e = least-is (names ++ a ∷ []) a (in-last names a)
    (λ c k. of-append names a c k (is_above a c ≡ false) (below_all names a b e low c)
    (λ same. subst (λ (x : Name). is_above a x ≡ false) (sym same) (itself a)))
least_of names a b i low false e = least-is (names ++ a ∷ []) b (in-append_left names (a ∷ []) b i)
    (λ c k. of-append names a c k (is_above b c ≡ false) (low c)
    (λ same. subst (λ (x : Name). is_above b x ≡ false) (sym same) e))

least-more : (names : List Name) (a : Name) → least_name (names ++ a ∷ []) ≡ Some (lesser (least_name names) a)
least-more names a = elim (found (λ x. list_all (λ b. not (is_above x b)) names) names) [
  | inl none ↦
      let e = none-empty names none.0 in
      ap (λ ns. least_name (ns ++ a ∷ [])) e
      ∙ least-is (a ∷ []) a (inl refl) (λ c k. elim k [
        | inl same ↦ subst (λ (x : Name). is_above a x ≡ false) (sym same) (itself a)
        | inr more ↦ absurd more
      ]) ∙ ap (λ o. Some (lesser o a)) (sym none.0)
  | inr some ↦
      least_of names a some.0 some.2
      (λ c k. not-true _ (list_all-at (λ b. not (is_above some.0 b)) names c some.3 k))
      (is_above some.0 a) refl ∙ ap (λ o. Some (lesser o a)) (sym some.1)
]

-- ---- one more group

range-more : (a n : ℕ) → range_with_len a (suc n) ≡ range_with_len a n ++ (a + n) ∷ []
range-more a zero = ap (λ k. k ∷ []) (let e : a ≡ a + 0 = omega arith in e)
range-more a (suc n) = ap (λ ks. a ∷ ks) (range-more (a + 1) n
    ∙ ap (λ k. range_with_len (a + 1) n ++ k ∷ []) (let e : (a + 1) + n ≡ a + suc n = omega arith in e))

range-longer : (n : ℕ) → range_with_len 0 (suc n) ≡ range_with_len 0 n ++ n ∷ []
range-longer n = range-more 0 n ∙ ap (λ k. range_with_len 0 n ++ k ∷ []) (let e : 0 + n ≡ n = omega arith in e)

with_group : (net : Network) (names : List Name) (i : ℕ) (b : Bool) →
    least_name (names ++ map (risk_name net) (cond b (i ∷ []) []))
    ≡ cond b (Some (lesser (least_name names) (risk_name net i))) (least_name names)
with_group net names i true = least-more names (risk_name net i)
with_group net names i false = ap least_name (append_nil names)
  where
    append_nil : (xs : List Name) → xs ++ [] ≡ xs
    append_nil [] = refl
    append_nil (x ∷ xs) = ap (λ ys. x ∷ ys) (append_nil xs)

-- the least name among the groups below one more number
pub least_below-more : (net : Network) (s t : NumberSet) (i : ℕ) →
    least_name (shared_below net s t (i + 1)) ≡ least_with net s t i (least_name (shared_below net s t i))
least_below-more net s t i =
    let p = λ (k : ℕ). has_member s k && has_member t k in
    rw (add-one i)
    (ap (λ ks. least_name (map (risk_name net) (filter p ks))) (range-longer i)
    ∙ ap (λ ks. least_name (map (risk_name net) ks)) (filter-append p (range_with_len 0 i) (i ∷ []))
    ∙ ap least_name (map-append (risk_name net) (filter p (range_with_len 0 i)) (filter p (i ∷ [])))
    ∙ with_group net (shared_below net s t i) i (p i))

-- ---- all groups

-- where the members of the one set lie below the number, the least name of all is found
pub least_below-all : (net : Network) (s t : NumberSet) (n : ℕ) →
    ((i : ℕ) → has_member s i ≡ true → i < n) →
    least_name (shared_below net s t n) ≡ least_name (map (risk_name net) (common_members s t))
least_below-all net s t n below = least_name-same _ _ (same-map (risk_name net) _ _ (
  λ i k.
      let m = of-IsIn-filter (λ j. has_member s j && has_member t j) (range_with_len 0 n) i k in
      let both = and_parts (has_member s i) (has_member t i) m.1 in
      IsIn-filter (contains t) i (items s) both.1 (ties-in i (items s) (sym (contains-items s i) ∙ both.0)),
  λ i k.
      let m = of-IsIn-filter (contains t) (items s) i k in
      let there = contains-items s i ∙ in-ties i (items s) m.0 in
      let few = below i there in
      IsIn-filter (λ j. has_member s j && has_member t j) i (range_with_len 0 n)
      (and_from (has_member s i) (has_member t i) there m.1) (in_range 0 n i (omega arith) (omega arith)),
))
