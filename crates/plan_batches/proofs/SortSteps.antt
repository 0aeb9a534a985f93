-- A stable sort by a number gives the list in order, with what ties in the order in which it stood.
use Rattle.std.proofs.Common.{◌≡◌, refl, sym, ◌∙◌, ap, subst, ℕ, zero, suc, ◌<◌, ◌≤◌, ◌⊎◌, inl, inr, Bool, true, false, cond, ◌&&◌, not, List, [], ◌∷◌, filter, arith}
use Rattle.std.specs.Prelude.{nat_le, ◌==◌}
use Rattle.std.specs.declared.cmp.Ordering.{Ordering}
use Rattle.std.specs.declared.cmp.Ordering.TheVariants.{Less, Equal, Greater}
use Rattle.std.specs.Ordering.{nat_cmp, is_gt, is_lt}
use Rattle.std.specs.Cmp.{nat_cmp_is, nat_eq_equiv}
use Rattle.std.specs.List.{list_all, AllZip}
use Rattle.std.specs.List.Sorted.{IsNonDecreasingBy, IsStableByKey}
use Rattle.std.proofs.lemmas.Bool.{and_parts, and_from, both_ways, cases_order, le-leb, leb-true, eqb-true, ne_eqb}
use Rattle.std.proofs.lemmas.Option.{slice_get_within, get_or_from_slice_get}
use Rattle.eon_model.specs.Lists.{all_pairs, insert_in_order, sort_by}
use Rattle.eon_model.proofs.Members.{list_all-of}
use Rattle.eon_model.proofs.SortedPairs.{order-sorted}
use Rattle.compact_plan.proofs.SettleLaws.{index_in}

-- ---- ties

above_is : (a b : ℕ) → b < a → nat_cmp a b ≡ Greater
above_is a b h = sym (nat_cmp_is a b Greater h)

below_is : (a b : ℕ) → a < b → nat_cmp a b ≡ Less
below_is a b h = sym (nat_cmp_is a b Less h)

tied_is : (a b : ℕ) → (not (is_lt (nat_cmp a b)) && not (is_lt (nat_cmp b a))) ≡ (a == b)
tied_is a b = elim (cases_order a b) [
  | inl same ↦ ap (λ (n : ℕ). not (is_lt (nat_cmp a n)) && not (is_lt (nat_cmp n a))) (sym same)
      ∙ itself (nat_cmp a a) (nat_cmp_is a a Equal refl) ∙ sym (nat_eq_equiv.refl a) ∙ ap (λ (n : ℕ). a == n) same
  | inr other ↦ elim other [
    | inl low ↦ ap (λ (o : Ordering). not (is_lt o) && not (is_lt (nat_cmp b a))) (below_is a b low)
        ∙ sym (ne_eqb a b (λ e. omega arith))
    | inr high ↦ ap (λ (o : Ordering). not (is_lt (nat_cmp a b)) && not (is_lt o)) (below_is b a high)
        ∙ last (not (is_lt (nat_cmp a b))) ∙ sym (ne_eqb a b (λ e. omega arith))
  ]
]
  where
    itself : (o : Ordering) → Equal ≡ o → (not (is_lt o) && not (is_lt o)) ≡ true
    itself o e = ap (λ (x : Ordering). not (is_lt x) && not (is_lt x)) (sym e)

    last : (x : Bool) → (x && false) ≡ false
    last true = refl
    last false = refl

not_gt : (a b : ℕ) → is_gt (nat_cmp a b) ≡ true → b < a
not_gt a b h = elim (cases_order a b) [
  | inl same ↦ absurd (both_ways (is_gt (nat_cmp a b)) (ap is_gt (sym (nat_cmp_is a b Equal same))) h)
  | inr other ↦ elim other [
    | inl low ↦ absurd (both_ways (is_gt (nat_cmp a b)) (ap is_gt (below_is a b low)) h)
    | inr high ↦ high
  ]
]

module _ {X : Type 0} (key : X → ℕ) where
  -- whether y ties with x
  abbrev Ties : X → X → Bool
  Ties x y = key x == key y

  abbrev by_key : X → X → Ordering
  by_key x y = nat_cmp (key x) (key y)

  abbrev rises : X → X → Bool
  rises x y = nat_le (key x) (key y)

  -- ---- an insertion keeps what ties in order

  keeps_one : (x y z : X) (l more : List X) (g b c : Bool) → is_gt (by_key y z) ≡ g → Ties x y ≡ b → Ties x z ≡ c →
      more ≡ cond b (y ∷ l) l →
      cond g (cond c (z ∷ more) more) (cond b (y ∷ cond c (z ∷ l) l) (cond c (z ∷ l) l))
      ≡ cond b (y ∷ cond c (z ∷ l) l) (cond c (z ∷ l) l)
  keeps_one x y z l more false b c e f h is = refl
  keeps_one x y z l more true true true e f h is =
      let above = not_gt (key y) (key z) e in
      let one = eqb-true (key x) (key y) f in
      let other = eqb-true (key x) (key z) h in
      absurd (omega arith)
  keeps_one x y z l more true true false e f h is = is
  keeps_one x y z l more true false true e f h is = ap (λ (m : List X). z ∷ m) is
  keeps_one x y z l more true false false e f h is = is

  split_cond : (x : X) (g : Bool) (l k : List X) → filter (Ties x) (cond g l k) ≡ cond g (filter (Ties x) l) (filter (Ties x) k)
  split_cond x true l k = refl
  split_cond x false l k = refl

  insert_keeps : (x y : X) (l : List X) → filter (Ties x) (insert_in_order by_key y l) ≡ filter (Ties x) (y ∷ l)
  insert_keeps x y [] = refl
  insert_keeps x y (z ∷ l) =
      split_cond x (is_gt (by_key y z)) (z ∷ insert_in_order by_key y l) (y ∷ z ∷ l)
      ∙ keeps_one x y z (filter (Ties x) l) (filter (Ties x) (insert_in_order by_key y l)) (is_gt (by_key y z)) (Ties x y)
      (Ties x z) refl refl refl (insert_keeps x y l)

  sort_keeps : (x : X) (xs : List X) → filter (Ties x) (sort_by by_key xs) ≡ filter (Ties x) xs
  sort_keeps x [] = refl
  sort_keeps x (y ∷ xs) =
      insert_keeps x y (sort_by by_key xs)
      ∙ ap (λ (l : List X). cond (Ties x y) (y ∷ l) l) (sort_keeps x xs)

  -- ---- two lists in order in which the same ties stand in the same order

  tied_first : (x : X) (xs : List X) → filter (Ties x) (x ∷ xs) ≡ x ∷ filter (Ties x) xs
  tied_first x xs = ap (λ (b : Bool). cond b (x ∷ filter (Ties x) xs) (filter (Ties x) xs)) (nat_eq_equiv.refl (key x))

  none_ties : (x y : X) (ys : List X) → key x < key y → list_all (rises y) ys ≡ true → filter (Ties x) ys ≡ []
  none_ties x y [] h k = refl
  none_ties x y (z ∷ ys) h k =
      let both = and_parts (rises y z) (list_all (rises y) ys) k in
      let up = leb-true (key y) (key z) both.0 in
      ap (λ (b : Bool). cond b (z ∷ filter (Ties x) ys) (filter (Ties x) ys)) (ne_eqb (key x) (key z) (λ e. omega arith))
      ∙ none_ties x y ys h both.1

  none_below : (x y : X) (ys : List X) → key x < key y → list_all (rises y) ys ≡ true → filter (Ties x) (y ∷ ys) ≡ []
  none_below x y ys h k =
      ap (λ (b : Bool). cond b (y ∷ filter (Ties x) ys) (filter (Ties x) ys)) (ne_eqb (key x) (key y) (λ e. omega arith))
      ∙ none_ties x y ys h k

  same_tail : (b : Bool) (x : X) (l k : List X) → cond b (x ∷ l) l ≡ cond b (x ∷ k) k → l ≡ k
  same_tail true x l k e = cc
  same_tail false x l k e = e

  same_head : (x y : X) (l k : List X) → x ∷ l ≡ y ∷ k → x ≡ y
  same_head x y l k e = cc

  one_list : (xs ys : List X) → all_pairs rises xs ≡ true → all_pairs rises ys ≡ true →
      ((x : X) → filter (Ties x) xs ≡ filter (Ties x) ys) → xs ≡ ys
  one_list [] [] h k same = refl
  one_list [] (y ∷ ys) h k same = absurd (not_empty y (filter (Ties y) ys) (same y ∙ tied_first y ys))
    where
      not_empty : (y : X) (l : List X) → [] ≡ y ∷ l → ⊥
      not_empty y l e = cc
  one_list (x ∷ xs) [] h k same = absurd (not_empty x (filter (Ties x) xs) (sym (same x) ∙ tied_first x xs))
    where
      not_empty : (y : X) (l : List X) → [] ≡ y ∷ l → ⊥
      not_empty y l e = cc
  one_list (x ∷ xs) (y ∷ ys) h k same =
      let first = and_parts (list_all (rises x) xs) (all_pairs rises xs) h in
      let second = and_parts (list_all (rises y) ys) (all_pairs rises ys) k in
      let head = heads first.0 second.0 (cases_order (key x) (key y)) in
      tails head (one_list xs ys first.1 second.1 (λ z.
      same_tail (Ties z x) x (filter (Ties z) xs) (filter (Ties z) ys)
      (same z ∙ ap (λ (w : X). cond (Ties z w) (w ∷ filter (Ties z) ys) (filter (Ties z) ys)) (sym head))))
    where
      not_empty : (z : X) (l : List X) → z ∷ l ≡ [] → ⊥
      not_empty z l e = cc

      heads : list_all (rises x) xs ≡ true → list_all (rises y) ys ≡ true →
          (key x ≡ key y) ⊎ ((key x < key y) ⊎ (key y < key x)) → x ≡ y
      heads a b (inl e) = same_head x y (filter (Ties x) xs) (filter (Ties x) ys)
          (sym (tied_first x xs) ∙ same x
          ∙ ap (λ (t : Bool). cond t (y ∷ filter (Ties x) ys) (filter (Ties x) ys))
          (ap (λ (n : ℕ). key x == n) (sym e) ∙ nat_eq_equiv.refl (key x)))
      heads a b (inr (inl low)) = absurd (not_empty x (filter (Ties x) xs)
          (sym (tied_first x xs) ∙ same x ∙ none_below x y ys low b))
      heads a b (inr (inr high)) = absurd (not_empty y (filter (Ties y) ys)
          (sym (tied_first y ys) ∙ sym (same y) ∙ none_below y x xs high a))

      tails : x ≡ y → xs ≡ ys → x ∷ xs ≡ y ∷ ys
      tails e f = λ i. e i ∷ f i

  -- ---- the sort of the library

  pairs_rise : (xs : List X) → IsNonDecreasingBy key xs → all_pairs rises xs ≡ true
  pairs_rise [] up = refl
  pairs_rise (x ∷ xs) up =
      and_from _ _
      (list_all-of (rises x) xs (λ y i.
      let at = index_in xs y i in
      let low = slice_get_within xs at.0 y at.1 in
      let here = get_or_from_slice_get xs at.0 y x at.1 in
      le-leb (key x) (key y) (subst (λ (z : X). key x ≤ key z) here (up zero (suc at.0) x (omega arith) (omega arith)))))
      (pairs_rise xs (λ i j d low within. up (suc i) (suc j) d (omega arith) (omega arith)))

  pub sorted-stably : (xs ys : List X) → IsNonDecreasingBy key ys → IsStableByKey key nat_cmp xs ys →
      ys ≡ sort_by by_key xs
  sorted-stably xs ys up stable = one_list ys (sort_by by_key xs) (pairs_rise ys up) (order-sorted key xs)
      (λ x.
      sym (λ i. filter (λ (y : X). tied_is (key x) (key y) i) ys) ∙ stable x
      ∙ (λ i. filter (λ (y : X). tied_is (key x) (key y) i) xs)
      ∙ sym (sort_keeps x xs))

-- ---- two lists, place by place

module _ {A B : Type 0} (R : A → B → Type 0) (key : A → ℕ) (other : B → ℕ) (same : (a : A) (b : B) → R a b → key a ≡ other b) where
  zip-insert : (a : A) (b : B) (xs : List A) (ys : List B) → R a b → AllZip R xs ys →
      AllZip R (insert_in_order (λ x y. nat_cmp (key x) (key y)) a xs) (insert_in_order (λ x y. nat_cmp (other x) (other y)) b ys)
  zip-insert a b [] [] r z = (r, tt)
  zip-insert a b [] (y ∷ ys) r z = absurd z
  zip-insert a b (x ∷ xs) [] r z = absurd z
  zip-insert a b (x ∷ xs) (y ∷ ys) r z =
      one (is_gt (nat_cmp (key a) (key x))) (is_gt (nat_cmp (other b) (other y)))
      (λ i. is_gt (nat_cmp (same a b r i) (same x y z.0 i))) (zip-insert a b xs ys r z.1)
    where
      one : (g h : Bool) → g ≡ h →
          AllZip R (insert_in_order (λ v w. nat_cmp (key v) (key w)) a xs) (insert_in_order (λ v w. nat_cmp (other v) (other w)) b ys) →
          AllZip R (cond g (x ∷ insert_in_order (λ v w. nat_cmp (key v) (key w)) a xs) (a ∷ x ∷ xs))
          (cond h (y ∷ insert_in_order (λ v w. nat_cmp (other v) (other w)) b ys) (b ∷ y ∷ ys))
      one true true e more = (z.0, more)
      one true false e more = absurd (both_ways true e refl)
      one false true e more = absurd (both_ways true (sym e) refl)
      one false false e more = (r, z)

  pub zip-sorted : (xs : List A) (ys : List B) → AllZip R xs ys →
      AllZip R (sort_by (λ x y. nat_cmp (key x) (key y)) xs) (sort_by (λ x y. nat_cmp (other x) (other y)) ys)
  zip-sorted [] [] z = tt
  zip-sorted [] (y ∷ ys) z = absurd z
  zip-sorted (x ∷ xs) [] z = absurd z
  zip-sorted (x ∷ xs) (y ∷ ys) z =
      zip-insert x y (sort_by (λ a b. nat_cmp (key a) (key b)) xs) (sort_by (λ a b. nat_cmp (other a) (other b)) ys) z.0
      (zip-sorted xs ys z.1)
