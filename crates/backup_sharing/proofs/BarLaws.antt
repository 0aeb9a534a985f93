-- What is marked in a row of units where backups are joined to it, place by place and group by group.
use Rattle.std.proofs.Common.{◌≡◌, refl, sym, ◌∙◌, ap, subst, ℕ, zero, suc, ◌+◌, ◌-◌, ◌<◌, ◌≤◌, arith, inl, inr, ℤ, pos, ◌+ℤ◌, Bool, true, false, cond, ◌&&◌, ◌||◌, not, nat_eq, Some}
use Rattle.std.specs.Prelude.{nat_lt}
use Rattle.std.specs.List.{list_any}
use Rattle.std.specs.Ordering.{nat_cmp, eq_by_cmp}
use Rattle.std.specs.Cmp.{eq_by_cmp_equiv, nat_cmp_total, unsigned_tied}
use Rattle.std.specs.FinSet.{contains-items}
use Rattle.std.proofs.lemmas.Bool.{cases_lt, cases_eq, and_parts, and_from, or_cases, or_left, or_right, both_ways, false_from_ne_true, eqb-true, eqb-false, eq-eqb, ltb-true}
use Rattle.eon_model.specs.Grid.{Band, Units, has_unit, span_of, unit_count}
use Rattle.eon_model.specs.Sets.{NumberSet, has_member, members}
use Rattle.eon_model.proofs.OrderLaws.{IsIn}
use Rattle.eon_model.proofs.Members.{any-member, any-by}
use Rattle.eon_model.proofs.SetLists.{same_test}
use Rattle.spectrum_map.specs.Bits.{is_between}
use Rattle.spectrum_map.specs.Kept.{is_unit_that}
use Rattle.spectrum_map.proofs.BitLaws.{between-facts, facts-between}
use Rattle.spectrum_map.proofs.QueryLaws.{either_unit}
use Rattle.backup_sharing.specs.Shared.{but_own}

-- ---- members of a set

pub member_of : (s : NumberSet) (g : ℕ) → IsIn g (members s) → has_member s g ≡ true
member_of s g i = contains-items s g
    ∙ any-by (eq_by_cmp nat_cmp g) (members s) g i ((eq_by_cmp_equiv nat_cmp_total).refl g)

pub in_members : (s : NumberSet) (g : ℕ) → has_member s g ≡ true → IsIn g (members s)
in_members s g h =
    let found = any-member (eq_by_cmp nat_cmp g) (members s) (sym (contains-items s g) ∙ h) in
    let same : g ≡ found.0 = eqb-true g found.0 (sym (unsigned_tied g found.0) ∙ found.1.1) in
    subst (λ (k : ℕ). IsIn k (members s)) (sym same) found.1.0

-- ---- places that count one

pub one_more : (first i k : ℕ) (b c : Bool) → first ≤ i →
    ((b && not (is_between first i k && c)) && not (is_between i (i + 1) k && c))
    ≡ (b && not (is_between first (i + 1) k && c))
one_more first i k b c order = by b c ∙ ap (λ z. b && not (z && c)) joined
  where
    by : (b c : Bool) →
        ((b && not (is_between first i k && c)) && not (is_between i (i + 1) k && c))
        ≡ (b && not ((is_between first i k || is_between i (i + 1) k) && c))
    by b c = on b (is_between first i k) (is_between i (i + 1) k) c
      where
        on : (b x y c : Bool) → ((b && not (x && c)) && not (y && c)) ≡ (b && not ((x || y) && c))
        on false x y c = refl
        on true true y true = refl
        on true true true false = refl
        on true true false false = refl
        on true false y c = refl

    joined : (is_between first i k || is_between i (i + 1) k) ≡ is_between first (i + 1) k
    joined = same_test _ _
        (λ h. elim (or_cases (is_between first i k) (is_between i (i + 1) k) h) [
          | inl a ↦ let f = between-facts first i k a in
              let f0 = f.0 in let f1 = f.1 in facts-between first (i + 1) k f0 (omega (arith, f1))
          | inr a ↦ let f = between-facts i (i + 1) k a in
              let f0 = f.0 in let f1 = f.1 in facts-between first (i + 1) k (omega (arith, f0, order)) f1
        ])
        (λ h. let f = between-facts first (i + 1) k h in
        let f0 = f.0 in let f1 = f.1 in
        elim (cases_lt k i) [
          | inl less ↦ or_left _ _ (facts-between first i k f0 less)
          | inr more ↦ or_right _ _ (facts-between i (i + 1) k more f1)
        ])

pub none_cleared : (first k : ℕ) (b c : Bool) → b ≡ (b && not (is_between first first k && c))
none_cleared first k b c = by b ∙ ap (λ x. b && not (x && c)) (sym never)
  where
    by : (b : Bool) → b ≡ (b && true)
    by true = refl
    by false = refl

    never : is_between first first k ≡ false
    never = false_from_ne_true (is_between first first k) λ h.
        let f = between-facts first first k h in
        let f0 = f.0 in let f1 = f.1 in absurd (omega (arith, f0, f1))

-- what is left of the marks, unit by unit
pub left_marked : (band : Band) (own : Units) (h : ℤ → ℕ) (i n : ℕ) (at : Bool) →
    (i < unit_count (span_of band) → n ≡ h ((span_of band).lo +ℤ pos i)) →
    (i < unit_count (span_of band) → at ≡ has_unit own ((span_of band).lo +ℤ pos i)) →
    ((false || is_unit_that band (λ u. not (nat_eq (h u) 0)) i) && not (at && nat_eq n 1))
    ≡ is_unit_that band (λ u. not (nat_eq (but_own (Some own) u (h u)) 0)) i
left_marked band own h i n at counts stands = by (nat_lt i (unit_count (span_of band))) refl
  where
    u : ℤ
    u = (span_of band).lo +ℤ pos i

    one : (b : Bool) (m : ℕ) → (not (nat_eq m 0) && not (b && nat_eq m 1)) ≡ not (nat_eq (cond b (m - 1) m) 0)
    one true m = cases (nat_eq m 0) (nat_eq m 1) refl refl
      where
        cases : (a b : Bool) → nat_eq m 0 ≡ a → nat_eq m 1 ≡ b → (not a && not b) ≡ not (nat_eq (m - 1) 0)
        cases true b e f = let z = eqb-true m 0 e in ap not (sym (eq-eqb (m - 1) 0 (omega (arith, z))))
        cases false true e f = let z = eqb-true m 1 f in ap not (sym (eq-eqb (m - 1) 0 (omega (arith, z))))
        cases false false e f =
            let n0 = eqb-false m 0 e in
            let n1 = eqb-false m 1 f in
            ap not (sym (false_from_ne_true (nat_eq (m - 1) 0) λ h.
            let k = eqb-true (m - 1) 0 h in
            elim (cases_eq m 0) [
              | inl z ↦ n0 z
              | inr some ↦ n1 (omega (arith, k, some))
            ]))
    one false m = and_true (not (nat_eq m 0))
      where
        and_true : (a : Bool) → (a && true) ≡ a
        and_true true = refl
        and_true false = refl

    by : (b : Bool) → nat_lt i (unit_count (span_of band)) ≡ b →
        ((false || (b && not (nat_eq (h u) 0))) && not (at && nat_eq n 1))
        ≡ (b && not (nat_eq (but_own (Some own) u (h u)) 0))
    by true e =
        let l = ltb-true i (unit_count (span_of band)) e in
        (λ k. not (nat_eq (h u) 0) && not (stands l k && nat_eq (counts l k) 1)) ∙ one (has_unit own u) (h u)
    by false e = refl

-- ---- groups so far

-- whether one of the numbers below this one passes
abbrev pub any_below : (ℕ → Bool) → ℕ → Bool
any_below test zero = false
any_below test (suc n) = any_below test n || test n

below_more : (test : ℕ → Bool) (n : ℕ) → any_below test (n + 1) ≡ (any_below test n || test n)
below_more test n = let e : n + 1 ≡ suc n = omega arith in ap (any_below test) e

below-found : (test : ℕ → Bool) (n : ℕ) → any_below test n ≡ true → (k : ℕ) × ((k < n) × (test k ≡ true))
below-found test zero h = absurd (both_ways false refl h)
below-found test (suc n) h = elim (or_cases (any_below test n) (test n) h) [
  | inl before ↦ let f = below-found test n before in let l = f.1.0 in (f.0, (omega (arith, l), f.1.1))
  | inr here ↦ (n, (omega arith, here))
]

below-by : (test : ℕ → Bool) (n k : ℕ) → k < n → test k ≡ true → any_below test n ≡ true
below-by test zero k l h = absurd (omega (arith, l))
below-by test (suc n) k l h = elim (cases_lt k n) [
  | inl less ↦ or_left _ _ (below-by test n k less h)
  | inr more ↦ let same : k ≡ n = omega (arith, l, more) in or_right _ _ (ap test (sym same) ∙ h)
]

module _ (band : Band) (risk : NumberSet) (bad : ℕ → ℤ → Bool) where
  -- marked at first, or by one of the groups so far
  abbrev pub by_groups : ℕ → Bool → ℕ → Bool
  by_groups n b i = b || is_unit_that band (λ u. any_below (λ g. has_member risk g && bad g u) n) i

  pub groups_none : (b : Bool) (i : ℕ) → b ≡ by_groups 0 b i
  groups_none b i = by b (nat_lt i (unit_count (span_of band)))
    where
      by : (b c : Bool) → b ≡ (b || (c && false))
      by true c = refl
      by false true = refl
      by false false = refl

  pub groups_more : (n : ℕ) (b : Bool) (i : ℕ) →
      (by_groups n b i || (has_member risk n && is_unit_that band (bad n) i)) ≡ by_groups (n + 1) b i
  groups_more n b i =
      ap (λ c. by_groups n b i || c) (moved (has_member risk n) (nat_lt i (unit_count (span_of band))) (bad n ((span_of band).lo +ℤ pos i)))
      ∙ either_unit b band (λ u. any_below (λ g. has_member risk g && bad g u) n) (λ u. has_member risk n && bad n u) i
      ∙ (λ k. b || is_unit_that band (λ u. sym (below_more (λ g. has_member risk g && bad g u) n) k) i)
    where
      moved : (h c x : Bool) → (h && (c && x)) ≡ (c && (h && x))
      moved true c x = refl
      moved false true x = refl
      moved false false x = refl

  pub groups_all : (n : ℕ) (b : Bool) (i : ℕ) → ((g : ℕ) → has_member risk g ≡ true → g < n) →
      by_groups n b i ≡ (b || is_unit_that band (λ u. list_any (λ g. bad g u) (members risk)) i)
  groups_all n b i all = λ k. b || is_unit_that band (λ u. same u k) i
    where
      same : (u : ℤ) → any_below (λ g. has_member risk g && bad g u) n ≡ list_any (λ g. bad g u) (members risk)
      same u = same_test _ _
          (λ h. let f = below-found (λ g. has_member risk g && bad g u) n h in
          let p = and_parts (has_member risk f.0) (bad f.0 u) f.1.1 in
          any-by (λ g. bad g u) (members risk) f.0 (in_members risk f.0 p.0) p.1)
          (λ h. let f = any-member (λ g. bad g u) (members risk) h in
          let m = member_of risk f.0 f.1.0 in
          below-by (λ g. has_member risk g && bad g u) n f.0 (all f.0 m) (and_from _ _ m f.1.1))
