-- Backups that are the same, and a list without one of them.
use Rattle.std.proofs.Common.{◌≡◌, refl, sym, ◌∙◌, ap, subst, ◌+◌, ◌≤◌, arith, inl, inr, Bool, true, false, cond, ◌&&◌, List, [], ◌∷◌, length}
use Rattle.std.specs.Prelude.{count_by}
use Rattle.std.specs.List.{AllByRecursion}
use Rattle.std.specs.Ordering.{int_eq, is_eq, nat_cmp}
use Rattle.std.specs.Cmp.Lexicographic.{slice_cmp}
use Rattle.std.proofs.lemmas.Bool.{and_parts, and_from, both_ways}
use Rattle.eon_model.specs.Lists.{IsAmong}
use Rattle.eon_model.specs.Sets.{same_members}
use Rattle.eon_model.specs.Rows.{Reserved}
use Rattle.eon_model.specs.Turnover.{Turns}
use Rattle.eon_model.proofs.SetLaws.{same-members, same_itself}
use Rattle.eon_model.proofs.NameLaws.{names_equal}
use Rattle.eon_model.proofs.NumberLaws.{same-name}
use Rattle.eon_model.proofs.SlotSteps.{int_eq-same, int_eq-of}
use Rattle.eon_model.proofs.FreeLaws.{count-cons}
use Rattle.backup_sharing.specs.Shared.{same_reserved, without_one}

same-reserved : (r s : Reserved) → same_reserved r s ≡ true → r ≡ s
same-reserved r s h =
    let a = and_parts (same_members r.risk s.risk) (is_eq (slice_cmp nat_cmp r.taken.fibres s.taken.fibres)
    && (int_eq r.taken.units.lo s.taken.units.lo && int_eq r.taken.units.hi s.taken.units.hi)) h in
    let b = and_parts (is_eq (slice_cmp nat_cmp r.taken.fibres s.taken.fibres))
    (int_eq r.taken.units.lo s.taken.units.lo && int_eq r.taken.units.hi s.taken.units.hi) a.1 in
    let c = and_parts (int_eq r.taken.units.lo s.taken.units.lo) (int_eq r.taken.units.hi s.taken.units.hi) b.1 in
    let risk = same-members r.risk s.risk a.0 in
    let fibres = same-name r.taken.fibres s.taken.fibres b.0 in
    let lo = int_eq-same r.taken.units.lo s.taken.units.lo c.0 in
    let hi = int_eq-same r.taken.units.hi s.taken.units.hi c.1 in
    λ i. record {
      risk = risk i;
      taken = record { fibres = fibres i; units = record { lo = lo i; hi = hi i } };
    }

reserved-itself : (r : Reserved) → same_reserved r r ≡ true
reserved-itself r =
    and_from _ _ (same_itself r.risk) (and_from _ _ (names_equal.refl r.taken.fibres)
    (and_from _ _ (int_eq-of r.taken.units.lo r.taken.units.lo refl) (int_eq-of r.taken.units.hi r.taken.units.hi refl)))

-- a list is the one without it, and it
pub left_out : (r : Reserved) (rs : List Reserved) → IsAmong r rs → (test : Reserved → Bool) →
    count_by test rs ≡ cond (test r) 1 0 + count_by test (without_one r rs)
left_out r [] a test = absurd a
left_out r (s ∷ rs) a test =
    count-cons test s rs ∙ by (same_reserved r s) refl (λ more. left_out r rs more test)
  where
    by : (b : Bool) → same_reserved r s ≡ b →
        (IsAmong r rs → count_by test rs ≡ cond (test r) 1 0 + count_by test (without_one r rs)) →
        cond (test s) 1 0 + count_by test rs ≡ cond (test r) 1 0 + count_by test (cond b rs (s ∷ without_one r rs))
    by true e later = ap (λ (x : Reserved). cond (test x) 1 0 + count_by test rs) (sym (same-reserved r s e))
    by false e later = elim a [
      | inl same ↦ absurd (both_ways (same_reserved r s) e
          (subst (λ (x : Reserved). same_reserved r x ≡ true) same (reserved-itself r)))
      | inr more ↦
          let rest = later more in
          let c = count-cons test s (without_one r rs) in
          omega arith
    ]

pub turns_out : (r : Reserved) (rs : List Reserved) → IsAmong r rs → Turns rs (without_one r rs) (r ∷ []) []
turns_out r rs a = record {
  rest = without_one r rs;
  before_is = λ test.
      let out = left_out r rs a test in
      let one = count-cons test r [] in
      let none : count_by test [] ≡ 0 = refl in
      omega arith;
  after_is = λ test. let none : count_by test [] ≡ 0 = refl in omega arith;
}

-- what holds of all of a list holds of all that are left
pub all_left : (P : Reserved → Type 0) (r : Reserved) (rs : List Reserved) → AllByRecursion P rs →
    AllByRecursion P (without_one r rs)
all_left P r [] a = tt
all_left P r (s ∷ rs) a = by (same_reserved r s) (all_left P r rs a.1)
  where
    by : (b : Bool) → AllByRecursion P (without_one r rs) →
        AllByRecursion P (cond b rs (s ∷ without_one r rs))
    by true more = a.1
    by false more = (a.0, more)

pub fewer_left : (r : Reserved) (rs : List Reserved) → length (without_one r rs) ≤ length rs
fewer_left r [] = omega arith
fewer_left r (s ∷ rs) = by (same_reserved r s) (fewer_left r rs)
  where
    by : (b : Bool) → length (without_one r rs) ≤ length rs →
        length (cond b rs (s ∷ without_one r rs)) ≤ length (s ∷ rs)
    by true more = omega arith
    by false more = omega (arith, more)
