-- Searches over whole numbers, from one upwards.
use Rattle.std.proofs.Common.{◌≡◌, refl, ◌∙◌, ap, ℕ, zero, suc, ℤ, pos, ◌+ℤ◌, ◌≤ℤ◌, ◌<ℤ◌, arith, inl, inr, Bool, true, false, cond, find, Some, None}
use Rattle.std.proofs.lemmas.Int.{ints}
use Rattle.eon_model.specs.Lists.{integers_from}
use Rattle.eon_model.proofs.UnitLaws.{at_or_past, nothing-past, end_stays, end_back, begin_back, begin_in, itself}

begin_below : (a u : ℤ) → (a +ℤ pos 1) ≤ℤ u → a <ℤ u
begin_below a u h = omega (arith, ints)

module _ (test : ℤ → Bool) where
  step : (a u : ℤ) (n : ℕ) → test a ≡ false → find test (integers_from (a +ℤ pos 1) n) ≡ Some u →
      find test (integers_from a (suc n)) ≡ Some u
  step a u n t h = ap (λ b. cond b (Some a) (find test (integers_from (a +ℤ pos 1) n))) t ∙ h

  pub first-at : (a : ℤ) (n : ℕ) (c : ℤ) → a ≤ℤ c → c <ℤ (a +ℤ pos n) → test c ≡ true →
      ((u : ℤ) → a ≤ℤ u → u <ℤ c → test u ≡ false) → find test (integers_from a n) ≡ Some c
  first-at a zero c p q t h = absurd (nothing-past a c p q)
  first-at a (suc n) c p q t h =
      elim (at_or_past a c p) [
        | inl e ↦ ap (λ b. cond b (Some a) (find test (integers_from (a +ℤ pos 1) n))) (ap test e ∙ t)
            ∙ ap (λ z. Some z) e
        | inr more ↦ step a c n (h a (itself a) (begin_below a c more))
            (first-at (a +ℤ pos 1) n c more (end_stays a c n q) t (λ u r s. h u (begin_back a u r) s))
      ]

  pub first-none : (a : ℤ) (n : ℕ) → ((u : ℤ) → a ≤ℤ u → u <ℤ (a +ℤ pos n) → test u ≡ false) →
      find test (integers_from a n) ≡ None
  first-none a zero h = refl
  first-none a (suc n) h =
      ap (λ b. cond b (Some a) (find test (integers_from (a +ℤ pos 1) n))) (h a (itself a) (begin_in a n))
      ∙ first-none (a +ℤ pos 1) n (λ u p q. h u (begin_back a u p) (end_back a u n q))
