-- The tops of fibres, one fibre at a time.
use Rattle.std.proofs.Common.{◌≡◌, refl, sym, ◌∙◌, ap, subst, ℕ, ◌+◌, ◌<◌, ◌≤◌, ◌⊎◌, inl, inr, true, false, ◌||◌, nat_eq, List, [], ◌∷◌, ◌++◌, length, take, add-one, get_or, arith}
use Rattle.std.specs.Prelude.{max}
use Rattle.std.specs.Cmp.{nat_eq_equiv}
use Rattle.std.proofs.Math.Seq.{take-suc}
use Rattle.std.proofs.lemmas.Bool.{or_cases, or_left, or_right, eqb-true, both_ways}
use Rattle.std.proofs.lemmas.List.Folds.{list_any-append}
use Rattle.eon_model.specs.Lists.{has_number}
use Rattle.compact_plan.specs.Tops.{IsTopOver}

-- a number of a list with one more at its end
one_more : (fs : List ℕ) (f g : ℕ) → has_number (fs ++ f ∷ []) g ≡ true → (has_number fs g ≡ true) ⊎ (f ≡ g)
one_more fs f g h =
    elim (or_cases (has_number fs g) (nat_eq f g || false) (sym (list_any-append (λ k. nat_eq k g) fs (f ∷ [])) ∙ h)) [
      | inl before ↦ inl before
      | inr last ↦ elim (or_cases (nat_eq f g) false last) [
        | inl same ↦ inr (eqb-true f g same)
        | inr never ↦ absurd (both_ways true (sym never) refl)
      ]
    ]

before : (fs : List ℕ) (f g : ℕ) → has_number fs g ≡ true → has_number (fs ++ f ∷ []) g ≡ true
before fs f g h = list_any-append (λ k. nat_eq k g) fs (f ∷ []) ∙ or_left _ _ h

last : (fs : List ℕ) (f : ℕ) → has_number (fs ++ f ∷ []) f ≡ true
last fs f = list_any-append (λ k. nat_eq k f) fs (f ∷ [])
    ∙ or_right (has_number fs f) _ (or_left _ _ (nat_eq_equiv.refl f))

-- ---- the greatest top

pub over_none : (tops : List ℕ) (floor : ℕ) → IsTopOver tops [] floor floor
over_none tops floor = record {
  above = omega arith;
  over = λ f h. absurd (both_ways true (sym h) refl);
  from = inl refl;
}

pub over_more : (tops fs : List ℕ) (floor top f : ℕ) → IsTopOver tops fs floor top →
    IsTopOver tops (fs ++ f ∷ []) floor (max top (get_or tops f 0))
over_more tops fs floor top f h =
    let t = get_or tops f 0 in
    let above = h.above in
    record {
      above = omega arith;
      over = λ g on. elim (one_more fs f g on) [
        | inl b ↦ let o = h.over g b in omega arith
        | inr e ↦ subst (λ (k : ℕ). get_or tops k 0 ≤ max top t) e (omega arith)
      ];
      from = elim (max_is top t) [
        | inl e ↦ elim h.from [
          | inl floor ↦ inl (e ∙ floor)
          | inr found ↦ inr (found.0, before fs f found.0 found.1, found.2 ∙ sym e)
        ]
        | inr e ↦ inr (f, last fs f, sym e)
      ];
    }
  where
    max_is : (a b : ℕ) → (max a b ≡ a) ⊎ (max a b ≡ b)
    max_is a b = grind arith

pub over_next : (tops fs : List ℕ) (floor top i next : ℕ) → i < length fs →
    next ≡ max top (get_or tops (get_or fs i 0) 0) → IsTopOver tops (take i fs) floor top →
    IsTopOver tops (take (i + 1) fs) floor next
over_next tops fs floor top i next within e h =
    subst (λ (n : ℕ). IsTopOver tops (take (i + 1) fs) floor n) (sym e)
    (subst (λ (gs : List ℕ). IsTopOver tops gs floor (max top (get_or tops (get_or fs i 0) 0)))
    (sym (ap (λ (k : ℕ). take k fs) (add-one i) ∙ take-suc fs i 0 within))
    (over_more tops (take i fs) floor top (get_or fs i 0) h))
