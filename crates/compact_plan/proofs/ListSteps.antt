-- What is left of a list from a place on.
use Rattle.std.proofs.Common.{◌≡◌, refl, ◌∙◌, ap, sym, ℕ, zero, suc, ◌+◌, ◌≤◌, List, [], ◌∷◌, length, drop, add-one, Some, arith}
use Rattle.std.specs.Prelude.{slice_get}

opened_suc : {X : Type 0} (xs : List X) (i : ℕ) (x : X) → slice_get xs i ≡ Some x → drop i xs ≡ x ∷ drop (suc i) xs
opened_suc [] i x e = cc
opened_suc (y ∷ xs) zero x e = let same : y ≡ x = cc in ap (λ z. z ∷ xs) same
opened_suc (y ∷ xs) (suc i) x e = opened_suc xs i x e

-- the element there, and the rest
pub opened : {X : Type 0} (xs : List X) (i : ℕ) (x : X) → slice_get xs i ≡ Some x → drop i xs ≡ x ∷ drop (i + 1) xs
opened xs i x e = opened_suc xs i x e ∙ ap (λ (k : ℕ). x ∷ drop k xs) (sym (add-one i))

-- nothing past the end
pub none_left : {X : Type 0} (xs : List X) (i : ℕ) → length xs ≤ i → drop i xs ≡ []
none_left [] zero h = refl
none_left [] (suc i) h = refl
none_left (x ∷ xs) zero h = absurd (omega arith)
none_left (x ∷ xs) (suc i) h = none_left xs i (omega arith)
