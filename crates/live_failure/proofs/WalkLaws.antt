-- Walks over a list, place by place.
use Rattle.std.proofs.Common.{◌≡◌, refl, sym, ◌∙◌, ap, inl, inr, ℕ, zero, suc, ◌+◌, ◌≤◌, ◌<◌, add-one, arith, Bool, true, false, ◌||◌, List, [], ◌∷◌, ◌++◌, append_assoc, length, length-drop, take, drop, Some}
use Rattle.std.specs.Prelude.{slice_get}
use Rattle.std.specs.List.{list_any, flat_map}
use Rattle.std.proofs.lemmas.List.{append-nil, nil_from_length}
use Rattle.std.proofs.lemmas.Grind.{flat_map-append}
use Rattle.eon_model.proofs.OrderLaws.{IsIn}

drop_suc : {X : Type 0} (xs : List X) (i : ℕ) (x : X) → slice_get xs i ≡ Some x → drop i xs ≡ x ∷ drop (suc i) xs
drop_suc [] i x e = absurd cc
drop_suc (y ∷ xs) zero x e = let same : y ≡ x = cc in ap (λ v. v ∷ xs) same
drop_suc (y ∷ xs) (suc i) x e = drop_suc xs i x e

-- the element at a place, and those behind it
pub drop-at : {X : Type 0} (xs : List X) (i : ℕ) (x : X) → slice_get xs i ≡ Some x → drop i xs ≡ x ∷ drop (i + 1) xs
drop-at xs i x e = rw (add-one i) (drop_suc xs i x e)

pub drop-end : {X : Type 0} (xs : List X) (i : ℕ) → length xs ≤ i → drop i xs ≡ []
drop-end xs i l = let rest = length-drop i xs in nil_from_length (drop i xs) (omega arith)

take_suc : {X : Type 0} (xs : List X) (i : ℕ) (x : X) → slice_get xs i ≡ Some x → take (suc i) xs ≡ take i xs ++ x ∷ []
take_suc [] i x e = absurd cc
take_suc (y ∷ xs) zero x e = let same : y ≡ x = cc in ap (λ v. v ∷ []) same
take_suc (y ∷ xs) (suc i) x e = ap (λ v. y ∷ v) (take_suc xs i x e)

pub take-at : {X : Type 0} (xs : List X) (i : ℕ) (x : X) → slice_get xs i ≡ Some x → take (i + 1) xs ≡ take i xs ++ x ∷ []
take-at xs i x e = rw (add-one i) (take_suc xs i x e)

pub flat-flat : {X Y Z : Type 0} (f : X → List Y) (g : Y → List Z) (xs : List X) →
    flat_map g (flat_map f xs) ≡ flat_map (λ x. flat_map g (f x)) xs
flat-flat f g [] = refl
flat-flat f g (x ∷ xs) = flat_map-append g (f x) (flat_map f xs) ∙ ap (λ zs. flat_map g (f x) ++ zs) (flat-flat f g xs)

pub flat-same : {X Y : Type 0} (f g : X → List Y) (xs : List X) → ((x : X) → IsIn x xs → f x ≡ g x) →
    flat_map f xs ≡ flat_map g xs
flat-same f g [] h = refl
flat-same f g (x ∷ xs) h = λ i. h x (inl refl) i ++ flat-same f g xs (λ y j. h y (inr j)) i

-- a walk that looks for one that passes
pub any-past : {X : Type 0} (test : X → Bool) (xs : List X) (i : ℕ) (x : X) (b : Bool) → slice_get xs i ≡ Some x →
    test x ≡ false → list_any test (drop i xs) ≡ b → list_any test (drop (i + 1) xs) ≡ b
any-past test xs i x b e h inv = ap (λ t. t || list_any test (drop (i + 1) xs)) (sym h) ∙ ap (list_any test) (sym (drop-at xs i x e)) ∙ inv

pub any-here : {X : Type 0} (test : X → Bool) (xs : List X) (i : ℕ) (x : X) (b : Bool) → slice_get xs i ≡ Some x →
    test x ≡ true → list_any test (drop i xs) ≡ b → true ≡ b
any-here test xs i x b e h inv = ap (λ t. t || list_any test (drop (i + 1) xs)) (sym h) ∙ ap (list_any test) (sym (drop-at xs i x e)) ∙ inv

pub any-end : {X : Type 0} (test : X → Bool) (xs : List X) (i : ℕ) (b : Bool) → length xs ≤ i →
    list_any test (drop i xs) ≡ b → false ≡ b
any-end test xs i b l inv = ap (list_any test) (sym (drop-end xs i l)) ∙ inv

-- a walk that lists
pub flat-step : {X Y : Type 0} (f : X → List Y) (xs : List X) (i : ℕ) (x : X) (ys all : List Y) → slice_get xs i ≡ Some x →
    ys ++ flat_map f (drop i xs) ≡ all → (ys ++ f x) ++ flat_map f (drop (i + 1) xs) ≡ all
flat-step f xs i x ys all e inv =
    append_assoc ys (f x) (flat_map f (drop (i + 1) xs)) ∙ ap (λ v. ys ++ flat_map f v) (sym (drop-at xs i x e)) ∙ inv

pub flat-end : {X Y : Type 0} (f : X → List Y) (xs : List X) (i : ℕ) (ys all : List Y) → length xs ≤ i →
    ys ++ flat_map f (drop i xs) ≡ all → ys ≡ all
flat-end f xs i ys all l inv = sym (append-nil ys) ∙ ap (λ v. ys ++ flat_map f v) (sym (drop-end xs i l)) ∙ inv

-- the element at a place of the list
pub at-place : {X : Type 0} (xs : List X) (i : ℕ) → i < length xs → (x : X) × (slice_get xs i ≡ Some x)
at-place [] i l = absurd (omega arith)
at-place (x ∷ xs) zero l = (x, refl)
at-place (x ∷ xs) (suc i) l = at-place xs i (omega arith)
