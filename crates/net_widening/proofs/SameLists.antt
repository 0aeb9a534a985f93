-- Lists that are compared element by element.
use Rattle.std.proofs.Common.{◌≡◌, sym, ◌∙◌, ap, ℕ, suc, ◌+◌, ◌<◌, Bool, true, false, ◌&&◌, List, ◌∷◌, length, drop, drop-cons, Some, slice_get, arith}
use Rattle.std.specs.Option.{unwrap_or}
use Rattle.std.proofs.lemmas.Option.{get_or_from_slice_get, slice_get-get_or, slice_get_within, unwrap_or-slice_get}
use Rattle.eon_model.specs.Wider.{all_same}

-- the element at a place within the list
pub stands-at : {X : Type 0} (xs : List X) (i : ℕ) (d x : X) → i < length xs → x ≡ unwrap_or (slice_get xs i) d →
    slice_get xs i ≡ Some x
stands-at xs i d x l e = slice_get-get_or xs i d l ∙ ap Some (sym (unwrap_or-slice_get xs i d)) ∙ ap Some (sym e)

rest-from : {X : Type 0} (xs : List X) (i : ℕ) (x : X) → slice_get xs i ≡ Some x → drop i xs ≡ x ∷ drop (i + 1) xs
rest-from xs i x e =
    let one : suc i ≡ i + 1 = omega arith in
    drop-cons xs i x (slice_get_within xs i x e) ∙ ap (λ y. y ∷ drop (suc i) xs) (get_or_from_slice_get xs i x x e)
    ∙ ap (λ k. x ∷ drop k xs) one

-- What stands before place i is the same, and here it is x and y.
one-more : {X : Type 0} (same : X → X → Bool) (xs ys : List X) (i : ℕ) (x y : X) (b : Bool) →
    all_same same xs ys ≡ all_same same (drop i xs) (drop i ys) → slice_get xs i ≡ Some x → slice_get ys i ≡ Some y →
    same x y ≡ b → all_same same xs ys ≡ (b && all_same same (drop (i + 1) xs) (drop (i + 1) ys))
one-more same xs ys i x y b h p q here =
    h ∙ (λ t. all_same same (rest-from xs i x p t) (rest-from ys i y q t))
    ∙ ap (λ c. c && all_same same (drop (i + 1) xs) (drop (i + 1) ys)) here

-- so is what stands before the next place
pub same-here : {X : Type 0} (same : X → X → Bool) (xs ys : List X) (i : ℕ) (x y : X) →
    all_same same xs ys ≡ all_same same (drop i xs) (drop i ys) → slice_get xs i ≡ Some x → slice_get ys i ≡ Some y →
    same x y ≡ true → all_same same xs ys ≡ all_same same (drop (i + 1) xs) (drop (i + 1) ys)
same-here same xs ys i x y h p q here = one-more same xs ys i x y true h p q here

-- the lists differ here
pub other-here : {X : Type 0} (same : X → X → Bool) (xs ys : List X) (i : ℕ) (x y : X) →
    all_same same xs ys ≡ all_same same (drop i xs) (drop i ys) → slice_get xs i ≡ Some x → slice_get ys i ≡ Some y →
    same x y ≡ false → false ≡ all_same same xs ys
other-here same xs ys i x y h p q here = sym (one-more same xs ys i x y false h p q here)
