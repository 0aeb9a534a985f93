-- Lists cut in two, and how reading goes on after reading.
use Rattle.std.proofs.Common.{◌≡◌, refl, sym, ℕ, ◌≤◌, List, [], ◌∷◌, ◌++◌, length, Result, Ok, Err, ◌⊎◌, inl, inr, arith}
use Rattle.command_text.specs.Reading.{Read, ◌>>=◌}

-- two cuts of one list: the first lies behind the second, or before it
pub two_cuts : (p z u v : List ℕ) → p ++ z ≡ u ++ v →
    ((w : List ℕ) × (p ≡ u ++ w) × (v ≡ w ++ z)) ⊎ ((w : List ℕ) × (u ≡ p ++ w) × (z ≡ w ++ v))
two_cuts [] z u v e = inr (u, refl, e)
two_cuts (b ∷ p) z [] v e = inl (b ∷ p, refl, sym e)
two_cuts (b ∷ p) z (c ∷ u) v e =
    let head : b ≡ c = cc in
    let tail : p ++ z ≡ u ++ v = cc in
    elim (two_cuts p z u v tail) [
      | inl w ↦ inl (w.0, (λ i. head i ∷ w.1 i), w.2)
      | inr w ↦ inr (w.0, (λ i. sym head i ∷ w.1 i), w.2)
    ]

abbrev same_result : {A : Type 0} → Result A ℕ → Result A ℕ → Type 0
same_result r s = r ≡ s

pub ok_is : {A : Type 0} (x y : A) → same_result (Ok x) (Ok y) → x ≡ y
ok_is x y e = cc

pub bind_ok : {A B : Type 0} (r : Result A ℕ) (f : A → Result B ℕ) (y : B) → (r >>= f) ≡ Ok y →
    (x : A) × (r ≡ Ok x) × (f x ≡ Ok y)
bind_ok (Ok x) f y e = (x, refl, e)
bind_ok (Err left) f y e = absurd cc

pub bind_err : {A B : Type 0} (r : Result A ℕ) (f : A → Result B ℕ) (left : ℕ) → (r >>= f) ≡ Err left →
    (r ≡ Err left) ⊎ ((x : A) × (r ≡ Ok x) × (f x ≡ Err left))
bind_err (Ok x) f left e = inr (x, refl, e)
bind_err (Err short) f left e = inl cc

-- how many bytes are left where reading stops
abbrev pub left_of : {A : Type 0} → Read A → ℕ
left_of (Ok found) = length found.1
left_of (Err left) = left

-- reading on leaves no more
pub left_of-bind : {A B : Type 0} (r : Read A) (f : A × List ℕ → Read B) (most : ℕ) →
    ((found : A × List ℕ) → left_of (f found) ≤ length found.1) → left_of r ≤ most → left_of (r >>= f) ≤ most
left_of-bind (Ok found) f most on l = let m = on found in omega arith
left_of-bind (Err left) f most on l = l
