-- What tests on lists and on options give.
use Rattle.std.proofs.Common.{◌≡◌, refl, ◌<◌, ℕ, Bool, true, false, List, [], ◌∷◌, nat_lt, Option, Some, None}
use Rattle.std.specs.Prelude.{is_some}
use Rattle.std.specs.Option.{option_map, option_to_list}
use Rattle.std.specs.List.{list_all, cons_option, AllByRecursion}
use Rattle.std.proofs.lemmas.Bool.{and_parts, and_from, lt-ltb, ltb-true}

-- what all pass, they pass by a test that passes more
pub all_more : {X : Type 0} (p q : X → Bool) → ((x : X) → p x ≡ true → q x ≡ true) → (xs : List X) →
    list_all p xs ≡ true → list_all q xs ≡ true
all_more p q more [] h = refl
all_more p q more (x ∷ xs) h =
    let parts = and_parts (p x) (list_all p xs) h in
    and_from (q x) (list_all q xs) (more x parts.0) (all_more p q more xs parts.1)

-- numbers that lie below n, as facts and by the test
pub list_all-below : (n : ℕ) (is : List ℕ) → AllByRecursion (λ i. i < n) is → list_all (λ i. nat_lt i n) is ≡ true
list_all-below n [] a = refl
list_all-below n (i ∷ is) a = and_from (nat_lt i n) _ (lt-ltb i n a.0) (list_all-below n is a.1)

pub below-list_all : (n : ℕ) (is : List ℕ) → list_all (λ i. nat_lt i n) is ≡ true → AllByRecursion (λ i. i < n) is
below-list_all n [] h = tt
below-list_all n (i ∷ is) h =
    let parts = and_parts (nat_lt i n) (list_all (λ j. nat_lt j n) is) h in
    (ltb-true i n parts.0, below-list_all n is parts.1)

-- ---- options

pub no-some : {X : Type 0} (o : Option X) → is_some o ≡ false → o ≡ None
no-some None h = refl
no-some (Some x) h = cc

pub none_mapped : {X Y : Type 0} (f : X → Y) (o : Option X) → option_map f o ≡ None → o ≡ None
none_mapped f None h = refl
none_mapped f (Some x) h = cc

pub cons-option : {X : Type 0} (o : Option X) → cons_option o [] ≡ option_to_list o
cons-option None = refl
cons-option (Some x) = refl
