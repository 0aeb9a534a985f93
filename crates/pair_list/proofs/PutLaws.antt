-- Routes put in one after another, as far as they are within reach.
use Rattle.std.proofs.Common.{◌≡◌, refl, sym, ◌∙◌, ap, ℕ, zero, suc, ◌+◌, ◌<◌, List, [], ◌∷◌, ◌++◌, length, take, Option, Some, None, slice_get, append_assoc, add-one, arith}
use Rattle.std.specs.List.{filter_map, cons_option}
use Rattle.std.specs.Option.{option_and_then, option_to_list}
use Rattle.std.proofs.lemmas.List.{map-append}
use Rattle.std.proofs.lemmas.Grind.{flat_map-append}
use Rattle.eon_model.specs.declared.Class.{Class}
use Rattle.eon_model.specs.declared.Class.TheVariants.{Bare, Shared, Dual}
use Rattle.eon_model.specs.Legal.{Setup}
use Rattle.eon_model.specs.Candidates.{SizedRoute, alone, backed, candidates_over}
use Rattle.eon_model.proofs.ListTests.{cons-option}

cons_append : {X : Type 0} (o : Option X) (xs ys : List X) → cons_option o (xs ++ ys) ≡ cons_option o xs ++ ys
cons_append None xs ys = refl
cons_append (Some x) xs ys = refl

none_taken : {X : Type 0} (xs : List X) → take 0 xs ≡ []
none_taken [] = refl
none_taken (x ∷ xs) = refl

pub filter_map-first : {X Y : Type 0} (f : X → Option Y) (xs : List X) (n : ℕ) → n < length xs →
    filter_map f (take (suc n) xs) ≡ filter_map f (take n xs) ++ option_to_list (option_and_then f (slice_get xs n))
filter_map-first f [] n l = absurd (omega arith)
filter_map-first f (x ∷ xs) zero l =
    ap (λ ys. cons_option (f x) (filter_map f ys)) (none_taken xs) ∙ cons-option (f x)
filter_map-first f (x ∷ xs) (suc n) l =
    ap (cons_option (f x)) (filter_map-first f xs n (omega arith))
    ∙ cons_append (f x) (filter_map f (take n xs)) (option_to_list (option_and_then f (slice_get xs n)))

-- what one more gives, put behind what the first n gave
pub put-more : {X Y Z : Type 0} (h : List Y → List Z) → ((ys zs : List Y) → h (ys ++ zs) ≡ h ys ++ h zs) →
    (f : X → Option Y) (xs : List X) (n : ℕ) (start : List Z) → n < length xs →
    (start ++ h (filter_map f (take n xs))) ++ h (option_to_list (option_and_then f (slice_get xs n)))
    ≡ start ++ h (filter_map f (take (n + 1) xs))
put-more h joins f xs n start l =
    let these = filter_map f (take n xs) in
    let next = option_to_list (option_and_then f (slice_get xs n)) in
    let more : filter_map f (take (n + 1) xs) ≡ these ++ next =
    ap (λ m. filter_map f (take m xs)) (add-one n) ∙ filter_map-first f xs n l in
    append_assoc start (h these) (h next) ∙ ap (λ zs. start ++ zs) (sym (joins these next))
    ∙ ap (λ ys. start ++ h ys) (sym more)

-- one more step of a loop that puts them in
pub put-step : {X Y Z : Type 0} (h : List Y → List Z) → ((ys zs : List Y) → h (ys ++ zs) ≡ h ys ++ h zs) →
    (f : X → Option Y) (xs : List X) (n : ℕ) (start old now : List Z) (o : Option Y) → n < length xs →
    old ≡ start ++ h (filter_map f (take n xs)) → o ≡ option_and_then f (slice_get xs n) →
    now ≡ old ++ h (option_to_list o) → now ≡ start ++ h (filter_map f (take (n + 1) xs))
put-step h joins f xs n start old now o l before found put =
    put ∙ (λ i. before i ++ h (option_to_list (found i))) ∙ put-more h joins f xs n start l

pub over-joins : (setup : Setup) (s t rate : ℕ) (class : Class) (xs ys : List SizedRoute) →
    candidates_over setup s t rate class (xs ++ ys)
    ≡ candidates_over setup s t rate class xs ++ candidates_over setup s t rate class ys
over-joins setup s t rate Bare xs ys = map-append alone xs ys
over-joins setup s t rate Shared xs ys = flat_map-append (backed setup s t rate) xs ys
over-joins setup s t rate Dual xs ys = flat_map-append (backed setup s t rate) xs ys
