-- Backups behind each of the working routes.
use Rattle.std.proofs.Common.{◌≡◌, refl, sym, ◌∙◌, ap, ℕ, zero, suc, ◌+◌, ◌<◌, List, [], ◌∷◌, ◌++◌, map, take, length, Option, Some, slice_get, ◌⊎◌, inl, inr, add-one, arith}
use Rattle.std.specs.Option.{option_map}
use Rattle.eon_model.specs.declared.Class.{Class}
use Rattle.eon_model.specs.declared.Class.TheVariants.{Bare, Shared, Dual}
use Rattle.eon_model.specs.Legal.{Setup}
use Rattle.eon_model.specs.Route.{Route}
use Rattle.pair_list.specs.Given.{works_of, backups_of, backups_for}
use Rattle.kept_routes.specs.Kept.{backups_at, found_by}

-- ---- one more

none_taken : {X : Type 0} (xs : List X) → take 0 xs ≡ []
none_taken [] = refl
none_taken (x ∷ xs) = refl

map_first : {X Y : Type 0} (f : X → Y) (xs : List X) (n : ℕ) (y : Y) → Some y ≡ option_map f (slice_get xs n) →
    map f (take n xs) ++ (y ∷ []) ≡ map f (take (suc n) xs)
map_first f [] n y h = cc
map_first f (x ∷ xs) zero y h = let is : y ≡ f x = cc in ap (λ v. v ∷ []) is ∙ ap (λ ys. f x ∷ map f ys) (sym (none_taken xs))
map_first f (x ∷ xs) (suc n) y h = ap (λ ys. f x ∷ ys) (map_first f xs n y h)

pub map-more : {X Y : Type 0} (f : X → Y) (xs : List X) (n : ℕ) (y : Y) (old now : List Y) → old ≡ map f (take n xs) →
    Some y ≡ option_map f (slice_get xs n) → now ≡ old ++ (y ∷ []) → now ≡ map f (take (n + 1) xs)
map-more f xs n y old now before h put =
    put ∙ ap (λ ys. ys ++ (y ∷ [])) before ∙ map_first f xs n y h ∙ ap (λ m. map f (take m xs)) (sym (add-one n))

-- ---- the class of the demand

module _ (setup : Setup) (s t : ℕ) where
  none_at : (works : List Route) (rank : ℕ) → rank < length works →
      Some [] ≡ option_map (backups_for setup s t Bare) (slice_get works rank)
  none_at [] rank l = absurd (omega arith)
  none_at (w ∷ works) zero l = refl
  none_at (w ∷ works) (suc rank) l = none_at works rank (omega arith)

  -- a bare demand has no backups
  pub bare-backups : (class : Class) (works : List Route) (rank : ℕ) (rs : List Route) → class ≡ Bare → rs ≡ [] →
      rank < length works → Some rs ≡ option_map (backups_for setup s t class) (slice_get works rank)
  bare-backups class works rank rs bare none low =
      ap Some none ∙ none_at works rank low
      ∙ ap (λ k. option_map (backups_for setup s t k) (slice_get works rank)) (sym bare)

  -- a protected one has those that are sought
  pub safe-backups : (class : Class) (o : Option Route) (rs : List Route) → (class ≡ Shared) ⊎ (class ≡ Dual) →
      Some rs ≡ option_map (backups_of setup s t) o → Some rs ≡ option_map (backups_for setup s t class) o
  safe-backups class o rs safe is = is ∙ ap (λ f. option_map f o) (elim safe [
    | inl e ↦ sym (ap (backups_for setup s t) e)
    | inr e ↦ sym (ap (backups_for setup s t) e)
  ])

  -- ---- backups that are found

  found_there : (works : List Route) (rank : ℕ) → rank < length works →
      Some (backups_at setup s t (slice_get works rank)) ≡ option_map (backups_of setup s t) (slice_get works rank)
  found_there [] rank l = absurd (omega arith)
  found_there (w ∷ works) zero l = refl
  found_there (w ∷ works) (suc rank) l = found_there works rank (omega arith)

  module _ (avoid : Option ℕ) (works : List Route) (of_works : works ≡ works_of setup s t avoid) (rank : ℕ) where
    -- they were kept
    pub backups-kept : (rs : List Route) → rank < length works →
        rs ≡ found_by setup (record { s = s; t = t; avoid = avoid; behind = Some rank }) →
        Some rs ≡ option_map (backups_of setup s t) (slice_get works rank)
    backups-kept rs low is =
        ap Some (is ∙ ap (λ ws. backups_at setup s t (slice_get ws rank)) (sym of_works)) ∙ found_there works rank low

    -- they are searched for
    pub backups-searched : (rs : List Route) (w : Route) → slice_get works rank ≡ Some w → rs ≡ backups_of setup s t w →
        (rs ≡ found_by setup (record { s = s; t = t; avoid = avoid; behind = Some rank }))
        × (Some rs ≡ option_map (backups_of setup s t) (slice_get works rank))
    backups-searched rs w here is = (
      is ∙ ap (backups_at setup s t) (sym here) ∙ ap (λ ws. backups_at setup s t (slice_get ws rank)) of_works,
      ap Some is ∙ ap (option_map (backups_of setup s t)) (sym here),
    )
