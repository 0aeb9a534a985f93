-- There are at most 256 candidates.
use Rattle.std.proofs.Common.{ℕ, ◌+◌, ◌*◌, ◌≤◌, ◌≡◌, Bool, true, List, [], ◌∷◌, filter, take, length, Option, Some, None, arith, length-append}
use Rattle.std.specs.List.{filter_map, cons_option, flat_map}
use Rattle.std.proofs.lemmas.List.{length-take, length-map}
use Rattle.eon_model.specs.declared.Class.{Class}
use Rattle.eon_model.specs.declared.Class.TheVariants.{Bare, Shared, Dual}
use Rattle.eon_model.specs.Legal.{Setup}
use Rattle.eon_model.specs.NetworkText.{is_setup}
use Rattle.eon_model.specs.Lists.{sort_by}
use Rattle.eon_model.specs.Routes.{route_cmp, is_open, all_routes, first_routes}
use Rattle.eon_model.specs.Candidates.{SizedRoute, max_reach, sized, routes_within_reach, is_avoided, fails_with, alone, with_backup, backed, candidates_over, candidates}
use Rattle.eon_model.proofs.SetupFacts.{setup-facts}

length_cons : {X : Type 0} (o : Option X) (xs : List X) → length (cons_option o xs) ≤ length xs + 1
length_cons None xs = omega arith
length_cons (Some x) xs = omega arith

length_kept : {X Y : Type 0} (f : X → Option Y) (xs : List X) → length (filter_map f xs) ≤ length xs
length_kept f [] = omega arith
length_kept f (x ∷ xs) =
    let rest = length_kept f xs in
    let here = length_cons (f x) (filter_map f xs) in
    omega arith

length_taken : {X : Type 0} (n : ℕ) (xs : List X) → length (take n xs) ≤ n
length_taken n xs = omega (arith, length-take n xs)

few_flat : {X Y : Type 0} (f : X → List Y) → ((x : X) → length (f x) ≤ 16) → (xs : List X) →
    length (flat_map f xs) ≤ 16 * length xs
few_flat f few [] = omega arith
few_flat f few (x ∷ xs) =
    let here = few x in
    let rest = few_flat f few xs in
    omega (arith, length-append (f x) (flat_map f xs))

module _ (setup : Setup) (s t rate : ℕ) (ok : is_setup setup ≡ true) where
  few_routes : (banned : ℕ → Bool) → length (routes_within_reach setup s t rate banned) ≤ 16
  few_routes banned =
      let k = (setup-facts setup ok).few_k in
      let kept = length_kept (sized setup rate)
      (first_routes setup.network s t banned setup.k (max_reach setup.formats)) in
      let taken = length_taken setup.k (sort_by (route_cmp setup.network)
      (filter (is_open banned (max_reach setup.formats)) (all_routes setup.network s t))) in
      omega (arith, k, kept, taken)

  few_backed : (w : SizedRoute) → length (backed setup s t rate w) ≤ 16
  few_backed w =
      let backs = routes_within_reach setup s t rate (fails_with setup.network w.route) in
      let few = few_routes (fails_with setup.network w.route) in
      omega (arith, few, length-map backs (with_backup w))

  few_over : (class : Class) (works : List SizedRoute) → length works ≤ 16 →
      length (candidates_over setup s t rate class works) ≤ 256
  few_over Bare works few = omega (arith, few, length-map works alone)
  few_over Shared works few = omega (arith, few, few_flat (backed setup s t rate) few_backed works)
  few_over Dual works few = omega (arith, few, few_flat (backed setup s t rate) few_backed works)

-- a demand's candidates, over a setup in range
pub few-candidates : (setup : Setup) (s t rate : ℕ) (class : Class) (avoid : Option ℕ) → is_setup setup ≡ true →
    length (candidates setup s t rate class avoid) ≤ 256
few-candidates setup s t rate class avoid ok =
    few_over setup s t rate ok class (routes_within_reach setup s t rate (is_avoided avoid))
    (few_routes setup s t rate ok (is_avoided avoid))
