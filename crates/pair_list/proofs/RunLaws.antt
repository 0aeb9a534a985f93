-- How many runs the search for candidates takes.
use Rattle.std.proofs.Common.{◌≡◌, refl, ◌∙◌, ap, ℕ, ◌+◌, ◌*◌, ◌<◌, ◌≤◌, Bool, true, List, [], ◌++◌, length, take, Option, Some, slice_get, filter, length-take, add-one, Ok, Err, Result, arith}
use Rattle.std.proofs.Math.Nat.{mul-le-mul_right}
use Rattle.std.specs.Prelude.{IfOk}
use Rattle.std.specs.List.{filter_map}
use Rattle.std.specs.Option.{option_and_then, option_to_list}
use Rattle.std.proofs.lemmas.Bool.{false≢true}
use Rattle.std.proofs.lemmas.List.Sums.{sum_by-append}
use Rattle.eon_model.specs.declared.Class.{Class}
use Rattle.eon_model.specs.declared.Class.TheVariants.{Bare, Shared, Dual}
use Rattle.eon_model.specs.Lists.{sort_by}
use Rattle.eon_model.specs.Network.{Network, risks_of_fibre}
use Rattle.eon_model.specs.Route.{Route}
use Rattle.eon_model.specs.Routes.{route_cmp, is_open, all_routes, first_routes}
use Rattle.eon_model.specs.Sets.{NumberSet, set_of, meets}
use Rattle.eon_model.specs.Legal.{Setup, is_protected}
use Rattle.eon_model.specs.Candidates.{SizedRoute, max_reach, sized, is_avoided}
use Rattle.route_list.specs.Pools.{runs_for}
use Rattle.pair_list.specs.Runs.{runs_within, runs_behind, runs_over, runs_of_demand, most_within, most_behind, most_for_demand}
use Rattle.pair_list.proofs.PutLaws.{filter_map-first}
use Rattle.pair_list.proofs.FoundLaws.{backups-found}

pub runs-join : (setup : Setup) (s t : ℕ) (class : Class) (xs ys : List SizedRoute) →
    runs_over setup s t class (xs ++ ys) ≡ runs_over setup s t class xs + runs_over setup s t class ys
runs-join setup s t Bare xs ys = omega arith
runs-join setup s t Shared xs ys = sum_by-append (runs_behind setup s t) xs ys
runs-join setup s t Dual xs ys = sum_by-append (runs_behind setup s t) xs ys

-- for one working route whose backups are sought
pub runs-one : (setup : Setup) (s t : ℕ) (class : Class) (o : Option SizedRoute) (w : SizedRoute) → o ≡ Some w →
    is_protected class ≡ true → runs_over setup s t class (option_to_list o) ≡ runs_behind setup s t w
runs-one setup s t Bare o w is b = absurd (false≢true b)
runs-one setup s t Shared o w is b =
    ap (λ p. runs_over setup s t Shared (option_to_list p)) is ∙ omega arith
runs-one setup s t Dual o w is b =
    ap (λ p. runs_over setup s t Dual (option_to_list p)) is ∙ omega arith

pub runs-none : (setup : Setup) (s t : ℕ) (class : Class) → runs_over setup s t class [] ≡ 0
runs-none setup s t Bare = refl
runs-none setup s t Shared = refl
runs-none setup s t Dual = refl

pub most-one : (setup : Setup) (class : Class) → is_protected class ≡ true → most_behind setup class ≡ most_within setup
most-one setup Bare b = absurd (false≢true b)
most-one setup Shared b = refl
most-one setup Dual b = refl

-- one more step of a loop that counts
pub count-step : {X Y : Type 0} (h : List Y → ℕ) → ((ys zs : List Y) → h (ys ++ zs) ≡ h ys + h zs) →
    (f : X → Option Y) (xs : List X) (n start old now : ℕ) (o : Option Y) → n < length xs →
    old ≡ start + h (filter_map f (take n xs)) → o ≡ option_and_then f (slice_get xs n) →
    now ≡ old + h (option_to_list o) → now ≡ start + h (filter_map f (take (n + 1) xs))
count-step h joins f xs n start old now o l before found put =
    let these = filter_map f (take n xs) in
    let next = option_to_list (option_and_then f (slice_get xs n)) in
    let more : filter_map f (take (n + 1) xs) ≡ these ++ next =
    ap (λ m. filter_map f (take m xs)) (add-one n) ∙ filter_map-first f xs n l in
    let all = ap h more ∙ joins these next in
    let one = ap (λ p. h (option_to_list p)) found in
    omega (arith, all, one, before, put)

-- so many for each of the first n, and for one more
pub most-step : (n b start old now : ℕ) → old ≤ start + n * b → now ≤ old + b → now ≤ start + (n + 1) * b
most-step n b start old now h l = omega (arith, h, l)

-- no more for some of them than for all
pub most-of : (n m b start now : ℕ) → n ≤ m → now ≤ start + n * b → now ≤ start + m * b
most-of n m b start now l h = let more = mul-le-mul_right b l in omega (arith, h, more)

-- there are at most k first routes
pub few-first : (net : Network) (s t : ℕ) (banned : ℕ → Bool) (k max_km : ℕ) →
    length (first_routes net s t banned k max_km) ≤ k
few-first net s t banned k max_km =
    let few = length-take k (sort_by (route_cmp net) (filter (is_open banned max_km) (all_routes net s t))) in
    omega (arith, few)

-- a search over a set of sharers takes as many runs as one for the backups
pub runs-behind-found : (setup : Setup) (s t : ℕ) (w : SizedRoute) (banned : ℕ → Bool) (net : Network)
    (risks : NumberSet) → net ≡ setup.network → risks ≡ w.route.risk →
    ((i : ℕ) → i < length net.fibres → banned i ≡ meets (set_of (risks_of_fibre net i)) risks) →
    runs_within setup s t banned ≡ runs_behind setup s t w
runs-behind-found setup s t w banned net risks same_net same_risks same =
    ap (runs_for setup.k) (backups-found setup s t w banned net risks same_net same_risks same)

-- the runs for the working routes and for their backups together
pub runs-found : (setup : Setup) (s t rate : ℕ) (class : Class) (avoid : Option ℕ) (works : List Route)
    (banned : ℕ → Bool) (start between now : ℕ) → ((i : ℕ) → banned i ≡ is_avoided avoid i) →
    works ≡ first_routes setup.network s t banned setup.k (max_reach setup.formats) →
    between ≡ start + runs_within setup s t banned →
    now ≡ between + runs_over setup s t class (filter_map (sized setup rate) works) →
    now ≡ start + runs_of_demand setup s t rate class avoid
runs-found setup s t rate class avoid works banned start between now same found works_runs all_runs =
    let same_works = ap (λ rs. runs_over setup s t class (filter_map (sized setup rate) rs)) (found
    ∙ (λ j. first_routes setup.network s t (λ i. same i j) setup.k (max_reach setup.formats))) in
    let same_runs : runs_within setup s t banned ≡ runs_within setup s t (is_avoided avoid) =
    λ j. runs_within setup s t (λ i. same i j) in
    omega (arith, same_works, same_runs, works_runs, all_runs)

-- and at most so many
pub most-found : (setup : Setup) (s t : ℕ) (class : Class) (works : List Route) (banned : ℕ → Bool)
    (start between now : ℕ) → works ≡ first_routes setup.network s t banned setup.k (max_reach setup.formats) →
    between ≤ start + most_within setup → now ≤ between + length works * most_behind setup class →
    now ≤ start + most_for_demand setup class
most-found setup s t class works banned start between now found first all =
    let few = few-first setup.network s t banned setup.k (max_reach setup.formats) in
    let long = ap length found in
    let more = most-of (length works) setup.k (most_behind setup class) between now (omega (arith, few, long)) all in
    omega (arith, first, more)

-- so many runs gave these routes
pub runs-told : {E : Type 0} (setup : Setup) (s t : ℕ) (banned : ℕ → Bool) (result : Result (List Route) E) (k old now : ℕ) →
    k ≡ setup.k → IfOk result (λ rs. rs ≡ first_routes setup.network s t banned setup.k (max_reach setup.formats)) →
    IfOk result (λ rs. now ≡ old + runs_for k rs) → IfOk result (λ rs. now ≡ old + runs_within setup s t banned)
runs-told setup s t banned (Ok rs) k old now same found runs = runs ∙ (λ i. old + runs_for (same i) (found i))
runs-told setup s t banned (Err e) k old now same found runs = tt
