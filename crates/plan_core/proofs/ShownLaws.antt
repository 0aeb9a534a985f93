-- The first routes within reach can be shown: their fibres are the network's, and a format reaches them.
use Rattle.std.proofs.Common.{◌≡◌, refl, ◌∙◌, ap, subst, inl, inr, ℕ, zero, suc, ◌≤◌, ◌<◌, max, Bool, true, false, not, cond, List, [], ◌∷◌, length, filter, find, fold, take, Some, None, arith}
use Rattle.std.specs.Prelude.{nat_le, is_some}
use Rattle.std.specs.List.{list_all, list_any}
use Rattle.std.proofs.lemmas.Bool.{cases_Bool, and_parts, and_from, both_ways, leb-true, leb-false, le-leb}
use Rattle.eon_model.specs.Formats.{Format, reaching, format_for}
use Rattle.eon_model.specs.Network.{Network}
use Rattle.eon_model.specs.Route.{Route, route_of, walks, is_route}
use Rattle.eon_model.specs.Routes.{route_cmp, is_open, lists_of_fibres, all_routes, first_routes}
use Rattle.eon_model.specs.Legal.{Setup}
use Rattle.eon_model.specs.NetworkText.{is_setup}
use Rattle.eon_model.specs.Candidates.{max_reach}
use Rattle.eon_model.proofs.OrderLaws.{IsIn, AllOf, AllOf-sort}
use Rattle.eon_model.proofs.ListLaws.{AllOf-filter, AllOf-map, all_kept}
use Rattle.eon_model.proofs.FirstRoutesLaws.{route_of-is_route, is_route-route_of}
use Rattle.eon_model.proofs.FoundLaws.{found}
use Rattle.eon_model.proofs.ListTests.{list_all-below}
use Rattle.eon_model.proofs.RouteLaws.{walks-IsListed}
use Rattle.eon_model.proofs.SetupLaws.{setup-EndsAreNodes}
use Rattle.std.specs.Option.{option_map}
use Rattle.eon_model.specs.Names.{Name}
use Rattle.eon_model.specs.Replies.{Reply}
use Rattle.eon_model.specs.Step.{Say, or_else, is_node, node_numbered, routes_shown, routes}
use Rattle.eon_model.proofs.SetupFacts.{setup-facts}
use Rattle.reply_text.specs.Tellable.{can_show}

-- ---- a format that reaches

below_all : (rows : List Format) (km acc : ℕ) → acc < km →
    ((f : Format) → IsIn f rows → nat_le km f.reach ≡ false) → fold (λ reach f. max reach f.reach) acc rows < km
below_all [] km acc low none = low
below_all (f ∷ rows) km acc low none =
    let k = leb-false km f.reach (none f (inl refl)) in
    below_all rows km (max acc f.reach) (omega arith) (λ g i. none g (inr i))

-- some row reaches what the greatest reach reaches
some_reaches : (f : Format) (rows : List Format) (km : ℕ) → km ≤ max_reach (f ∷ rows) →
    (g : Format) × IsIn g (f ∷ rows) × (nat_le km g.reach ≡ true)
some_reaches f rows km short = elim (found (λ g. nat_le km g.reach) (f ∷ rows)) [
  | inr some ↦ (some.0, some.2, some.3)
  | inl none ↦
      let first = leb-false km f.reach (none.1 f (inl refl)) in
      let low = below_all (f ∷ rows) km 0 (omega arith) none.1 in absurd (omega arith)
]

kept_step : (p : Format → Bool) (x y : Format) (ys : List Format) (b : Bool) → p y ≡ b →
    (IsIn x ys → IsIn x (filter p ys)) → p x ≡ true → IsIn x (y ∷ ys) → IsIn x (cond b (y ∷ filter p ys) (filter p ys))
kept_step p x y ys true e more t (inl same) = inl same
kept_step p x y ys true e more t (inr i) = inr (more i)
kept_step p x y ys false e more t (inl same) = absurd (both_ways (p y) e (subst (λ (v : Format). p v ≡ true) same t))
kept_step p x y ys false e more t (inr i) = more i

kept : (p : Format → Bool) (x : Format) (xs : List Format) → p x ≡ true → IsIn x xs → IsIn x (filter p xs)
kept p x [] t i = absurd i
kept p x (y ∷ ys) t i = kept_step p x y ys (p y) refl (kept p x ys t) t i

raised : (xs : List Format) (m n : ℕ) → m ≤ n → list_all (λ g. nat_le g.per m) xs ≡ true →
    list_all (λ g. nat_le g.per n) xs ≡ true
raised [] m n low h = refl
raised (x ∷ xs) m n low h =
    let parts = and_parts (nat_le x.per m) (list_all (λ g. nat_le g.per m) xs) h in
    let k = leb-true x.per m parts.0 in
    and_from _ _ (le-leb x.per n (omega arith)) (raised xs m n low parts.1)

-- one of them has as many per slot as any
pub record HasMost (xs : List Format) : Type 0 where
  pub best : Format
  pub among : IsIn best xs
  pub most : list_all (λ g. nat_le g.per best.per) xs ≡ true

best_of : (x : Format) (xs : List Format) → HasMost (x ∷ xs)
best_of x [] = record { best = x; among = inl refl; most = and_from _ _ (le-leb x.per x.per (omega arith)) refl }
best_of x (y ∷ ys) =
    let b = best_of y ys in
    elim (cases_Bool (nat_le x.per b.best.per)) [
      | inl low ↦ record { best = b.best; among = inr b.among; most = and_from _ _ low b.most }
      | inr high ↦
          let k = leb-false x.per b.best.per high in record {
            best = x;
            among = inl refl;
            most = and_from _ _ (le-leb x.per x.per (omega arith)) (raised (y ∷ ys) b.best.per x.per (omega arith) b.most);
          }
    ]

best_in : (x : Format) (xs : List Format) → IsIn x xs → HasMost xs
best_in x [] i = absurd i
best_in x (y ∷ ys) i = best_of y ys

found_some : (rows : List Format) (km : ℕ) → HasMost (reaching rows km) → is_some (format_for rows km) ≡ true
found_some rows km h =
    let xs = reaching rows km in
    elim (found (λ f. list_all (λ g. nat_le g.per f.per) xs) xs) [
      | inr some ↦ ap is_some some.1
      | inl none ↦ absurd (both_ways _ (none.1 h.best h.among) h.most)
    ]

-- a format reaches what the greatest reach reaches
pub reached : (rows : List Format) (km : ℕ) → 1 ≤ length rows → km ≤ max_reach rows →
    is_some (format_for rows km) ≡ true
reached [] km some short = absurd (omega arith)
reached (f ∷ rows) km some short =
    let r = some_reaches f rows km short in
    found_some (f ∷ rows) km
    (best_in r.0 (reaching (f ∷ rows) km) (kept (λ g. nat_le km g.reach) r.0 (f ∷ rows) r.2 r.1))

-- ---- the first routes

-- a route between the nodes, at most so long
pub record IsWithin (net : Network) (s t max_km : ℕ) (r : Route) : Type 0 where
  pub route : is_route net s t r ≡ true
  pub short : nat_le r.km max_km ≡ true

all_within : (net : Network) (s t : ℕ) (banned : ℕ → Bool) (max_km : ℕ) (rs : List Route) →
    AllOf (λ r. is_route net s t r ≡ true) rs → AllOf (λ r. is_open banned max_km r ≡ true) rs →
    AllOf (IsWithin net s t max_km) rs
all_within net s t banned max_km [] a b = tt
all_within net s t banned max_km (r ∷ rs) a b = (
  record { route = a.0; short = (and_parts (not (list_any banned r.fibres)) (nat_le r.km max_km) b.0).1 },
  all_within net s t banned max_km rs a.1 b.1,
)

all_taken : {X : Type 0} (P : X → Type 0) (n : ℕ) (xs : List X) → AllOf P xs → AllOf P (take n xs)
all_taken P zero [] a = tt
all_taken P zero (x ∷ xs) a = tt
all_taken P (suc n) [] a = tt
all_taken P (suc n) (x ∷ xs) a = (a.0, all_taken P n xs a.1)

first_within : (net : Network) (s t : ℕ) (banned : ℕ → Bool) (k max_km : ℕ) →
    AllOf (IsWithin net s t max_km) (first_routes net s t banned k max_km)
first_within net s t banned k max_km =
    let open_ones = filter (is_open banned max_km) (all_routes net s t) in
    let routes : AllOf (λ r. is_route net s t r ≡ true) (all_routes net s t) =
    AllOf-map (λ fibres. walks net.fibres s t fibres ≡ true) (λ r. is_route net s t r ≡ true) (route_of net)
    (route_of-is_route net s t) (filter (walks net.fibres s t) (lists_of_fibres net))
    (all_kept (walks net.fibres s t) (lists_of_fibres net)) in
    all_taken (IsWithin net s t max_km) k _
    (AllOf-sort (route_cmp net) (IsWithin net s t max_km) open_ones
    (all_within net s t banned max_km open_ones
    (AllOf-filter (λ r. is_route net s t r ≡ true) (is_open banned max_km) (all_routes net s t) routes)
    (all_kept (is_open banned max_km) (all_routes net s t))))

all_shown : (setup : Setup) (s t : ℕ) (rs : List Route) → is_setup setup ≡ true → 1 ≤ length setup.formats →
    AllOf (IsWithin setup.network s t (max_reach setup.formats)) rs → list_all (can_show setup) rs ≡ true
all_shown setup s t [] ok some a = refl
all_shown setup s t (r ∷ rs) ok some a =
    let walk = (is_route-route_of setup.network s t r a.0.route).1 in
    let listed = walks-IsListed setup.network s t r.fibres (setup-EndsAreNodes setup ok) walk in
    and_from _ _
    (and_from _ _ (list_all-below (length setup.network.fibres) r.fibres listed.fibres)
    (reached setup.formats r.km some (leb-true r.km (max_reach setup.formats) a.0.short)))
    (all_shown setup s t rs ok some a.1)

pub first-shown : (setup : Setup) (s t : ℕ) (banned : ℕ → Bool) (k : ℕ) → is_setup setup ≡ true →
    1 ≤ length setup.formats →
    list_all (can_show setup) (first_routes setup.network s t banned k (max_reach setup.formats)) ≡ true
first-shown setup s t banned k ok some =
    all_shown setup s t _ ok some (first_within setup.network s t banned k (max_reach setup.formats))

-- ---- the answer

-- the routes that are shown can be shown
pub shown-over : (setup : Setup) (s t : ℕ) (rs : List Route) → is_setup setup ≡ true → rs ≡ routes_shown setup s t →
    list_all (can_show setup) rs ≡ true
shown-over setup s t rs ok is =
    ap (list_all (can_show setup)) is ∙ first-shown setup s t (λ fibre. false) setup.k ok (setup-facts setup ok).some_formats

-- an end that is no node
pub routes-unknown : (setup : Setup) (s t name : Name) →
    Some name ≡ find (λ n. not (is_node setup.network n)) (s ∷ t ∷ []) →
    Say (Reply.Unknown name) ≡ routes setup s t
unfolding or_else
routes-unknown setup s t name e =
    ap (λ o. or_else (option_map Reply.Unknown o)
    (Say (Reply.Routes (routes_shown setup (node_numbered setup.network s) (node_numbered setup.network t))))) e

pub routes-known : (setup : Setup) (s t : Name) (rs : List Route) →
    None ≡ find (λ n. not (is_node setup.network n)) (s ∷ t ∷ []) →
    rs ≡ routes_shown setup (node_numbered setup.network s) (node_numbered setup.network t) →
    Say (Reply.Routes rs) ≡ routes setup s t
unfolding or_else
routes-known setup s t rs none is =
    ap (λ v. Say (Reply.Routes v)) is
    ∙ ap (λ o. or_else (option_map Reply.Unknown o)
    (Say (Reply.Routes (routes_shown setup (node_numbered setup.network s) (node_numbered setup.network t))))) none
