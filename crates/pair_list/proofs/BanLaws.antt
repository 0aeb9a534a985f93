-- Which fibres a search leaves out, as a set and as a test.
use Rattle.std.proofs.Common.{◌≡◌, refl, sym, ◌∙◌, ap, ℕ, ◌+◌, ◌-◌, ◌<◌, ◌≤◌, ◌⊎◌, inl, inr, nat_eq, Bool, true, false, cond, ◌||◌, ◌&&◌, not, List, [], ◌∷◌, filter, take, length, Option, Some, None, arith}
use Rattle.std.specs.Prelude.{nat_le, IfSome}
use Rattle.std.specs.List.{list_any, range_with_len}
use Rattle.std.specs.Ordering.{nat_cmp}
use Rattle.std.specs.Cmp.{nat_eq_equiv}
use Rattle.std.specs.FinSet.{contains, insert, empty, contains-empty}
use Rattle.std.proofs.lemmas.Bool.{cases_lt, eq-eqb, ne_eqb}
use Rattle.std.proofs.lemmas.List.{append-nil}
use Rattle.eon_model.specs.Candidates.{is_avoided, fails_with}
use Rattle.eon_model.specs.Sets.{NumberSet, has_member, set_of, meets}
use Rattle.eon_model.specs.Network.{Network, risks_of_fibre}
use Rattle.eon_model.specs.Route.{Route, route_of, walks}
use Rattle.eon_model.specs.Routes.{route_cmp, is_open, lists_of_fibres, all_routes, first_routes}
use Rattle.eon_model.specs.Lists.{sort_by}
use Rattle.eon_model.specs.Legal.{Setup}
use Rattle.eon_model.specs.NetworkText.{is_setup}
use Rattle.eon_model.proofs.SetupLaws.{setup-network, network-parts}
use Rattle.eon_model.proofs.OrderLaws.{AllOf}
use Rattle.eon_model.proofs.ListLaws.{AllOf-more, AllOf-map, AllOf-filter, lists_of_kind, range_below}
use Rattle.eon_model.proofs.SetLaws.{member-insert}

or_none : (b : Bool) → (b || false) ≡ b
or_none true = refl
or_none false = refl

-- ---- the fibre to avoid

pub avoided-one : (fibre i : ℕ) → has_member (insert empty fibre) i ≡ is_avoided (Some fibre) i
avoided-one fibre i =
    member-insert empty fibre i
    ∙ ap (λ b. nat_eq i fibre || b) (contains-empty nat_cmp i)
    ∙ or_none (nat_eq i fibre) ∙ nat_eq_equiv.symm i fibre

pub avoided-none : (i : ℕ) → has_member empty i ≡ is_avoided None i
avoided-none i = contains-empty nat_cmp i

pub avoid-small : (avoid : Option ℕ) (setup : Setup) → is_setup setup ≡ true →
    IfSome avoid (λ fibre. fibre < length setup.network.fibres) → IfSome avoid (λ fibre. fibre < 128)
avoid-small None setup ok known = known
avoid-small (Some fibre) setup ok known =
    let few = (network-parts setup.network (setup-network setup ok)).few_fibres in
    omega arith

-- ---- the fibres below n that pass a test

pub record HasBelow (test : ℕ → Bool) (n : ℕ) (s : NumberSet) : Type 0 where
  pub below : (i : ℕ) → i < n → has_member s i ≡ test i
  pub above : (i : ℕ) → n ≤ i → has_member s i ≡ false

pub has-none : (test : ℕ → Bool) → HasBelow test 0 empty
has-none test = record {
  below = λ i l. absurd (omega arith);
  above = λ i l. contains-empty nat_cmp i;
}

other : (s : NumberSet) (n i : ℕ) → (i ≡ n → ⊥) → has_member (insert s n) i ≡ has_member s i
other s n i ne = member-insert s n i ∙ ap (λ b. b || contains s i) (ne_eqb i n ne)

itself : (s : NumberSet) (n : ℕ) → has_member (insert s n) n ≡ true
itself s n = member-insert s n n ∙ ap (λ b. b || contains s n) (eq-eqb n n refl)

below_or_here : (n i : ℕ) → i < n + 1 → (i < n) ⊎ (i ≡ n)
below_or_here n i l = elim (cases_lt i n) [ inl less ↦ inl less | inr past ↦ inr (omega arith) ]

more_by : (test : ℕ → Bool) (n : ℕ) (s : NumberSet) (b : Bool) → test n ≡ b → HasBelow test n s →
    HasBelow test (n + 1) (cond b (insert s n) s)
more_by test n s true e h = record {
  below = λ i l. elim (below_or_here n i l) [
    | inl less ↦ other s n i (λ same. absurd (omega arith)) ∙ h.below i less
    | inr here ↦ ap (has_member (insert s n)) here ∙ itself s n ∙ sym e ∙ ap test (sym here)
  ];
  above = λ i l. other s n i (λ same. absurd (omega arith)) ∙ h.above i (omega arith);
}
more_by test n s false e h = record {
  below = λ i l. elim (below_or_here n i l) [
    | inl less ↦ h.below i less
    | inr here ↦ ap (has_member s) here ∙ h.above n (omega arith) ∙ sym e ∙ ap test (sym here)
  ];
  above = λ i l. h.above i (omega arith);
}

pub has-more : (test : ℕ → Bool) (n : ℕ) (s : NumberSet) → HasBelow test n s →
    HasBelow test (n + 1) (cond (test n) (insert s n) s)
has-more test n s h = more_by test n s (test n) refl h

-- ---- searches that leave out the same fibres

any_alike : (b c : ℕ → Bool) (n : ℕ) → ((i : ℕ) → i < n → b i ≡ c i) → (p : List ℕ) → AllOf (λ i. i < n) p →
    list_any b p ≡ list_any c p
any_alike b c n same [] a = refl
any_alike b c n same (i ∷ p) a = λ j. same i a.0 j || any_alike b c n same p a.1 j

open_alike : (b c : ℕ → Bool) (max_km n : ℕ) → ((i : ℕ) → i < n → b i ≡ c i) → (rs : List Route) →
    AllOf (λ r. AllOf (λ i. i < n) r.fibres) rs → filter (is_open b max_km) rs ≡ filter (is_open c max_km) rs
open_alike b c max_km n same [] a = refl
open_alike b c max_km n same (r ∷ rs) a =
    λ j. cond (not (any_alike b c n same r.fibres a.0 j) && nat_le r.km max_km)
    (r ∷ open_alike b c max_km n same rs a.1 j) (open_alike b c max_km n same rs a.1 j)

routes_known : (net : Network) (s t : ℕ) →
    AllOf (λ r. AllOf (λ i. i < length net.fibres) r.fibres) (all_routes net s t)
routes_known net s t =
    let n = length net.fibres in
    let lists = lists_of_fibres net in
    AllOf-map (AllOf (λ i. i < n)) (λ r. AllOf (λ i. i < n) r.fibres) (route_of net) (λ p h. h)
    (filter (walks net.fibres s t) lists)
    (AllOf-filter (AllOf (λ i. i < n)) (walks net.fibres s t) lists
    (lists_of_kind (λ i. i < n) (length net.nodes - 1) (range_with_len 0 n)
    (AllOf-more (λ i. i < 0 + n) (λ i. i < n) (λ i l. omega arith) (range_with_len 0 n) (range_below 0 n))))

-- only the network's fibres matter
pub routes-alike : (net : Network) (s t : ℕ) (b c : ℕ → Bool) (k max_km : ℕ) →
    ((i : ℕ) → i < length net.fibres → b i ≡ c i) →
    first_routes net s t b k max_km ≡ first_routes net s t c k max_km
routes-alike net s t b c k max_km same =
    ap (λ rs. take k (sort_by (route_cmp net) rs))
    (open_alike b c max_km (length net.fibres) same (all_routes net s t) (routes_known net s t))

-- a fibre by itself has its own risks
pub fails-alone : (net : Network) (r : Route) (i : ℕ) →
    meets (set_of (risks_of_fibre net i)) r.risk ≡ fails_with net r i
fails-alone net r i = ap (λ risks. meets (set_of risks) r.risk) (sym (append-nil (risks_of_fibre net i)))
