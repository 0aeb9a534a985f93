-- Services of a legal state lie on the network.
use Rattle.std.proofs.Common.{◌≡◌, refl, subst, ℕ, ◌<◌, true, ◌&&◌, ◌||◌, not, List, [], ◌∷◌, length, Option, Some, None, is_some, inl, inr, arith}
use Rattle.std.specs.Prelude.{IfSome, nat_le, slice_get}
use Rattle.std.specs.Option.{option_map, option_and_then, option_to_list}
use Rattle.std.specs.List.{list_all}
use Rattle.std.proofs.lemmas.Bool.{and_parts, false≢true, eqb-true}
use Rattle.eon_model.specs.Grid.{units_of, lies_in_band}
use Rattle.eon_model.specs.Names.{Name, same_name}
use Rattle.eon_model.specs.Network.{Network, AreFibres}
use Rattle.eon_model.specs.Route.{walks, is_route, nodes_along, ends_at, visits_once, far_end, share_group}
use Rattle.eon_model.specs.Lists.{numbers_differ}
use Rattle.eon_model.specs.Services.{Path, Leg, Service, State, legs_of, service_of}
use Rattle.eon_model.specs.Legal.{Setup, need_of, is_exactly, is_protected, path_fits, target_fits, backup_fits, fits, Legal}
use Rattle.eon_model.specs.NetworkText.{is_setup}
use Rattle.eon_model.proofs.OrderLaws.{IsIn, AllOf}
use Rattle.eon_model.proofs.ListLaws.{slice_get_in}
use Rattle.eon_model.proofs.Members.{list_all-at}
use Rattle.eon_model.proofs.FoundLaws.{found}
use Rattle.eon_model.proofs.FirstRoutesLaws.{is_route-route_of}
use Rattle.eon_model.proofs.RouteLaws.{EndsAreNodes, walk_of}
use Rattle.eon_model.proofs.SetupLaws.{setup-EndsAreNodes}
use Rattle.eon_model.proofs.LegalLaws.{Legal-parts}
use Rattle.eon_model.proofs.ToldLaws.{backup-fits}
use Rattle.plan_report.specs.InRange.{PathInRange, LegInRange, ServiceInRange}

-- ---- a walk's fibres and ends

last_below : (n t : ℕ) (nodes : List ℕ) → AllOf (λ x. x < n) nodes → ends_at t nodes ≡ true → t < n
last_below n t [] a h = absurd (false≢true h)
last_below n t (node ∷ []) a h = let e = eqb-true node t h in let l = a.0 in omega arith
last_below n t (node ∷ next ∷ nodes) a h = last_below n t (next ∷ nodes) a.1 h

begin_below : (n s : ℕ) (nodes : List ℕ) (rest : Option (List ℕ)) → option_map (λ ns. s ∷ ns) rest ≡ Some nodes →
    AllOf (λ x. x < n) nodes → s < n
begin_below n s nodes None e a = cc
begin_below n s nodes (Some ns) e a =
    let same : nodes ≡ s ∷ ns = cc in
    let b : AllOf (λ x. x < n) (s ∷ ns) = subst (λ (v : List ℕ). AllOf (λ x. x < n) v) same a in
    b.0

first_below : (n s : ℕ) (nodes : List ℕ) (next : Option ℕ) (more : ℕ → Option (List ℕ)) →
    option_and_then (λ x. option_map (λ ns. s ∷ ns) (more x)) next ≡ Some nodes → AllOf (λ x. x < n) nodes → s < n
first_below n s nodes None more e a = cc
first_below n s nodes (Some x) more e a = begin_below n s nodes (more x) e a

-- the fibres of a walk, and its ends
pub record OnNetwork (net : Network) (s t : ℕ) (fibres : List ℕ) : Type 0 where
  pub known : AreFibres net.fibres fibres
  pub from : s < length net.nodes
  pub till : t < length net.nodes

walk_by : (net : Network) (s t i : ℕ) (is : List ℕ) (nodes : Option (List ℕ)) → EndsAreNodes net →
    nodes_along net.fibres s (i ∷ is) ≡ nodes → visits_once nodes t ≡ true → OnNetwork net s t (i ∷ is)
walk_by net s t i is None ends e h = absurd (false≢true h)
walk_by net s t i is (Some nodes) ends e h =
    let w = walk_of net s i is nodes ends e in
    record {
      known = w.fibres;
      from = first_below (length net.nodes) s nodes (option_and_then (far_end s) (slice_get net.fibres i))
          (λ x. nodes_along net.fibres x is) e w.known;
      till = last_below (length net.nodes) t nodes w.known (and_parts (ends_at t nodes) (numbers_differ nodes) h).0;
    }

walk-on : (net : Network) (s t : ℕ) (fibres : List ℕ) → EndsAreNodes net → walks net.fibres s t fibres ≡ true →
    OnNetwork net s t fibres
walk-on net s t [] ends h = absurd (false≢true h)
walk-on net s t (i ∷ is) ends h = walk_by net s t i is (nodes_along net.fibres s (i ∷ is)) ends refl h

-- ---- paths, legs and services

path-on : (setup : Setup) (s : Service) (p : Path) → is_setup setup ≡ true → path_fits setup s p ≡ true →
    OnNetwork setup.network s.src s.dst p.route.fibres
path-on setup s p ok h =
    let net = setup.network in
    let a = and_parts (is_route net s.src s.dst p.route && nat_le 1 p.slot.m
    && is_exactly (need_of setup s.rate p.route.km) p.slot.m) (lies_in_band setup.band (units_of p.slot)) h in
    let b = and_parts (is_route net s.src s.dst p.route && nat_le 1 p.slot.m)
    (is_exactly (need_of setup s.rate p.route.km) p.slot.m) a.0 in
    let c = and_parts (is_route net s.src s.dst p.route) (nat_le 1 p.slot.m) b.0 in
    walk-on net s.src s.dst p.route.fibres (setup-EndsAreNodes setup ok) (is_route-route_of net s.src s.dst p.route c.0).1

spare-on : (setup : Setup) (s : Service) (l : Leg) (back : Option Path) → is_setup setup ≡ true →
    (not (is_protected s.class) && not (is_some back) || is_protected s.class && is_some back
    && list_all (λ b. path_fits setup s b && not (share_group l.work.route b.route)) (option_to_list back))
    ≡ true → IfSome back (PathInRange setup.network)
spare-on setup s l None ok h = tt
spare-on setup s l (Some b) ok h = (path-on setup s b ok (backup-fits setup s l (is_protected s.class) b h)).known

leg-on : (setup : Setup) (s : Service) (l : Leg) → is_setup setup ≡ true → fits setup s l ≡ true →
    LegInRange setup.network l × OnNetwork setup.network s.src s.dst l.work.route.fibres
leg-on setup s l ok h =
    let a = and_parts (path_fits setup s l.work && target_fits setup l.work l.to) (backup_fits setup s l) h in
    let work = path-on setup s l.work ok (and_parts (path_fits setup s l.work) (target_fits setup l.work l.to) a.0).0 in
    (record { working = work.known; spare = spare-on setup s l l.back ok a.1 }, work)

second-on : (setup : Setup) (s : Service) (next : Option Leg) → is_setup setup ≡ true →
    list_all (fits setup s) (option_to_list next) ≡ true → IfSome next (LegInRange setup.network)
second-on setup s None ok h = tt
second-on setup s (Some l) ok h = (leg-on setup s l ok (and_parts (fits setup s l) true h).0).0

service-on : (setup : Setup) (state : State) (s : Service) → is_setup setup ≡ true → Legal setup state → IsIn s state →
    ServiceInRange setup.network s
service-on setup state s ok legal i =
    let fit = list_all-at (λ s. list_all (fits setup s) (legs_of s)) state s (Legal-parts setup state legal).fit i in
    let both = and_parts (fits setup s s.leg) (list_all (fits setup s) (option_to_list s.next)) fit in
    let first = leg-on setup s s.leg ok both.0 in
    record {
      from = first.1.from;
      till = first.1.till;
      carried = first.0;
      second = second-on setup s s.next ok both.1;
    }

-- the service at a place
pub service_at-on : (setup : Setup) (state : State) (i : ℕ) (s : Service) → is_setup setup ≡ true → Legal setup state →
    slice_get state i ≡ Some s → ServiceInRange setup.network s
service_at-on setup state i s ok legal e = service-on setup state s ok legal (slice_get_in state i s e).1

-- the service that is found
pub found-on : (setup : Setup) (state : State) (name : Name) (s : Service) → is_setup setup ≡ true → Legal setup state →
    service_of state name ≡ Some s → ServiceInRange setup.network s
found-on setup state name s ok legal e = elim (found (λ (x : Service). same_name x.name name) state) [
  | inl none ↦ let n = none.0 in cc
  | inr some ↦ let at = some.1 in
      let same : some.0 ≡ s = cc in
      service-on setup state s ok legal (subst (λ (v : Service). IsIn v state) same some.2)
]
