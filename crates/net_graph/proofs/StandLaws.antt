-- Where walks stand: fibre by fibre, and no node twice.
use Rattle.std.proofs.Common.{◌≡◌, refl, sym, ◌∙◌, ap, subst, arith, ℕ, ◌<◌, nat_eq, ◌==◌, Bool, true, false, cond, ◌&&◌, not, List, [], ◌∷◌, ◌++◌, length, Option, Some, None, slice_get}
use Rattle.std.specs.Option.{option_and_then, option_map_or}
use Rattle.std.specs.FinSet.{contains, insert, empty}
use Rattle.std.proofs.lemmas.Bool.{or_left, or_parts, eq-eqb, eqb-true, false≢true}
use Rattle.eon_model.specs.Network.{Network, Fibre, AreFibres}
use Rattle.eon_model.specs.Route.{far_end, walks}
use Rattle.eon_model.specs.Sets.{NumberSet}
use Rattle.eon_model.proofs.ListLaws.{slice_get_in}
use Rattle.eon_model.proofs.RouteLaws.{EndsAreNodes}
use Rattle.net_graph.specs.Walks.{node_after}
use Rattle.eon_model.proofs.SetLaws.{member-insert}
use Rattle.net_graph.proofs.RouteSums.{node_after-nodes}
use Rattle.net_graph.proofs.WalkLemmas.{goes, walks-begun}
use Rattle.net_graph.specs.declared.walk.Stand.{Stand}
use Rattle.net_graph.specs.Stands.{start, arrive, moved, stand_after}

-- ---- one fibre after another

then_on : (fibres : List Fibre) (i : ℕ) (p q : List ℕ) (next : Option Stand) →
    ((m : Stand) → stand_after fibres m (p ++ q)
    ≡ option_and_then (λ n. stand_after fibres n q) (stand_after fibres m p)) →
    option_and_then (λ m. stand_after fibres m (p ++ q)) next
    ≡ option_and_then (λ n. stand_after fibres n q) (option_and_then (λ m. stand_after fibres m p) next)
then_on fibres i p q None more = refl
then_on fibres i p q (Some m) more = more m

-- the walk goes on where its beginning stands
pub stand-append : (fibres : List Fibre) (stand : Stand) (p q : List ℕ) →
    stand_after fibres stand (p ++ q)
    ≡ option_and_then (λ n. stand_after fibres n q) (stand_after fibres stand p)
stand-append fibres stand [] q = refl
stand-append fibres stand (i ∷ p) q =
    then_on fibres i p q (moved fibres stand i) (λ m. stand-append fibres m p q)

-- where it stands after the whole, its beginning stands somewhere
begun_by : (fibres : List Fibre) (q : List ℕ) (o : Option Stand) (m : Stand) →
    option_and_then (λ n. stand_after fibres n q) o ≡ Some m →
    (n : Stand) × (o ≡ Some n) × (stand_after fibres n q ≡ Some m)
begun_by fibres q None m e = cc
begun_by fibres q (Some n) m e = (n, refl, e)

pub stand-parts : (fibres : List Fibre) (stand m : Stand) (p q : List ℕ) →
    stand_after fibres stand (p ++ q) ≡ Some m →
    (n : Stand) × (stand_after fibres stand p ≡ Some n) × (stand_after fibres n q ≡ Some m)
stand-parts fibres stand m p q e =
    begun_by fibres q (stand_after fibres stand p) m (sym (stand-append fibres stand p q) ∙ e)

-- one fibre at the end
last_alone : (fibres : List Fibre) (n : Stand) (i : ℕ) (o : Option Stand) → moved fibres n i ≡ o →
    option_and_then (λ m. stand_after fibres m []) o ≡ o
last_alone fibres n i None e = refl
last_alone fibres n i (Some m) e = refl

pub stand-last : (fibres : List Fibre) (stand n : Stand) (p : List ℕ) (i : ℕ) →
    stand_after fibres stand p ≡ Some n → stand_after fibres stand (p ++ i ∷ []) ≡ moved fibres n i
stand-last fibres stand n p i e =
    stand-append fibres stand p (i ∷ [])
    ∙ ap (λ o. option_and_then (λ m. stand_after fibres m (i ∷ [])) o) e
    ∙ last_alone fibres n i (moved fibres n i) refl

-- ---- no node twice

arrive_cases : (visited : NumberSet) (next : ℕ) (m : Stand) (b : Bool) → contains visited next ≡ b →
    cond b None (Some (record { node = next; visited = insert visited next })) ≡ Some m →
    (contains visited m.node ≡ false) × (m.visited ≡ insert visited m.node)
arrive_cases visited next m true h e = cc
arrive_cases visited next m false h e =
    let here : next ≡ m.node = (λ i. (node_of next (e i))) in
    (ap (contains visited) (sym here) ∙ h, sym (λ i. visited_of visited (e i)) ∙ ap (insert visited) here)
  where
    node_of : ℕ → Option Stand → ℕ
    node_of d None = d
    node_of d (Some n) = n.node

    visited_of : NumberSet → Option Stand → NumberSet
    visited_of d None = d
    visited_of d (Some n) = n.visited

moved_by : (stand m : Stand) (next : Option ℕ) → option_and_then (arrive stand.visited) next ≡ Some m →
    (contains stand.visited m.node ≡ false) × (m.visited ≡ insert stand.visited m.node)
moved_by stand m None e = cc
moved_by stand m (Some next) e =
    arrive_cases stand.visited next m (contains stand.visited next) refl e

moved-new : (fibres : List Fibre) (stand m : Stand) (i : ℕ) → moved fibres stand i ≡ Some m →
    (contains stand.visited m.node ≡ false) × (m.visited ≡ insert stand.visited m.node)
moved-new fibres stand m i e = moved_by stand m (node_after fibres stand.node i) e

old_in_new : (s t : NumberSet) (k q : ℕ) → t ≡ insert s k → contains t q ≡ false → contains s q ≡ false
old_in_new s t k q e h =
    (or_parts (nat_eq q k) (contains s q) (sym (member-insert s k q) ∙ ap (λ u. contains u q) (sym e) ∙ h)).1

go_further : (fibres : List Fibre) (stand m : Stand) (i : ℕ) (p : List ℕ) (next : Option Stand) →
    moved fibres stand i ≡ next → option_and_then (λ n. stand_after fibres n p) next ≡ Some m →
    ((n : Stand) → moved fibres stand i ≡ Some n → stand_after fibres n p ≡ Some m →
    contains stand.visited m.node ≡ false) → contains stand.visited m.node ≡ false
go_further fibres stand m i p None e h more = cc
go_further fibres stand m i p (Some n) e h more = more n e h

-- what it comes to, fibre by fibre, it has not visited before
pub stand-new : (fibres : List Fibre) (stand m : Stand) (i : ℕ) (p : List ℕ) →
    stand_after fibres stand (i ∷ p) ≡ Some m → contains stand.visited m.node ≡ false
stand-new fibres stand m i [] e =
    go_further fibres stand m i [] (moved fibres stand i) refl e
    (λ n a b. (moved-new fibres stand m i (a ∙ b)).0)
stand-new fibres stand m i (j ∷ p) e =
    go_further fibres stand m i (j ∷ p) (moved fibres stand i) refl e
    (λ n a b. old_in_new stand.visited n.visited n.node m.node (moved-new fibres stand n i a).1
    (stand-new fibres n m j p b))

-- it has visited where it stands

visited-insert : (s : NumberSet) (k : ℕ) → contains (insert s k) k ≡ true
visited-insert s k = member-insert s k k ∙ or_left (nat_eq k k) (contains s k) (eq-eqb k k refl)

pub stand-visited : (fibres : List Fibre) (stand m : Stand) (p : List ℕ) →
    contains stand.visited stand.node ≡ true → stand_after fibres stand p ≡ Some m →
    contains m.visited m.node ≡ true
stand-visited fibres stand m [] here e = visited_there stand m here e
  where
    visited_there : (n k : Stand) → contains n.visited n.node ≡ true → Some n ≡ Some k →
        contains k.visited k.node ≡ true
    visited_there n k h e = let same : n ≡ k = cc in subst (λ (v : Stand). contains v.visited v.node ≡ true) same h
stand-visited fibres stand m (i ∷ p) here e =
    visited_on fibres stand m i p (moved fibres stand i) refl e
    (λ n h k. stand-visited fibres n m p h k)
  where
    visited_on : (fibres : List Fibre) (stand m : Stand) (i : ℕ) (p : List ℕ) (next : Option Stand) →
        moved fibres stand i ≡ next → option_and_then (λ n. stand_after fibres n p) next ≡ Some m →
        ((n : Stand) → contains n.visited n.node ≡ true → stand_after fibres n p ≡ Some m →
        contains m.visited m.node ≡ true) → contains m.visited m.node ≡ true
    visited_on fibres stand m i p None a h more = cc
    visited_on fibres stand m i p (Some n) a h more =
        more n (ap (λ v. contains v n.node) (moved-new fibres stand n i a).1
        ∙ visited-insert stand.visited n.node) h

-- ---- the fibres of a walk are fibres of the network

fibre_there : (fibres : List Fibre) (node next i : ℕ) (f : Option Fibre) → slice_get fibres i ≡ f →
    option_and_then (far_end node) f ≡ Some next → i < length fibres
fibre_there fibres node next i None e h = cc
fibre_there fibres node next i (Some f) e h = (slice_get_in fibres i f e).0

leads_there : (fibres : List Fibre) (stand m : Stand) (i : ℕ) (next : Option ℕ) →
    node_after fibres stand.node i ≡ next → option_and_then (arrive stand.visited) next ≡ Some m →
    i < length fibres
leads_there fibres stand m i None e h = cc
leads_there fibres stand m i (Some next) e h =
    fibre_there fibres stand.node next i (slice_get fibres i) refl e

pub moved-fibre : (fibres : List Fibre) (stand m : Stand) (i : ℕ) → moved fibres stand i ≡ Some m →
    i < length fibres
moved-fibre fibres stand m i e = leads_there fibres stand m i (node_after fibres stand.node i) refl e

fibres_on : (fibres : List Fibre) (stand m : Stand) (i : ℕ) (p : List ℕ) (next : Option Stand) →
    moved fibres stand i ≡ next → option_and_then (λ n. stand_after fibres n p) next ≡ Some m →
    ((n : Stand) → stand_after fibres n p ≡ Some m → AreFibres fibres p) → AreFibres fibres (i ∷ p)
fibres_on fibres stand m i p None a h more = cc
fibres_on fibres stand m i p (Some n) a h more = (moved-fibre fibres stand n i a, more n h)

pub stand-fibres : (fibres : List Fibre) (stand m : Stand) (p : List ℕ) →
    stand_after fibres stand p ≡ Some m → AreFibres fibres p
stand-fibres fibres stand m [] e = tt
stand-fibres fibres stand m (i ∷ p) e =
    fibres_on fibres stand m i p (moved fibres stand i) refl e (λ n h. stand-fibres fibres n m p h)

-- ---- walks, as the model has them

abbrev pub stands_at : ℕ → Option Stand → Bool
stands_at t None = false
stands_at t (Some m) = m.node == t

goes_new : (fibres : List Fibre) (t : ℕ) (is : List ℕ) (b g : Bool) (m : Stand) →
    g ≡ stands_at t (stand_after fibres m is) →
    (not b && g) ≡ stands_at t (option_and_then (λ n. stand_after fibres n is) (cond b None (Some m)))
goes_new fibres t is true g m e = refl
goes_new fibres t is false g m e = e

goes_next : (fibres : List Fibre) (seen : NumberSet) (t : ℕ) (is : List ℕ) (o : Option ℕ) →
    ((next : ℕ) → goes fibres (insert seen next) next t is
    ≡ stands_at t (stand_after fibres (record { node = next; visited = insert seen next }) is)) →
    option_map_or (λ next. not (contains seen next) && goes fibres (insert seen next) next t is) o false
    ≡ stands_at t (option_and_then (λ n. stand_after fibres n is) (option_and_then (arrive seen) o))
goes_next fibres seen t is None more = refl
goes_next fibres seen t is (Some next) more =
    goes_new fibres t is (contains seen next) (goes fibres (insert seen next) next t is)
    (record { node = next; visited = insert seen next }) (more next)

goes-stand : (fibres : List Fibre) (seen : NumberSet) (node t : ℕ) (is : List ℕ) →
    goes fibres seen node t is ≡ stands_at t (stand_after fibres (record { node = node; visited = seen }) is)
goes-stand fibres seen node t [] = refl
goes-stand fibres seen node t (i ∷ is) =
    goes_next fibres seen t is (node_after fibres node i)
    (λ next. goes-stand fibres (insert seen next) next t is)

some_length : (i : ℕ) (p : List ℕ) → length (i ∷ p) ≡ 0 → ⊥
some_length i p e = absurd (omega (arith, e))

pub walks-stand : (fibres : List Fibre) (s t : ℕ) (p : List ℕ) → (length p ≡ 0 → ⊥) →
    walks fibres s t p ≡ stands_at t (stand_after fibres (start s) p)
walks-stand fibres s t p some = walks-begun fibres s t p some ∙ goes-stand fibres (insert empty s) s t p

stands_parts : (t : ℕ) (o : Option Stand) → stands_at t o ≡ true → (m : Stand) × (o ≡ Some m) × (m.node ≡ t)
stands_parts t None h = absurd (false≢true h)
stands_parts t (Some m) h = (m, refl, eqb-true m.node t h)

-- a walk to t stands at t
pub walks-parts : (fibres : List Fibre) (s t : ℕ) (p : List ℕ) → walks fibres s t p ≡ true →
    (m : Stand) × (stand_after fibres (start s) p ≡ Some m) × (m.node ≡ t)
walks-parts fibres s t [] h = absurd (false≢true h)
walks-parts fibres s t (i ∷ p) h =
    stands_parts t (stand_after fibres (start s) (i ∷ p)) (sym (walks-stand fibres s t (i ∷ p) (some_length i p)) ∙ h)

-- what stands somewhere walks there
pub walks-from : (fibres : List Fibre) (s i : ℕ) (p : List ℕ) (m : Stand) →
    stand_after fibres (start s) (i ∷ p) ≡ Some m → walks fibres s m.node (i ∷ p) ≡ true
walks-from fibres s i p m e =
    walks-stand fibres s m.node (i ∷ p) (some_length i p) ∙ ap (stands_at m.node) e ∙ eq-eqb m.node m.node refl

-- a walk to t goes on to no other walk to t
visits_again : (fibres : List Fibre) (n k : Stand) (q : List ℕ) → contains n.visited n.node ≡ true →
    n.node ≡ k.node → stand_after fibres n q ≡ Some k → q ≡ []
visits_again fibres n k [] here same e = refl
visits_again fibres n k (i ∷ q) here same e =
    absurd (false≢true (sym (ap (contains n.visited) same ∙ stand-new fibres n k i q e) ∙ here))

pub walks-end : (fibres : List Fibre) (s t : ℕ) (p q : List ℕ) → walks fibres s t p ≡ true →
    walks fibres s t (p ++ q) ≡ true → q ≡ []
walks-end fibres s t p q h k =
    let a = walks-parts fibres s t p h in
    let b = walks-parts fibres s t (p ++ q) k in
    let c = stand-parts fibres (start s) b.0 p q b.1 in
    let first : Some c.0 ≡ Some a.0 = sym c.1 ∙ a.1 in
    let same : c.0 ≡ a.0 = cc in
    visits_again fibres c.0 b.0 q
    (stand-visited fibres (start s) c.0 p (visited-insert empty s) c.1)
    (ap (λ (v : Stand). v.node) same ∙ a.2 ∙ sym b.2) c.2

-- no walk comes back to where it began
pub walks-back : (fibres : List Fibre) (s : ℕ) (p : List ℕ) → walks fibres s s p ≡ true → ⊥
walks-back fibres s [] h = false≢true h
walks-back fibres s (i ∷ p) h =
    let a = walks-parts fibres s s (i ∷ p) h in
    false≢true (sym (ap (contains (insert empty s)) (sym a.2)
    ∙ stand-new fibres (start s) a.0 i p a.1) ∙ visited-insert empty s)

-- nothing walks from where no node is
pub walks-nowhere : (net : Network) (s t : ℕ) (p : List ℕ) → EndsAreNodes net → (s < length net.nodes → ⊥) →
    walks net.fibres s t p ≡ false
walks-nowhere net s t [] ends out = refl
walks-nowhere net s t (i ∷ p) ends out =
    walks-stand net.fibres s t (i ∷ p) (some_length i p) ∙ by (node_after net.fibres s i) refl
  where
    by : (o : Option ℕ) → node_after net.fibres s i ≡ o →
        stands_at t (option_and_then (λ next. stand_after net.fibres next p)
        (option_and_then (arrive (insert empty s)) o)) ≡ false
    by None e = refl
    by (Some next) e = absurd (out (node_after-nodes net ends s i next e).0)
