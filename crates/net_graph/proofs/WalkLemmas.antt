-- Walking fibre by fibre.
use Rattle.std.proofs.Common.{◌≡◌, refl, sym, ◌∙◌, ap, ℕ, nat_eq, ◌==◌, Bool, true, false, ◌&&◌, not, List, [], ◌∷◌, length, Option, Some, None}
use Rattle.std.specs.Option.{option_map, option_and_then, option_map_or}
use Rattle.std.specs.List.{list_all}
use Rattle.std.specs.Ordering.{nat_cmp}
use Rattle.std.specs.Cmp.{nat_eq_equiv}
use Rattle.std.specs.FinSet.{contains, insert, empty, contains-empty}
use Rattle.std.proofs.lemmas.Bool.{and_parts, and_from, and_right, or_left, or_parts, or_from, not-true, eq-eqb, ne_eqb, both_ways}
use Rattle.eon_model.specs.Lists.{numbers_differ}
use Rattle.eon_model.specs.Network.{Fibre}
use Rattle.eon_model.specs.Route.{nodes_along, ends_at, visits_once, walks}
use Rattle.eon_model.specs.Sets.{NumberSet}
use Rattle.net_graph.specs.Walks.{node_after}
use Rattle.eon_model.proofs.SetLaws.{member-insert}
use Rattle.eon_model.proofs.SetLists.{same_test}
use Rattle.eon_model.proofs.ListTests.{all_more}

-- whether the fibres lead on from the node to t through nodes that are not in the set
abbrev pub goes : List Fibre → NumberSet → ℕ → ℕ → List ℕ → Bool
goes fibres seen node t [] = node == t
goes fibres seen node t (i ∷ is) =
    option_map_or (λ next. not (contains seen next) && goes fibres (insert seen next) next t is)
    (node_after fibres node i) false

-- the nodes after the first are not in the set
abbrev none_seen : NumberSet → List ℕ → Bool
none_seen seen [] = true
none_seen seen (node ∷ nodes) = list_all (λ n. not (contains seen n)) nodes

abbrev fresh : NumberSet → ℕ → Option (List ℕ) → Bool
fresh seen t None = false
fresh seen t (Some nodes) = (ends_at t nodes && numbers_differ nodes) && none_seen seen nodes

and-true : (b : Bool) → (b && true) ≡ b
and-true true = refl
and-true false = refl

all_both : {X : Type 0} (p q r : X → Bool) → ((x : X) → p x ≡ true → q x ≡ true → r x ≡ true) →
    (xs : List X) → list_all p xs ≡ true → list_all q xs ≡ true → list_all r xs ≡ true
all_both p q r more [] h k = refl
all_both p q r more (x ∷ xs) h k =
    let a = and_parts (p x) (list_all p xs) h in
    let b = and_parts (q x) (list_all q xs) k in
    and_from (r x) (list_all r xs) (more x a.0 b.0) (all_both p q r more xs a.1 b.1)

-- a node that is not among these with one more is not among these, and is not that one
unseen : (s : NumberSet) (k q : ℕ) → not (contains (insert s k) q) ≡ true →
    (not (nat_eq k q) ≡ true) × (not (contains s q) ≡ true)
unseen s k q h =
    let parts = or_parts (nat_eq q k) (contains s q) (sym (member-insert s k q) ∙ not-true _ h) in
    (ap not (nat_eq_equiv.symm k q ∙ parts.0), ap not parts.1)

unseen_from : (s : NumberSet) (k q : ℕ) → not (nat_eq k q) ≡ true → not (contains s q) ≡ true →
    not (contains (insert s k) q) ≡ true
unseen_from s k q apart out =
    ap not (member-insert s k q ∙ or_from (nat_eq q k) (contains s q)
    (nat_eq_equiv.symm q k ∙ not-true _ apart) (not-true _ out))

-- a node in the set is none that is not
seen_apart : (s : NumberSet) (node q : ℕ) → contains s node ≡ true → not (contains s q) ≡ true →
    not (nat_eq node q) ≡ true
seen_apart s node q in_s out =
    ap not (ne_eqb node q (λ e. both_ways (contains s q) (not-true _ out) (ap (contains s) (sym e) ∙ in_s)))

core : (seen : NumberSet) (t node next : ℕ) (rest : List ℕ) → contains seen node ≡ true →
    (not (contains seen next) && fresh (insert seen next) t (Some (next ∷ rest)))
    ≡ fresh seen t (Some (node ∷ next ∷ rest))
core seen t node next rest known = same_test _ _
    (λ h.
    let a = and_parts (not (contains seen next)) _ h in
    let b = and_parts (ends_at t (next ∷ rest) && numbers_differ (next ∷ rest)) _ a.1 in
    let e = and_parts (ends_at t (next ∷ rest)) (numbers_differ (next ∷ rest)) b.0 in
    let free = all_more (λ n. not (contains (insert seen next) n)) (λ n. not (contains seen n))
    (λ n k. (unseen seen next n k).1) rest b.1 in
    let all = and_from (not (contains seen next)) (list_all (λ n. not (contains seen n)) rest) a.0 free in
    let apart = all_more (λ n. not (contains seen n)) (λ n. not (nat_eq node n))
    (λ n k. seen_apart seen node n known k) (next ∷ rest) all in
    and_from _ _ (and_from _ _ e.0 (and_from _ _ apart e.1)) all)
    (λ h.
    let b = and_parts (ends_at t (next ∷ rest) && numbers_differ (node ∷ next ∷ rest)) _ h in
    let e = and_parts (ends_at t (next ∷ rest)) (numbers_differ (node ∷ next ∷ rest)) b.0 in
    let d = and_parts (list_all (λ n. not (nat_eq node n)) (next ∷ rest)) (numbers_differ (next ∷ rest)) e.1 in
    let n = and_parts (list_all (λ n. not (nat_eq next n)) rest) (numbers_differ rest) d.1 in
    let free = and_parts (not (contains seen next)) (list_all (λ n. not (contains seen n)) rest) b.1 in
    let more = all_both (λ n. not (nat_eq next n)) (λ n. not (contains seen n))
    (λ n. not (contains (insert seen next) n)) (λ n k l. unseen_from seen next n k l) rest n.0 free.1 in
    and_from _ _ free.0 (and_from _ _ (and_from _ _ e.0 d.1) more))

-- nodes along a walk begin where it begins
begins_by : (node : ℕ) (o : Option (List ℕ)) (nodes : List ℕ) → option_map (λ ns. node ∷ ns) o ≡ Some nodes →
    (rest : List ℕ) × (nodes ≡ node ∷ rest)
begins_by node None nodes e = cc
begins_by node (Some rest) nodes e = let same : nodes ≡ node ∷ rest = cc in (rest, same)

begins_at : (fibres : List Fibre) (node : ℕ) (is : List ℕ) (next : Option ℕ) (nodes : List ℕ) →
    option_and_then (λ n. option_map (λ ns. node ∷ ns) (nodes_along fibres n is)) next ≡ Some nodes →
    (rest : List ℕ) × (nodes ≡ node ∷ rest)
begins_at fibres node is None nodes e = cc
begins_at fibres node is (Some n) nodes e = begins_by node (nodes_along fibres n is) nodes e

begins : (fibres : List Fibre) (node : ℕ) (is nodes : List ℕ) → nodes_along fibres node is ≡ Some nodes →
    (rest : List ℕ) × (nodes ≡ node ∷ rest)
begins fibres node [] nodes e = let same : nodes ≡ node ∷ [] = cc in ([], same)
begins fibres node (i ∷ is) nodes e = begins_at fibres node is (node_after fibres node i) nodes e

by_rest : (seen : NumberSet) (t node next : ℕ) (o : Option (List ℕ)) → contains seen node ≡ true →
    ((nodes : List ℕ) → o ≡ Some nodes → (rest : List ℕ) × (nodes ≡ next ∷ rest)) →
    (not (contains seen next) && fresh (insert seen next) t o)
    ≡ fresh seen t (option_map (λ ns. node ∷ ns) o)
by_rest seen t node next None known shape = and_right (not (contains seen next)) false refl
by_rest seen t node next (Some nodes) known shape =
    let first = shape nodes refl in
    ap (λ ns. not (contains seen next) && fresh (insert seen next) t (Some ns)) first.1
    ∙ core seen t node next first.0 known
    ∙ ap (λ ns. fresh seen t (Some (node ∷ ns))) (sym first.1)

by_next : (fibres : List Fibre) (seen : NumberSet) (t node : ℕ) (is : List ℕ) (o : Option ℕ) →
    contains seen node ≡ true →
    ((next : ℕ) → goes fibres (insert seen next) next t is
    ≡ fresh (insert seen next) t (nodes_along fibres next is)) →
    option_map_or (λ next. not (contains seen next) && goes fibres (insert seen next) next t is) o false
    ≡ fresh seen t (option_and_then (λ next. option_map (λ ns. node ∷ ns) (nodes_along fibres next is)) o)
by_next fibres seen t node is None known more = refl
by_next fibres seen t node is (Some next) known more =
    ap (λ b. not (contains seen next) && b) (more next)
    ∙ by_rest seen t node next (nodes_along fibres next is) known (begins fibres next is)

along : (fibres : List Fibre) (seen : NumberSet) (node t : ℕ) (is : List ℕ) → contains seen node ≡ true →
    goes fibres seen node t is ≡ fresh seen t (nodes_along fibres node is)
along fibres seen node t [] known =
    sym (and-true ((node == t) && true) ∙ and-true (node == t))
along fibres seen node t (i ∷ is) known =
    by_next fibres seen t node is (node_after fibres node i) known
    (λ next. along fibres (insert seen next) next t is
    (member-insert seen next next ∙ or_left (nat_eq next next) (contains seen next) (eq-eqb next next refl)))

once_fresh : (s t : ℕ) (o : Option (List ℕ)) →
    ((nodes : List ℕ) → o ≡ Some nodes → (rest : List ℕ) × (nodes ≡ s ∷ rest)) →
    visits_once o t ≡ fresh (insert empty s) t o
once_fresh s t None shape = refl
once_fresh s t (Some nodes) shape =
    let first = shape nodes refl in
    let rest = first.0 in
    ap (λ ns. visits_once (Some ns) t) first.1
    ∙ same_test (visits_once (Some (s ∷ rest)) t) (fresh (insert empty s) t (Some (s ∷ rest)))
    (λ h.
    let e = and_parts (ends_at t (s ∷ rest)) (numbers_differ (s ∷ rest)) h in
    let d = and_parts (list_all (λ n. not (nat_eq s n)) rest) (numbers_differ rest) e.1 in
    and_from _ _ h (all_more (λ n. not (nat_eq s n)) (λ n. not (contains (insert empty s) n))
    (λ n k. unseen_from empty s n k (ap not (contains-empty nat_cmp n))) rest d.0))
    (λ h. (and_parts (ends_at t (s ∷ rest) && numbers_differ (s ∷ rest)) _ h).0)
    ∙ ap (λ ns. fresh (insert empty s) t (Some ns)) (sym first.1)

-- a list of fibres walks where one fibre after another leads on
walks-goes : (fibres : List Fibre) (s t i : ℕ) (is : List ℕ) →
    walks fibres s t (i ∷ is) ≡ goes fibres (insert empty s) s t (i ∷ is)
walks-goes fibres s t i is =
    once_fresh s t (nodes_along fibres s (i ∷ is)) (begins fibres s (i ∷ is))
    ∙ sym (along fibres (insert empty s) s t (i ∷ is)
    (member-insert empty s s ∙ or_left (nat_eq s s) (contains empty s) (eq-eqb s s refl)))

pub walks-begun : (fibres : List Fibre) (s t : ℕ) (is : List ℕ) → (length is ≡ 0 → ⊥) →
    walks fibres s t is ≡ goes fibres (insert empty s) s t is
walks-begun fibres s t [] some = absurd (some refl)
walks-begun fibres s t (i ∷ is) some = walks-goes fibres s t i is
