-- Which fault a fibre or a group has, cause by cause.
use Rattle.std.proofs.Common.{◌≡◌, refl, sym, ◌∙◌, ap, ℕ, ◌<◌, ◌≤◌, nat_le, nat_eq, Bool, true, false, cond, ◌||◌, ◌&&◌, not, List, [], length, get_or, Option, Some, None}
use Rattle.std.specs.Option.{is_none, unwrap_or}
use Rattle.std.proofs.lemmas.Bool.{and_parts, and_from, or_parts, not-false, lt-leb, leb-false, lt-ltb, le-leb, ne_eqb, both_ways, false_from_ne_true}
use Rattle.std.proofs.lemmas.List.Quantifiers.{position-Some}
use Rattle.std.specs.List.{list_any}
use Rattle.eon_model.specs.Names.{Name, is_name, same_name, has_name, ascend}
use Rattle.eon_model.specs.Network.{Network, fibre_names, group_names, number_of, node_of, fibre_of}
use Rattle.eon_model.specs.Step.{fibres_numbered}
use Rattle.eon_model.specs.NetworkText.{is_fibre_among}
use Rattle.eon_model.proofs.NameLaws.{names_equal}
use Rattle.eon_model.proofs.NumberLaws.{same-name}
use Rattle.net_graph.specs.declared.graph.GraphFault.{GraphFault}
use Rattle.net_graph.specs.declared.graph.GraphFault.TheVariants.{Many, Order, Unknown, SelfEnd, Twice, Groups}
use Rattle.net_graph.specs.Graph.{comes_after, fibre_fault, fibre_between, group_fault, holders}

-- ---- numbers and names

pub same_number : (names : List Name) (a b : Name) (i j : ℕ) → Some i ≡ number_of names a →
    Some j ≡ number_of names b → i ≡ j → same_name a b ≡ true
same_number names a b i j in_a in_b e =
    let at_a = position-Some (same_name a) names i [] (sym in_a) in
    let at_b = position-Some (same_name b) names j [] (sym in_b) in
    let one : a ≡ get_or names i [] = same-name a (get_or names i []) at_a.1 in
    let two : b ≡ get_or names j [] = same-name b (get_or names j []) at_b.1 in
    (λ k. same_name (one k) (two k)) ∙ ap (λ n. same_name (get_or names i []) (get_or names n [])) (sym e)
    ∙ names_equal.refl (get_or names i [])

pub other_number : (names : List Name) (a b : Name) (i j : ℕ) → Some i ≡ number_of names a →
    Some j ≡ number_of names b → (i ≡ j → ⊥) → same_name a b ≡ false
other_number names a b i j in_a in_b apart =
    false_from_ne_true (same_name a b) (λ e.
    let one : Some i ≡ Some j = in_a ∙ ap (number_of names) (same-name a b e) ∙ sym in_b in
    apart (let same : i ≡ j = cc in same))

pub number-below : (names : List Name) (a : Name) (i : ℕ) → Some i ≡ number_of names a → i < length names
number-below names a i e = (position-Some (same_name a) names i [] (sym e)).0

-- ---- fibres

abbrev chain : Bool → Bool → Bool → Bool → Bool → Option GraphFault
chain many after none_a none_b same =
    cond many (Some Many) (cond (not after) (Some Order) (cond (none_a || none_b) (Some Unknown)
    (cond same (Some SelfEnd) None)))

pub fibre-order : (net : Network) (name a b : Name) → length net.fibres < 128 →
    comes_after (fibre_names net.fibres) name ≡ false → Some Order ≡ fibre_fault net name a b
fibre-order net name a b few out =
    let many = lt-leb 128 (length net.fibres) few in
    sym (λ i. chain (many i) (out i) (is_none (node_of net a)) (is_none (node_of net b)) (same_name a b))

pub fibre-unknown_a : (net : Network) (name a b : Name) → length net.fibres < 128 →
    comes_after (fibre_names net.fibres) name ≡ true → node_of net a ≡ None →
    Some Unknown ≡ fibre_fault net name a b
fibre-unknown_a net name a b few after none =
    let many = lt-leb 128 (length net.fibres) few in
    sym (λ i. chain (many i) (after i) (is_none (none i)) (is_none (node_of net b)) (same_name a b))

pub fibre-unknown_b : (net : Network) (name a b : Name) (i : ℕ) → length net.fibres < 128 →
    comes_after (fibre_names net.fibres) name ≡ true → node_of net a ≡ Some i → node_of net b ≡ None →
    Some Unknown ≡ fibre_fault net name a b
fibre-unknown_b net name a b n few after some none =
    let many = lt-leb 128 (length net.fibres) few in
    sym (λ i. chain (many i) (after i) (is_none (some i)) (is_none (none i)) (same_name a b))

pub fibre-self_end : (net : Network) (name a b : Name) (i j : ℕ) → length net.fibres < 128 →
    comes_after (fibre_names net.fibres) name ≡ true → node_of net a ≡ Some i → node_of net b ≡ Some j →
    i ≡ j → Some SelfEnd ≡ fibre_fault net name a b
fibre-self_end net name a b n m few after in_a in_b e =
    let many = lt-leb 128 (length net.fibres) few in
    let same = same_number net.nodes a b n m (sym in_a) (sym in_b) e in
    sym (λ i. chain (many i) (after i) (is_none (in_a i)) (is_none (in_b i)) (same i))

pub fibre-accepted : (net : Network) (name a b : Name) (i j : ℕ) → length net.fibres < 128 →
    comes_after (fibre_names net.fibres) name ≡ true → node_of net a ≡ Some i → node_of net b ≡ Some j →
    (i ≡ j → ⊥) → fibre_fault net name a b ≡ None
fibre-accepted net name a b n m few after in_a in_b apart =
    let many = lt-leb 128 (length net.fibres) few in
    let other = other_number net.nodes a b n m (sym in_a) (sym in_b) apart in
    λ i. chain (many i) (after i) (is_none (in_a i)) (is_none (in_b i)) (other i)

-- a cause that does not hold
pub past : {F : Type 0} (b : Bool) (x : F) (rest : Option F) → cond b (Some x) rest ≡ None →
    (b ≡ false) × (rest ≡ None)
past true x rest e = cc
past false x rest e = (refl, e)

pub known : (o : Option ℕ) → is_none o ≡ false → o ≡ Some (unwrap_or o 0)
known None e = cc
known (Some i) e = refl

pub record FibreAccepted (net : Network) (name a b : Name) : Type 0 where
  pub few : length net.fibres < 128
  pub after : comes_after (fibre_names net.fibres) name ≡ true
  pub in_a : node_of net a ≡ Some (unwrap_or (node_of net a) 0)
  pub in_b : node_of net b ≡ Some (unwrap_or (node_of net b) 0)
  pub apart : same_name a b ≡ false

pub fibre-accepts : (net : Network) (name a b : Name) → fibre_fault net name a b ≡ None →
    FibreAccepted net name a b
fibre-accepts net name a b none =
    let p1 = past (nat_le 128 (length net.fibres)) Many _ none in
    let p2 = past (not (comes_after (fibre_names net.fibres) name)) Order _ p1.1 in
    let p3 = past (is_none (node_of net a) || is_none (node_of net b)) Unknown _ p2.1 in
    let p4 = past (same_name a b) SelfEnd _ p3.1 in
    let ends = or_parts (is_none (node_of net a)) (is_none (node_of net b)) p3.0 in
    record {
      few = leb-false 128 (length net.fibres) p1.0;
      after = not-false _ p2.0;
      in_a = known (node_of net a) ends.0;
      in_b = known (node_of net b) ends.1;
      apart = p4.0;
    }

-- what is accepted is a fibre between two nodes
pub fibre-among : (net : Network) (name a b : Name) (km : ℕ) → fibre_fault net name a b ≡ None →
    is_name name ≡ true → 1 ≤ km → km ≤ 100000 →
    is_fibre_among net.nodes (fibre_between net name a b km) ≡ true
fibre-among net name a b km none named least most =
    let ok = fibre-accepts net name a b none in
    let i = unwrap_or (node_of net a) 0 in
    let j = unwrap_or (node_of net b) 0 in
    let within = and_from (nat_le 1 km) (nat_le km 100000) (le-leb 1 km least) (le-leb km 100000 most) in
    let apart : nat_eq i j ≡ false = ne_eqb i j (λ e. both_ways (same_name a b) ok.apart
    (same_number net.nodes a b i j (sym ok.in_a) (sym ok.in_b) e)) in
    and_from _ _ (and_from _ _ (and_from _ _ (and_from _ _ named
    (lt-ltb i (length net.nodes) (number-below net.nodes a i (sym ok.in_a))))
    (lt-ltb j (length net.nodes) (number-below net.nodes b j (sym ok.in_b)))) (ap not apart)) within

-- ---- groups

abbrev group_chain : Bool → Bool → Bool → Bool → Bool → Bool → Option GraphFault
group_chain many after rise twice unknown full =
    cond many (Some Many) (cond (not (after && rise)) (Some Order) (cond twice (Some Twice)
    (cond unknown (Some Unknown) (cond full (Some Groups) None))))

abbrev unknown_in : Network → List Name → Bool
unknown_in net fibres = list_any (λ f. is_none (fibre_of net f)) fibres

abbrev full_in : Network → List Name → Bool
full_in net fibres = list_any (λ i. nat_le 8 (holders net.groups i)) (fibres_numbered net fibres)

pub group-order : (net : Network) (name : Name) (fibres : List Name) → length net.groups < 128 →
    comes_after (group_names net.groups) name ≡ false → group_fault net name fibres ≡ Some Order
group-order net name fibres few out =
    λ i. group_chain (lt-leb 128 (length net.groups) few i) (out i) (ascend fibres)
    (has_name (fibre_names net.fibres) name) (unknown_in net fibres) (full_in net fibres)

pub group-twice : (net : Network) (name : Name) (fibres : List Name) → length net.groups < 128 →
    comes_after (group_names net.groups) name ≡ true → ascend fibres ≡ true →
    has_name (fibre_names net.fibres) name ≡ true → group_fault net name fibres ≡ Some Twice
group-twice net name fibres few after rise twice =
    λ i. group_chain (lt-leb 128 (length net.groups) few i) (after i) (rise i) (twice i)
    (unknown_in net fibres) (full_in net fibres)

pub group-unknown : (net : Network) (name : Name) (fibres : List Name) → length net.groups < 128 →
    comes_after (group_names net.groups) name ≡ true → ascend fibres ≡ true →
    has_name (fibre_names net.fibres) name ≡ false → list_any (λ f. is_none (fibre_of net f)) fibres ≡ true →
    group_fault net name fibres ≡ Some Unknown
group-unknown net name fibres few after rise new unknown =
    λ i. group_chain (lt-leb 128 (length net.groups) few i) (after i) (rise i) (new i) (unknown i)
    (full_in net fibres)

pub group-groups : (net : Network) (name : Name) (fibres : List Name) → length net.groups < 128 →
    comes_after (group_names net.groups) name ≡ true → ascend fibres ≡ true →
    has_name (fibre_names net.fibres) name ≡ false → list_any (λ f. is_none (fibre_of net f)) fibres ≡ false →
    list_any (λ i. nat_le 8 (holders net.groups i)) (fibres_numbered net fibres) ≡ true →
    group_fault net name fibres ≡ Some Groups
group-groups net name fibres few after rise new known full =
    λ i. group_chain (lt-leb 128 (length net.groups) few i) (after i) (rise i) (new i) (known i) (full i)

pub group-accepted : (net : Network) (name : Name) (fibres : List Name) → length net.groups < 128 →
    comes_after (group_names net.groups) name ≡ true → ascend fibres ≡ true →
    has_name (fibre_names net.fibres) name ≡ false → list_any (λ f. is_none (fibre_of net f)) fibres ≡ false →
    list_any (λ i. nat_le 8 (holders net.groups i)) (fibres_numbered net fibres) ≡ false →
    group_fault net name fibres ≡ None
group-accepted net name fibres few after rise new known full =
    λ i. group_chain (lt-leb 128 (length net.groups) few i) (after i) (rise i) (new i) (known i) (full i)

pub record GroupAccepted (net : Network) (name : Name) (fibres : List Name) : Type 0 where
  pub few : length net.groups < 128
  pub after : comes_after (group_names net.groups) name ≡ true
  pub rise : ascend fibres ≡ true
  pub new : has_name (fibre_names net.fibres) name ≡ false
  pub found : list_any (λ f. is_none (fibre_of net f)) fibres ≡ false
  pub room : list_any (λ i. nat_le 8 (holders net.groups i)) (fibres_numbered net fibres) ≡ false

pub group-accepts : (net : Network) (name : Name) (fibres : List Name) →
    group_fault net name fibres ≡ None → GroupAccepted net name fibres
group-accepts net name fibres none =
    let after = comes_after (group_names net.groups) name in
    let p1 = past (nat_le 128 (length net.groups)) Many _ none in
    let p2 = past (not (after && ascend fibres)) Order _ p1.1 in
    let p3 = past (has_name (fibre_names net.fibres) name) Twice _ p2.1 in
    let p4 = past (unknown_in net fibres) Unknown _ p3.1 in
    let p5 = past (full_in net fibres) Groups _ p4.1 in
    let order = and_parts after (ascend fibres) (not-false _ p2.0) in
    record {
      few = leb-false 128 (length net.groups) p1.0;
      after = order.0;
      rise = order.1;
      new = p3.0;
      found = p4.0;
      room = p5.0;
    }
