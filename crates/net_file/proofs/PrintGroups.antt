-- A named group's name and members, as the network tells them by risk numbers.
use Rattle.std.proofs.Common.{◌≡◌, refl, ◌∙◌, ap, ℕ, zero, suc, ◌+◌, ◌<◌, Bool, true, false, cond, ◌||◌, not, ◌&&◌, List, [], ◌∷◌, length, nat_eq, nat_lt, nat_le, arith}
use Rattle.std.specs.List.{list_all}
use Rattle.std.specs.FinSet.{contains}
use Rattle.std.proofs.lemmas.Bool.{and_parts, or_from, ltb-true, eq-eqb, ne_eqb}
use Rattle.eon_model.specs.Names.{Name, is_name, has_name}
use Rattle.eon_model.specs.Lists.{has_number, numbers_ascend}
use Rattle.eon_model.specs.Sets.{set_of}
use Rattle.eon_model.specs.Numerals.{is_within}
use Rattle.eon_model.specs.Network.{Network, Fibre, Group, name_at, fibre_at, fibre_names, group_names, names_of_fibres, groups_with, risks_of_fibre, risk_names, risk_name}
use Rattle.eon_model.specs.NetworkText.{is_fibre_among, is_group_among}
use Rattle.eon_model.proofs.NetworkReadLaws.{length_names}
use Rattle.eon_model.proofs.SetLists.{has-set_of}
use Rattle.net_graph.specs.Graph.{is_graph}
use Rattle.net_graph.proofs.GraphParts.{parts_of}
use Rattle.net_file.specs.PrintWords.{each_below, group_at, member_text}
use Rattle.line_writer.specs.Words.{behind}
use Rattle.net_file.proofs.PrintNumbers.{below-some, behind-map}
use Rattle.eon_model.proofs.TextGroups.{in_list}
use Rattle.eon_model.proofs.NamePlaceLaws.{name_at-past}

-- ---- fibres

among : (nodes : List Name) (fs : List Fibre) (i : ℕ) → list_all (is_fibre_among nodes) fs ≡ true → i < length fs →
    is_fibre_among nodes (fibre_at fs i) ≡ true
among nodes [] i h l = absurd (omega arith)
among nodes (f ∷ fs) zero h l = (and_parts (is_fibre_among nodes f) (list_all (is_fibre_among nodes) fs) h).0
among nodes (f ∷ fs) (suc i) h l =
    among nodes fs i (and_parts (is_fibre_among nodes f) (list_all (is_fibre_among nodes) fs) h).1 (omega arith)

-- the ends of a fibre are nodes
pub ends-below : (net : Network) (i : ℕ) → is_graph net ≡ true → i < length net.fibres →
    ((fibre_at net.fibres i).a < length net.nodes) × ((fibre_at net.fibres i).b < length net.nodes)
ends-below net i g l =
    let nodes = net.nodes in
    let f = fibre_at net.fibres i in
    let h = among nodes net.fibres i (parts_of net g).fibres_good l in
    let a = and_parts (is_name f.name && nat_lt f.a (length nodes) && nat_lt f.b (length nodes)
    && not (nat_eq f.a f.b)) (is_within 1 100000 f.km) h in
    let b = and_parts (is_name f.name && nat_lt f.a (length nodes) && nat_lt f.b (length nodes))
    (not (nat_eq f.a f.b)) a.0 in
    let c = and_parts (is_name f.name && nat_lt f.a (length nodes)) (nat_lt f.b (length nodes)) b.0 in
    let d = and_parts (is_name f.name) (nat_lt f.a (length nodes)) c.0 in
    (ltb-true f.a (length nodes) d.1, ltb-true f.b (length nodes) c.1)

-- ---- names of groups

group_named : (gs : List Group) (j : ℕ) → name_at (group_names gs) j ≡ (group_at gs j).name
group_named [] j = refl
group_named (g ∷ gs) zero = refl
group_named (g ∷ gs) (suc j) = group_named gs j

-- the name at a risk number past those of fibres
pub risk-name-group : (net : Network) (risk j : ℕ) → risk ≡ length net.fibres + j →
    risk_name net risk ≡ (group_at net.groups j).name
risk-name-group net risk j e =
    let n = length_names net.fibres in
    let same : risk ≡ length (fibre_names net.fibres) + j = omega arith in
    ap (name_at (risk_names net)) same ∙ name_at-past (fibre_names net.fibres) (group_names net.groups) j
    ∙ group_named net.groups j

-- ---- members

none_below : (n m i : ℕ) (gs : List Group) → m < n → has_number (groups_with n i gs) m ≡ false
none_below n m i [] l = refl
none_below n m i (g ∷ gs) l =
    elim (has_number g.fibres i) as (λ b. has_number (cond b (n ∷ groups_with (n + 1) i gs) (groups_with (n + 1) i gs)) m ≡ false) [
      | true ↦ or_from (nat_eq n m) (has_number (groups_with (n + 1) i gs) m) (ne_eqb n m (λ e. omega arith))
          (none_below (n + 1) m i gs (omega arith))
      | false ↦ none_below (n + 1) m i gs (omega arith)
    ]

held_first : (b : Bool) (n i : ℕ) (gs : List Group) →
    has_number (cond b (n ∷ groups_with (n + 1) i gs) (groups_with (n + 1) i gs)) n ≡ b
held_first true n i gs = λ k. eq-eqb n n refl k || has_number (groups_with (n + 1) i gs) n
held_first false n i gs = none_below (n + 1) n i gs (omega arith)

held_later : (b : Bool) (n m i : ℕ) (gs : List Group) → (n ≡ m → ⊥) →
    has_number (cond b (n ∷ groups_with (n + 1) i gs) (groups_with (n + 1) i gs)) m ≡ has_number (groups_with (n + 1) i gs) m
held_later true n m i gs d = λ k. ne_eqb n m d k || has_number (groups_with (n + 1) i gs) m
held_later false n m i gs d = refl

held : (n j m i : ℕ) (gs : List Group) → m ≡ n + j → j < length gs →
    has_number (groups_with n i gs) m ≡ has_number (group_at gs j).fibres i
held n j m i [] e l = absurd (omega arith)
held n zero m i (g ∷ gs) e l =
    let same : m ≡ n = omega arith in
    ap (has_number (groups_with n i (g ∷ gs))) same ∙ held_first (has_number g.fibres i) n i gs
held n (suc j) m i (g ∷ gs) e l =
    held_later (has_number g.fibres i) n m i gs (λ f. omega arith) ∙ held (n + 1) j m i gs (omega arith) (omega arith)

-- a fibre's risk set has the number of a group that holds it
pub holds-is : (net : Network) (risk j i : ℕ) → risk ≡ length net.fibres + j → i < length net.fibres →
    j < length net.groups → contains (set_of (risks_of_fibre net i)) risk ≡ has_number (group_at net.groups j).fibres i
holds-is net risk j i e l k =
    has-set_of (risks_of_fibre net i) risk
    ∙ (λ t. ne_eqb i risk (λ f. omega arith) t || has_number (groups_with (length net.fibres) i net.groups) risk)
    ∙ held (length net.fibres) j risk i net.groups e k

group_good : (fs : List Fibre) (gs : List Group) (j : ℕ) → list_all (is_group_among fs) gs ≡ true → j < length gs →
    is_group_among fs (group_at gs j) ≡ true
group_good fs [] j h l = absurd (omega arith)
group_good fs (g ∷ gs) zero h l = (and_parts (is_group_among fs g) (list_all (is_group_among fs) gs) h).0
group_good fs (g ∷ gs) (suc j) h l =
    group_good fs gs j (and_parts (is_group_among fs g) (list_all (is_group_among fs) gs) h).1 (omega arith)

-- the members of a group, found fibre by fibre
pub members-all : (net : Network) (j : ℕ) → is_graph net ≡ true → j < length net.groups →
    each_below (member_text net j) (length net.fibres)
    ≡ behind (names_of_fibres net.fibres (group_at net.groups j).fibres)
members-all net j h l =
    let fs = net.fibres in
    let g = group_at net.groups j in
    let good = group_good fs net.groups j (parts_of net h).groups_good l in
    let a = and_parts (is_name g.name && not (has_name (fibre_names fs) g.name)
    && nat_le 1 (length g.fibres) && in_list fs g.fibres) (numbers_ascend g.fibres) good in
    let b = and_parts (is_name g.name && not (has_name (fibre_names fs) g.name)
    && nat_le 1 (length g.fibres)) (in_list fs g.fibres) a.0 in
    below-some (λ i. behind ((fibre_at fs i).name ∷ [])) (length fs) g.fibres b.1 a.1
    ∙ behind-map (λ i. (fibre_at fs i).name) g.fibres
