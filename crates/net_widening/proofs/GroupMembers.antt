-- Fibres that a named group holds.
use Rattle.std.proofs.Common.{◌≡◌, refl, sym, ◌∙◌, ap, ℕ, zero, suc, ◌<◌, ◌≤◌, true, false, cond, ◌&&◌, not, List, [], ◌∷◌, ◌++◌, length, nat_eq, nat_lt, nat_le, arith}
use Rattle.std.specs.Prelude.{bytes_eq}
use Rattle.std.specs.List.{list_all}
use Rattle.std.proofs.lemmas.Bool.{and_parts, or_from, ltb-true, lt-ltb, ne_eqb}
use Rattle.std.proofs.lemmas.Slice.Eq.{bytes_eq-Decides}
use Rattle.std.proofs.lemmas.List.Concat.{flat_map_single}
use Rattle.eon_model.specs.Names.{is_name, has_name}
use Rattle.eon_model.specs.Lists.{has_number, numbers_ascend}
use Rattle.eon_model.specs.Network.{Network, Fibre, Group, fibre_names}
use Rattle.eon_model.specs.NetworkText.{is_group_among}
use Rattle.eon_model.proofs.ListTests.{all_more}
use Rattle.eon_model.proofs.Members.{map-itself}
use Rattle.eon_model.proofs.TextGroups.{in_list}
use Rattle.net_graph.specs.Graph.{is_graph}
use Rattle.net_graph.proofs.GraphParts.{parts_of}
use Rattle.net_file.specs.PrintWords.{each_below, group_at}
use Rattle.net_file.proofs.PrintNumbers.{below-some}

-- ---- the numbers of a group

-- its fibres ascend, and are numbers of fibres
pub record AreMembers (fibres : List Fibre) (numbers : List ℕ) : Type 0 where
  pub below : in_list fibres numbers ≡ true
  pub ascend : numbers_ascend numbers ≡ true

group-good : (fs : List Fibre) (gs : List Group) (j : ℕ) → list_all (is_group_among fs) gs ≡ true → j < length gs →
    is_group_among fs (group_at gs j) ≡ true
group-good fs [] j h l = absurd (omega arith)
group-good fs (g ∷ gs) zero h l = (and_parts (is_group_among fs g) (list_all (is_group_among fs) gs) h).0
group-good fs (g ∷ gs) (suc j) h l =
    group-good fs gs j (and_parts (is_group_among fs g) (list_all (is_group_among fs) gs) h).1 (omega arith)

pub members-of : (net : Network) (j : ℕ) → is_graph net ≡ true → j < length net.groups →
    AreMembers net.fibres (group_at net.groups j).fibres
members-of net j h l =
    let fs = net.fibres in
    let g = group_at net.groups j in
    let good = group-good fs net.groups j (parts_of net h).groups_good l in
    let a = and_parts (is_name g.name && not (has_name (fibre_names fs) g.name)
    && nat_le 1 (length g.fibres) && in_list fs g.fibres) (numbers_ascend g.fibres) good in
    let b = and_parts (is_name g.name && not (has_name (fibre_names fs) g.name)
    && nat_le 1 (length g.fibres)) (in_list fs g.fibres) a.0 in
    record { below = b.1; ascend = a.1 }

-- ---- what is held

none-past : (n k : ℕ) (numbers : List ℕ) → list_all (λ i. nat_lt i n) numbers ≡ true → n ≤ k → has_number numbers k ≡ false
none-past n k [] h l = refl
none-past n k (i ∷ is) h l =
    let p = and_parts (nat_lt i n) (list_all (λ j. nat_lt j n) is) h in
    let low = ltb-true i n p.0 in
    or_from (nat_eq i k) (has_number is k) (ne_eqb i k (λ e. omega arith)) (none-past n k is p.1 l)

-- a group holds no number past those of fibres
pub not-held : (net : Network) (j k : ℕ) → is_graph net ≡ true → j < length net.groups → length net.fibres ≤ k →
    has_number (group_at net.groups j).fibres k ≡ false
not-held net j k h l past =
    none-past (length net.fibres) k (group_at net.groups j).fibres (members-of net j h l).below past

-- ---- the same members

below-same-to : (f g : ℕ → List ℕ) (n : ℕ) → ((i : ℕ) → i < n → f i ≡ g i) → each_below f n ≡ each_below g n
below-same-to f g zero h = refl
below-same-to f g (suc n) h = λ t. below-same-to f g n (λ i l. h i (omega arith)) t ++ h n (omega arith) t

-- numbers that ascend are those that are held, one by one
as-held : (n : ℕ) (numbers : List ℕ) → list_all (λ k. nat_lt k n) numbers ≡ true → numbers_ascend numbers ≡ true →
    each_below (λ i. cond (has_number numbers i) (i ∷ []) []) n ≡ numbers
as-held n numbers below up =
    below-some (λ k. k ∷ []) n numbers below up ∙ flat_map_single (λ k. k) numbers ∙ map-itself numbers

more-room : (a b : ℕ) (numbers : List ℕ) → a ≤ b → list_all (λ k. nat_lt k a) numbers ≡ true →
    list_all (λ k. nat_lt k b) numbers ≡ true
more-room a b numbers l h =
    all_more (λ k. nat_lt k a) (λ k. nat_lt k b) (λ k e. let low = ltb-true k a e in lt-ltb k b (omega arith)) numbers h

-- members that are held alike are the same
pub same-held : (n : ℕ) (fs gs : List Fibre) (xs ys : List ℕ) → AreMembers fs xs → AreMembers gs ys →
    length fs ≤ n → length gs ≤ n → ((k : ℕ) → k < n → has_number xs k ≡ has_number ys k) → true ≡ bytes_eq xs ys
same-held n fs gs xs ys p q l m h =
    let all : xs ≡ ys =
    sym (as-held n xs (more-room (length fs) n xs l p.below) p.ascend)
    ∙ below-same-to (λ i. cond (has_number xs i) (i ∷ []) []) (λ i. cond (has_number ys i) (i ∷ []) []) n
    (λ k k_low. ap (λ b. cond b (k ∷ []) []) (h k k_low))
    ∙ as-held n ys (more-room (length gs) n ys m q.below) q.ascend in
    sym ((bytes_eq-Decides xs ys).1 all)
