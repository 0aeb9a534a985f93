-- Facts of a network in range.
use Rattle.std.proofs.Common.{◌≡◌, ap, ℕ, ◌≤◌, true, ◌&&◌, not, List, [], ◌∷◌, length, nat_lt, arith}
use Rattle.std.specs.Prelude.{nat_le}
use Rattle.std.specs.List.{list_all, range_with_len}
use Rattle.std.proofs.lemmas.Bool.{and_parts, leb-true, ltb-true}
use Rattle.eon_model.specs.Names.{is_name, has_name, ascend}
use Rattle.eon_model.specs.Lists.{numbers_ascend}
use Rattle.eon_model.specs.Network.{Network, Fibre, Group, fibre_names, group_names}
use Rattle.eon_model.specs.NetworkText.{is_group_among, is_in_few_groups, has_nodes, has_fibres, has_groups, is_network}
use Rattle.eon_model.proofs.TextGroups.{in_list}

-- a list that is not empty
pub not_nil : {X : Type 0} (P : Type 0) (xs : List X) → 1 ≤ length xs → xs ≡ [] → P
not_nil P xs l e = let none : length xs ≡ 0 = ap length e in absurd (omega arith)

pub network_few : (net : Network) → is_network net ≡ true →
    list_all (is_in_few_groups net.groups) (range_with_len 0 (length net.fibres)) ≡ true
network_few net h =
    let a = and_parts (has_nodes net && has_fibres net) (has_groups net) h in
    (and_parts (nat_le (length net.groups) 128 && list_all (is_group_among net.fibres) net.groups
    && ascend (group_names net.groups)) _ a.1).1

-- where a group is, there is a fibre
some_of : (fs : List Fibre) (numbers : List ℕ) → 1 ≤ length numbers → in_list fs numbers ≡ true → 1 ≤ length fs
some_of fs [] l h = absurd (omega arith)
some_of fs (i ∷ is) l h =
    let b = ltb-true i (length fs) (and_parts (nat_lt i (length fs)) (in_list fs is) h).0 in omega arith

pub some_fibres : (fs : List Fibre) (g : Group) → is_group_among fs g ≡ true → 1 ≤ length fs
some_fibres fs g h =
    let a = and_parts (is_name g.name && not (has_name (fibre_names fs) g.name)
    && nat_le 1 (length g.fibres) && in_list fs g.fibres) (numbers_ascend g.fibres) h in
    let b = and_parts (is_name g.name && not (has_name (fibre_names fs) g.name) && nat_le 1 (length g.fibres))
    (in_list fs g.fibres) a.0 in
    let c = and_parts (is_name g.name && not (has_name (fibre_names fs) g.name)) (nat_le 1 (length g.fibres)) b.0 in
    some_of fs g.fibres (leb-true 1 (length g.fibres) c.1) b.1
