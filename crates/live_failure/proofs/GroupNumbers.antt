-- The number of a group, and its name.
use Rattle.std.proofs.Common.{◌≡◌, refl, ◌∙◌, ap, subst, ℕ, zero, suc, ◌+◌, ◌≤◌, ◌<◌, arith, List, [], ◌∷◌, length, length-append, Option, Some, None}
use Rattle.std.specs.Prelude.{IsTrue, is_some}
use Rattle.std.specs.Option.{option_map, option_or, unwrap_or}
use Rattle.std.proofs.lemmas.List.{length-map}
use Rattle.eon_model.specs.Names.{Name}
use Rattle.eon_model.specs.Network.{Network, Fibre, Group, fibre_of, fibre_names, group_names, name_at, number_of, risk_names, risk_name, risk_number_of}
use Rattle.eon_model.specs.Legal.{Setup}
use Rattle.eon_model.specs.NetworkText.{is_setup}
use Rattle.eon_model.proofs.FollowLaws.{number_in}
use Rattle.eon_model.proofs.SetupFacts.{setup-facts}

fibre-in_range : (net : Network) (name : Name) (i : ℕ) → fibre_of net name ≡ Some i → i < length net.fibres
fibre-in_range net name i h =
    subst (λ (n : ℕ). i < n) (length-map net.fibres (λ (f : Fibre). f.name))
    (subst (λ (o : Option ℕ). unwrap_or o 0 < length (fibre_names net.fibres)) h
    (number_in (fibre_names net.fibres) name (ap is_some h)))

named-in_range : (n : ℕ) (groups : List Group) (name : Name) (i : ℕ) (found : Option ℕ) → n ≤ 128 →
    length groups ≤ 128 → number_of (group_names groups) name ≡ found → option_map (λ j. n + j) found ≡ Some i → i < 256
named-in_range n groups name i None few_fibres few_groups e h = cc
named-in_range n groups name i (Some j) few_fibres few_groups e h =
    let same : n + j ≡ i = cc in
    let below = number_in (group_names groups) name (ap is_some e) in
    let here : j < length (group_names groups) =
    subst (λ (o : Option ℕ). unwrap_or o 0 < length (group_names groups)) e below in
    let count = length-map groups (λ (x : Group). x.name) in
    omega arith

risk-by : (net : Network) (name : Name) (i : ℕ) (fibre : Option ℕ) → length net.fibres ≤ 128 →
    length net.groups ≤ 128 → fibre_of net name ≡ fibre →
    option_or fibre (option_map (λ j. length net.fibres + j) (number_of (group_names net.groups) name)) ≡ Some i → i < 256
risk-by net name i None few_fibres few_groups e h =
    named-in_range (length net.fibres) net.groups name i (number_of (group_names net.groups) name) few_fibres few_groups
    refl h
risk-by net name i (Some k) few_fibres few_groups e h =
    let below : i < length net.fibres = fibre-in_range net name i (e ∙ h) in omega arith

-- the number of a group is in range
pub risk-in_range : (setup : Setup) (name : Name) (i : ℕ) → IsTrue (is_setup setup) →
    risk_number_of setup.network name ≡ Some i → i < 256
risk-in_range setup name i ok h =
    let graph = (setup-facts setup ok).graph in
    risk-by setup.network name i (fibre_of setup.network name) graph.few_fibres graph.few_groups refl h

-- ---- the name of a group

name-past : (names : List Name) (i : ℕ) → length names ≤ i → name_at names i ≡ []
name-past [] i l = refl
name-past (n ∷ names) zero l = absurd (omega arith)
name-past (n ∷ names) (suc i) l = name-past names i (omega arith)

-- there is none behind the last group
pub no_name : (net : Network) (i : ℕ) → length net.fibres + length net.groups ≤ i → risk_name net i ≡ []
no_name net i l =
    let names = length-append (fibre_names net.fibres) (group_names net.groups) in
    let fibres = length-map net.fibres (λ (f : Fibre). f.name) in
    let groups = length-map net.groups (λ (g : Group). g.name) in
    name-past (risk_names net) i (omega arith)
