-- The text of a setup in range is shorter than 1,048,576 bytes.
use Rattle.std.proofs.Common.{◌≡◌, refl, sym, ◌∙◌, ap, subst, ℕ, ◌+◌, ◌*◌, ◌<◌, ◌≤◌, ◌^◌, Bool, true, ◌&&◌, not, List, [], ◌∷◌, ◌++◌, length, nat_lt, nat_eq, arith}
use Rattle.std.specs.Prelude.{codes, nat_le}
use Rattle.std.specs.List.{list_all, flat_map}
use Rattle.std.specs.Fmt.{decimal}
use Rattle.std.proofs.lemmas.Bool.{and_parts, and_from, le-leb, leb-true, ltb-true}
use Rattle.std.proofs.Math.ListN.{length-append}
use Rattle.std.proofs.Math.Nat.{mul-suc}
use Rattle.eon_model.specs.Grid.{Units, is_units}
use Rattle.eon_model.specs.Names.{Name, is_name, has_name}
use Rattle.eon_model.specs.Lists.{numbers_ascend}
use Rattle.eon_model.specs.Network.{Network, Fibre, Group, name_at, fibre_at, fibre_names, names_of_fibres}
use Rattle.eon_model.specs.Formats.{Format}
use Rattle.eon_model.specs.Legal.{Setup}
use Rattle.eon_model.specs.Spelling.{spaced, line}
use Rattle.eon_model.specs.Numerals.{is_within}
use Rattle.eon_model.specs.NetworkText.{version_of, number_line, band_line, format_line, node_line, fibre_line, group_line, network_lines, network_text, is_format, is_fibre_among, is_group_among, is_network, is_setup}
use Rattle.eon_model.specs.NetworkTextLaws.{TextsAreShort}
use Rattle.eon_model.proofs.NamePlaceLaws.{name-fibre_at, name_at-passes}
use Rattle.eon_model.proofs.SetupLaws.{network-parts}
use Rattle.eon_model.proofs.SetupFacts.{setup-facts}
use Rattle.eon_model.proofs.NetworkReadLaws.{length_names, within_small}
use Rattle.eon_model.proofs.NetworkTextLaws.{Words, number_words, band_words, format_words, node_words, fibre_words, group_words}
use Rattle.eon_model.proofs.CleanLines.{small_units, small_version, fibre_names_are}
use Rattle.eon_model.proofs.ReplyLengths.{weight, joined, name-short, number-short, signed-short}

-- ---- lines

line-short : (ws : Words) → length (line ws) ≤ weight ws + 1
line-short ws =
    let all = joined 32 ws in
    let e = length-append (spaced ws) (10 ∷ []) in
    omega arith

-- lines of which each is at most so long
each-short : {X : Type 0} (words : X → Words) (test : X → Bool) (most : ℕ) →
    ((x : X) → test x ≡ true → weight (words x) + 1 ≤ most) → (xs : List X) → list_all test xs ≡ true →
    length (flat_map (λ x. line (words x)) xs) ≤ most * length xs
each-short words test most short [] h = omega arith
each-short words test most short (x ∷ xs) h =
    let parts = and_parts (test x) (list_all test xs) h in
    let one = line-short (words x) in
    let few = short x parts.0 in
    let more = each-short words test most short xs parts.1 in
    let both = length-append (line (words x)) (flat_map (λ x. line (words x)) xs) in
    let times = mul-suc (length xs) most in
    omega arith

-- ---- each kind

tested : (least most n : ℕ) → is_within least most n ≡ true → most < 2 ^ 64 → length (decimal n) ≤ 20
tested least most n h few = number-short n (within_small least most n h few)

band-short : (part : Units) → is_units part ≡ true → weight (band_words part) + 1 ≤ 50
band-short part h =
    let u = small_units part h in
    let lo = signed-short part.lo u.lo in
    let hi = signed-short part.hi u.hi in
    omega arith

format-short : (f : Format) → is_format f ≡ true → weight (format_words f) + 1 ≤ 83
format-short f h =
    let a = and_parts (is_name f.name && is_within 1 100000 f.reach) (is_within 1 10000 f.per) h in
    let b = and_parts (is_name f.name) (is_within 1 100000 f.reach) a.0 in
    let name = name-short f.name b.0 in
    let reach = tested 1 100000 f.reach b.1 (omega arith) in
    let per = tested 1 10000 f.per a.1 (omega arith) in
    omega arith

node-short : (name : Name) → is_name name ≡ true → weight (node_words name) + 1 ≤ 39
node-short name h = let short = name-short name h in omega arith

fibre-short : (nodes : List Name) → list_all is_name nodes ≡ true → (f : Fibre) → is_fibre_among nodes f ≡ true →
    weight (fibre_words nodes f) + 1 ≤ 127
fibre-short nodes names f h =
    let a = and_parts (is_name f.name && nat_lt f.a (length nodes) && nat_lt f.b (length nodes)
    && not (nat_eq f.a f.b)) (is_within 1 100000 f.km) h in
    let b = and_parts (is_name f.name && nat_lt f.a (length nodes) && nat_lt f.b (length nodes))
    (not (nat_eq f.a f.b)) a.0 in
    let c = and_parts (is_name f.name && nat_lt f.a (length nodes)) (nat_lt f.b (length nodes)) b.0 in
    let d = and_parts (is_name f.name) (nat_lt f.a (length nodes)) c.0 in
    let name = name-short f.name d.0 in
    let one = name-short (name_at nodes f.a) (name_at-passes is_name nodes f.a names (ltb-true f.a (length nodes) d.1)) in
    let other = name-short (name_at nodes f.b) (name_at-passes is_name nodes f.b names (ltb-true f.b (length nodes) c.1)) in
    let km = tested 1 100000 f.km a.1 (omega arith) in
    omega arith

-- ---- groups

-- numbers that ascend, none below the first and all below n
ascend-few : (first n : ℕ) (is : List ℕ) → first ≤ n → list_all (λ i. nat_le first i) is ≡ true → numbers_ascend is ≡ true →
    list_all (λ i. nat_lt i n) is ≡ true → first + length is ≤ n
ascend-few first n [] few from rise h = omega arith
ascend-few first n (i ∷ is) few from rise h =
    let at = leb-true first i (and_parts (nat_le first i) (list_all (λ j. nat_le first j) is) from).0 in
    let below = and_parts (nat_lt i n) (list_all (λ j. nat_lt j n) is) h in
    let up = and_parts (list_all (nat_lt i) is) (numbers_ascend is) rise in
    let last = ltb-true i n below.0 in
    let more = ascend-few (i + 1) n is (omega arith) (each_above is up.0) up.1 below.1 in
    omega arith
  where
    each_above : (js : List ℕ) → list_all (nat_lt i) js ≡ true → list_all (λ j. nat_le (i + 1) j) js ≡ true
    each_above [] k = refl
    each_above (j ∷ js) k =
        let p = and_parts (nat_lt i j) (list_all (nat_lt i) js) k in
        let over = ltb-true i j p.0 in
        and_from _ _ (le-leb (i + 1) j (omega arith)) (each_above js p.1)

all_from_0 : (is : List ℕ) → list_all (λ i. nat_le 0 i) is ≡ true
all_from_0 [] = refl
all_from_0 (i ∷ is) = and_from _ _ (le-leb 0 i (omega arith)) (all_from_0 is)

members-short : (fs : List Fibre) → list_all is_name (fibre_names fs) ≡ true → (is : List ℕ) →
    list_all (λ i. nat_lt i (length fs)) is ≡ true → weight (names_of_fibres fs is) ≤ 33 * length is
members-short fs names [] h = omega arith
members-short fs names (i ∷ is) h =
    let p = and_parts (nat_lt i (length fs)) (list_all (λ j. nat_lt j (length fs)) is) h in
    let l = ltb-true i (length fs) p.0 in
    let e = length_names fs in
    let named = name_at-passes is_name (fibre_names fs) i names (omega arith) in
    let one = name-short (fibre_at fs i).name (ap is_name (name-fibre_at fs i) ∙ named) in
    let more = members-short fs names is p.1 in
    omega arith

group-short : (fs : List Fibre) → list_all is_name (fibre_names fs) ≡ true → length fs ≤ 128 → (g : Group) →
    is_group_among fs g ≡ true → weight (group_words fs g) + 1 ≤ 4264
group-short fs names few g h =
    let a = and_parts (is_name g.name && not (has_name (fibre_names fs) g.name)
    && nat_le 1 (length g.fibres) && list_all (λ i. nat_lt i (length fs)) g.fibres)
    (numbers_ascend g.fibres) h in
    let b = and_parts (is_name g.name && not (has_name (fibre_names fs) g.name) && nat_le 1 (length g.fibres))
    (list_all (λ i. nat_lt i (length fs)) g.fibres) a.0 in
    let c = and_parts (is_name g.name && not (has_name (fibre_names fs) g.name)) (nat_le 1 (length g.fibres)) b.0 in
    let name = name-short g.name (and_parts (is_name g.name) (not (has_name (fibre_names fs) g.name)) c.0).0 in
    let count = ascend-few 0 (length fs) g.fibres (omega arith) (all_from_0 g.fibres) a.1 b.1 in
    let members = members-short fs names g.fibres b.1 in
    omega arith

-- ---- the text

number_line-short : (word : List ℕ) (n : ℕ) → length word ≤ 8 → n < 2 ^ 64 → length (number_line word n) ≤ 31
number_line-short word n few l =
    let d = number-short n l in
    let all = line-short (number_words word n) in
    omega arith

-- the length of nine texts joined
joined_nine : (a b c d e f g h i : List ℕ) →
    length ((((((((a ++ b) ++ c) ++ d) ++ e) ++ f) ++ g) ++ h) ++ i)
    ≡ length a + length b + length c + length d + length e + length f + length g + length h + length i
joined_nine a b c d e f g h i =
    let ab = length-append a b in
    let ac = length-append (a ++ b) c in
    let ad = length-append ((a ++ b) ++ c) d in
    let ae = length-append (((a ++ b) ++ c) ++ d) e in
    let af = length-append ((((a ++ b) ++ c) ++ d) ++ e) f in
    let ag = length-append (((((a ++ b) ++ c) ++ d) ++ e) ++ f) g in
    let ah = length-append ((((((a ++ b) ++ c) ++ d) ++ e) ++ f) ++ g) h in
    let ai = length-append (((((((a ++ b) ++ c) ++ d) ++ e) ++ f) ++ g) ++ h) i in
    omega arith

joined_three : (a b c : List ℕ) → length ((a ++ b) ++ c) ≡ length a + length b + length c
joined_three a b c =
    let ab = length-append a b in
    let ac = length-append (a ++ b) c in
    omega arith

network-short : (net : Network) → is_network net ≡ true → length (network_lines net) < 565000
network-short net h =
    let p = network-parts net h in
    let few_nodes = p.few_nodes in
    let few_fibres = p.few_fibres in
    let few_groups = p.few_groups in
    let names = fibre_names_are net.nodes net.fibres p.fibres in
    let nodes = each-short node_words is_name 39 node-short net.nodes p.node_names in
    let fibres = each-short (fibre_words net.nodes) (is_fibre_among net.nodes) 127
    (fibre-short net.nodes p.node_names) net.fibres p.fibres in
    let groups = each-short (group_words net.fibres) (is_group_among net.fibres) 4264
    (group-short net.fibres names few_fibres) net.groups p.groups in
    let all = joined_three (flat_map node_line net.nodes) (flat_map (fibre_line net.nodes) net.fibres)
    (flat_map (group_line net.fibres) net.groups) in
    omega arith

pub text-short : (s : Setup) → is_setup s ≡ true → length (network_text s) < 1048576
text-short s h =
    let f = setup-facts s h in
    let few_parts = f.few_parts in
    let few_formats = f.few_formats in
    let guard = f.guard in
    let most_journal = f.most_journal in
    let few_services = f.few_services in
    let few_k = f.few_k in
    let version = number_line-short (codes "net") (version_of s.band) (omega arith) (small_version s.band) in
    let band = each-short band_words is_units 50 band-short s.band f.parts.units in
    let guard_line = number_line-short (codes "guard") s.guard (omega arith) (omega arith) in
    let k_line = number_line-short (codes "k") s.k (omega arith) (omega arith) in
    let services = number_line-short (codes "services") s.services (omega arith) (omega arith) in
    let journal = number_line-short (codes "journal") s.journal (omega arith) (omega arith) in
    let formats = each-short format_words is_format 83 format-short s.formats f.formats in
    let network = network-short s.network f.network in
    let end = line-short (codes "end" ∷ []) in
    let all = joined_nine (number_line (codes "net") (version_of s.band)) (flat_map band_line s.band)
    (number_line (codes "guard") s.guard) (number_line (codes "k") s.k) (number_line (codes "services") s.services)
    (number_line (codes "journal") s.journal) (flat_map format_line s.formats) (network_lines s.network)
    (line (codes "end" ∷ [])) in
    omega arith

pub texts-are-short : TextsAreShort
texts-are-short bytes s t = subst (λ (v : List ℕ). length v < 1048576) (sym t.is) (text-short s t.in_range)
