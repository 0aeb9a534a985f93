-- The lines of formats, nodes and fibres pass.
use Rattle.std.proofs.Common.{◌≡◌, refl, sym, ◌∙◌, ap, ℕ, zero, suc, ◌<◌, ◌≤◌, true, false, ◌&&◌, ◌||◌, not, List, [], ◌∷◌, ◌++◌, length, map, nat_eq, nat_lt, arith}
use Rattle.std.specs.Prelude.{codes, nat_le}
use Rattle.std.specs.Option.{option_map_or}
use Rattle.std.specs.List.{list_all, list_any}
use Rattle.std.specs.Fmt.{decimal}
use Rattle.std.proofs.lemmas.Bool.{and_parts, and_from, or_from, or_left, or_right, not-true, not_from_true, lt-leb, ltb-true, eq-eqb, both_ways, false_from_ne_true}
use Rattle.std.proofs.lemmas.List.{length-map}
use Rattle.eon_model.specs.Names.{Name, is_name, same_name, is_above, has_name, differ, ascend}
use Rattle.eon_model.specs.Numerals.{is_within, is_number, number_value}
use Rattle.eon_model.specs.Network.{Fibre, name_at, fibre_names, number_of}
use Rattle.eon_model.specs.Formats.{Format}
use Rattle.eon_model.specs.NetworkText.{is_format, is_fibre_among}
use Rattle.eon_model.specs.NetworkFault as fault
use Rattle.eon_model.specs.NetworkFault.{Word, Fields, field_at, last_word, last_fields, may_stand_after, lines_with, names_with}
use Rattle.eon_model.proofs.NameLaws.{names_equal}
use Rattle.eon_model.proofs.NumberLaws.{same-name}
use Rattle.eon_model.proofs.NamePlaceLaws.{number_of-name_at, name_at-passes}
use Rattle.eon_model.proofs.NetworkTextLaws.{format_words, node_words, fibre_words}
use Rattle.eon_model.proofs.Members.{all_pairs-map}
use Rattle.eon_model.proofs.TextCauses.{Passes}
use Rattle.eon_model.proofs.TextNumbers.{some_is, number-spelled}
use Rattle.eon_model.proofs.TextLists.{all-at, pairs-before, shorter}
use Rattle.eon_model.proofs.TextLast.{above-last}

-- ---- what a kind of line needs

-- fewer lines of the kind than there may be
few-lines : (most : ℕ) (n : ℕ) → n < most → nat_le most n ≡ false
few-lines most n l = lt-leb most n l

-- of fewer elements than there may be, those before one leave room for it
pub room : {X : Type 0} (words : X → Fields) (most : ℕ) (before : List X) (x : X) (after all : List X) →
    before ++ x ∷ after ≡ all → length all ≤ most → nat_le most (length (map words before)) ≡ false
room words most before x after all e l =
    let n = length-map before words in
    let m = shorter before x after in
    let s : length (before ++ x ∷ after) ≡ length all = ap length e in
    few-lines most (length (map words before)) (omega arith)

-- a name that ascends is above the last before it
pub rises : {X : Type 0} (words : X → Fields) (key : X → Name) → ((x : X) → field_at (words x) 1 ≡ key x) →
    (before : List X) (x : X) (after all : List X) → before ++ x ∷ after ≡ all → ascend (map key all) ≡ true →
    (lines : List Fields) → lines ≡ map words before →
    option_map_or (λ last. not (is_above (key x) (field_at last 1))) (last_fields lines) false ≡ false
rises words key named before x after all e up lines k =
    let above = pairs-before (λ a b. is_above (key b) (key a)) before x after
    (sym (all_pairs-map (λ a b. is_above b a) key (before ++ x ∷ after)) ∙ ap (λ v. ascend (map key v)) e ∙ up) in
    ap (λ (v : List Fields). option_map_or (λ last. not (is_above (key x) (field_at last 1))) (last_fields v) false) k
    ∙ above-last words key named (key x) before above

-- ---- formats

not_there : (name : Name) (fs : List Format) → list_all (λ f. not (same_name f.name name)) fs ≡ true →
    has_name (map (λ fields. field_at fields 1) (map format_words fs)) name ≡ false
not_there name [] h = refl
not_there name (f ∷ fs) h =
    let p = and_parts (not (same_name f.name name)) (list_all (λ g. not (same_name g.name name)) fs) h in
    or_from (same_name name f.name) (has_name (map (λ fields. field_at fields 1) (map format_words fs)) name)
    (names_equal.symm name f.name ∙ not-true (same_name f.name name) p.0) (not_there name fs p.1)

pub format-passes : (earlier : List Fields) (all before : List Format) (f : Format) (after : List Format) →
    before ++ f ∷ after ≡ all → length all ≤ 64 → list_all is_format all ≡ true →
    differ (map (λ (g : Format). g.name) all) ≡ true →
    may_stand_after (last_word earlier) fault.Format ≡ true →
    lines_with earlier (codes "format") ≡ map format_words before →
    Passes earlier fault.Format (format_words f)
format-passes earlier all before f after e l ok apart stands lines =
    let here = all-at is_format before f after (ap (list_all is_format) e ∙ ok) in
    let a = and_parts (is_name f.name && is_within 1 100000 f.reach) (is_within 1 10000 f.per) here in
    let b = and_parts (is_name f.name) (is_within 1 100000 f.reach) a.0 in
    let reach = number-spelled 1 100000 f.reach (omega arith) b.1 in
    let per = number-spelled 1 10000 f.per (omega arith) a.1 in
    let other = pairs-before (λ (x y : Format). not (same_name x.name y.name)) before f after
    (sym (all_pairs-map (λ x y. not (same_name x y)) (λ (g : Format). g.name) (before ++ f ∷ after))
    ∙ ap (λ v. differ (map (λ (g : Format). g.name) v)) e ∙ apart) in
    record {
      word = refl;
      stands = stands;
      parts = refl;
      form = and_from (is_name f.name) _ b.0 (and_from (is_number (decimal f.reach)) _ reach.spelled
          (and_from (is_number (decimal f.per)) true per.spelled refl));
      ranges = and_from _ true (and_from (is_within 1 100000 (number_value (decimal f.reach))) _ reach.ranged
          (and_from (is_within 1 10000 (number_value (decimal f.per))) true per.ranged refl)) refl;
      few = ap (λ (v : List Fields). nat_le 64 (length v)) lines ∙ room format_words 64 before f after all e l;
      ordered = refl;
      once = ap (λ (v : List Fields). has_name (map (λ fields. field_at fields 1) v) f.name) lines
          ∙ not_there f.name before other;
      known = refl;
      apart = refl;
      eighth = refl;
    }

-- ---- nodes

pub node-passes : (earlier : List Fields) (all before : List Name) (name : Name) (after : List Name) →
    before ++ name ∷ after ≡ all → length all ≤ 64 → list_all is_name all ≡ true →
    ascend (map (λ (n : Name). n) all) ≡ true → may_stand_after (last_word earlier) fault.Node ≡ true →
    lines_with earlier (codes "node") ≡ map node_words before →
    Passes earlier fault.Node (node_words name)
node-passes earlier all before name after e l ok up stands lines =
    let here = all-at is_name before name after (ap (list_all is_name) e ∙ ok) in
    record {
      word = refl;
      stands = stands;
      parts = refl;
      form = and_from (is_name name) true here refl;
      ranges = refl;
      few = ap (λ (v : List Fields). nat_le 64 (length v)) lines ∙ room node_words 64 before name after all e l;
      ordered = rises node_words (λ (n : Name). n) (λ n. refl) before name after all e up
          (lines_with earlier (codes "node")) lines;
      once = refl;
      known = refl;
      apart = refl;
      eighth = refl;
    }

-- ---- fibres

pub has-at : (names : List Name) (i : ℕ) → i < length names → has_name names (name_at names i) ≡ true
has-at [] i l = absurd (omega arith)
has-at (n ∷ names) zero l = or_left (same_name n n) (list_any (same_name n) names) (names_equal.refl n)
has-at (n ∷ names) (suc i) l =
    or_right (same_name (name_at names i) n) (has_name names (name_at names i)) (has-at names i (omega arith))

pub nodes-back : (names : List Name) → map (λ fields. field_at fields 1) (map node_words names) ≡ names
nodes-back [] = refl
nodes-back (n ∷ names) = ap (λ v. n ∷ v) (nodes-back names)

-- names with other numbers are others
pub other-name : (names : List Name) (i j : ℕ) → ascend names ≡ true → i < length names → j < length names →
    nat_eq i j ≡ false → same_name (name_at names i) (name_at names j) ≡ false
other-name names i j up li lj d =
    false_from_ne_true (same_name (name_at names i) (name_at names j)) λ e.
    both_ways (nat_eq i j) d (eq-eqb i j (some_is i j (sym (number_of-name_at names i up li)
    ∙ ap (number_of names) (same-name (name_at names i) (name_at names j) e)
    ∙ number_of-name_at names j up lj)))

pub fibre-passes : (earlier : List Fields) (nodes : List Name) (all before : List Fibre) (f : Fibre) (after : List Fibre) →
    before ++ f ∷ after ≡ all → length all ≤ 128 → list_all is_name nodes ≡ true → ascend nodes ≡ true →
    list_all (is_fibre_among nodes) all ≡ true → ascend (fibre_names all) ≡ true →
    may_stand_after (last_word earlier) fault.Fibre ≡ true →
    lines_with earlier (codes "node") ≡ map node_words nodes →
    lines_with earlier (codes "fibre") ≡ map (fibre_words nodes) before →
    Passes earlier fault.Fibre (fibre_words nodes f)
fibre-passes earlier nodes all before f after e l names nodes_up ok up stands node_lines lines =
    let h = all-at (is_fibre_among nodes) before f after (ap (list_all (is_fibre_among nodes)) e ∙ ok) in
    let a = and_parts (is_name f.name && nat_lt f.a (length nodes) && nat_lt f.b (length nodes)
    && not (nat_eq f.a f.b)) (is_within 1 100000 f.km) h in
    let b = and_parts (is_name f.name && nat_lt f.a (length nodes) && nat_lt f.b (length nodes))
    (not (nat_eq f.a f.b)) a.0 in
    let c = and_parts (is_name f.name && nat_lt f.a (length nodes)) (nat_lt f.b (length nodes)) b.0 in
    let d = and_parts (is_name f.name) (nat_lt f.a (length nodes)) c.0 in
    let la = ltb-true f.a (length nodes) d.1 in
    let lb = ltb-true f.b (length nodes) c.1 in
    let km = number-spelled 1 100000 f.km (omega arith) a.1 in
    let told : names_with earlier (codes "node") ≡ nodes =
    ap (map (λ fields. field_at fields 1)) node_lines ∙ nodes-back nodes in
    record {
      word = refl;
      stands = stands;
      parts = refl;
      form = and_from (is_name f.name) _ d.0
          (and_from (is_name (name_at nodes f.a)) _ (name_at-passes is_name nodes f.a names la)
          (and_from (is_name (name_at nodes f.b)) _ (name_at-passes is_name nodes f.b names lb)
          (and_from (is_number (decimal f.km)) true km.spelled refl)));
      ranges = and_from _ true (and_from (is_within 1 100000 (number_value (decimal f.km))) true km.ranged refl) refl;
      few = ap (λ (v : List Fields). nat_le 128 (length v)) lines
          ∙ room (fibre_words nodes) 128 before f after all e l;
      ordered = rises (fibre_words nodes) (λ (g : Fibre). g.name) (λ g. refl) before f after all e up
          (lines_with earlier (codes "fibre")) lines;
      once = refl;
      known = (λ i. not (has_name (told i) (name_at nodes f.a)) || (not (has_name (told i) (name_at nodes f.b)) || false))
          ∙ or_from _ _ (not_from_true _ (has-at nodes f.a la))
          (or_from _ false (not_from_true _ (has-at nodes f.b lb)) refl);
      apart = other-name nodes f.a f.b nodes_up la lb (not-true (nat_eq f.a f.b) b.1);
      eighth = refl;
    }
