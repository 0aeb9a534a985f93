-- The lines of named groups pass.
use Rattle.std.proofs.Common.{◌≡◌, refl, sym, ◌∙◌, ap, ℕ, zero, suc, ◌+◌, ◌-◌, ◌<◌, ◌≤◌, Bool, true, false, cond, ◌&&◌, ◌||◌, not, List, [], ◌∷◌, ◌++◌, length, map, drop, count_by, nat_eq, nat_lt, arith}
use Rattle.std.specs.Prelude.{codes, nat_le, zip, replicate}
use Rattle.std.specs.List.{list_all, list_any, range_with_len}
use Rattle.std.specs.declared.cmp.Ordering.TheVariants.{Less}
use Rattle.std.specs.Ordering.{is_lt}
use Rattle.std.specs.Cmp.{nat_cmp_is}
use Rattle.std.proofs.lemmas.Bool.{and_parts, and_from, or_from, not-true, not_from_true, leb-true, lt-leb, ltb-true, eqb-true, eq-eqb}
use Rattle.std.proofs.lemmas.List.{length-map}
use Rattle.eon_model.specs.Names.{Name, is_name, same_name, is_above, has_name, ascend}
use Rattle.eon_model.specs.Lists.{has_number, numbers_ascend}
use Rattle.eon_model.specs.Network.{Fibre, Group, fibre_at, fibre_names, group_names, names_of_fibres}
use Rattle.eon_model.specs.NetworkText.{is_group_among, is_in_few_groups}
use Rattle.eon_model.specs.NetworkFault as fault
use Rattle.eon_model.specs.NetworkFault.{Word, AName, Fields, field_at, last_word, may_stand_after, lines_with, names_with, groups_with, is_spelled, has_form}
use Rattle.eon_model.proofs.OrderLaws.{IsIn}
use Rattle.eon_model.proofs.ListLaws.{in_range}
use Rattle.eon_model.proofs.Members.{list_all-at, any-by}
use Rattle.eon_model.proofs.NameLaws.{names_equal}
use Rattle.eon_model.proofs.NumberLaws.{name_cmp-fibre_at}
use Rattle.eon_model.proofs.NamePlaceLaws.{name-fibre_at, name_at-passes}
use Rattle.eon_model.proofs.NetworkReadLaws.{length_names}
use Rattle.eon_model.proofs.NetworkTextLaws.{fibre_words, group_words}
use Rattle.eon_model.proofs.TextCauses.{Passes}
use Rattle.eon_model.proofs.TextLists.{all-at, count-before, count-cons, none-any}
use Rattle.eon_model.proofs.TextKinds.{room, rises, has-at, other-name}

-- ---- members

-- the numbers are those of fibres
abbrev pub in_list : List Fibre → List ℕ → Bool
in_list fs numbers = list_all (λ i. nat_lt i (length fs)) numbers

pub member-below : (fs : List Fibre) (numbers : List ℕ) (i : ℕ) → in_list fs numbers ≡ true → IsIn i numbers →
    i < length fs
member-below fs numbers i h j = ltb-true i (length fs) (list_all-at (λ k. nat_lt k (length fs)) numbers i h j)

pub fibre-named : (fs : List Fibre) (i : ℕ) → list_all is_name (fibre_names fs) ≡ true → i < length fs →
    is_name (fibre_at fs i).name ≡ true
fibre-named fs i names l =
    let n = length_names fs in
    ap is_name (name-fibre_at fs i) ∙ name_at-passes is_name (fibre_names fs) i names (omega arith)

members_named : (fs : List Fibre) (numbers : List ℕ) → list_all is_name (fibre_names fs) ≡ true →
    in_list fs numbers ≡ true → list_all is_name (names_of_fibres fs numbers) ≡ true
members_named fs [] names h = refl
members_named fs (i ∷ is) names h =
    let p = and_parts (nat_lt i (length fs)) (in_list fs is) h in
    and_from (is_name (fibre_at fs i).name) (list_all is_name (names_of_fibres fs is))
    (fibre-named fs i names (ltb-true i (length fs) p.0)) (members_named fs is names p.1)

above_each : (fs : List Fibre) (i : ℕ) (numbers : List ℕ) → ascend (fibre_names fs) ≡ true → i < length fs →
    in_list fs numbers ≡ true → list_all (nat_lt i) numbers ≡ true →
    list_all (λ b. is_above b (fibre_at fs i).name) (names_of_fibres fs numbers) ≡ true
above_each fs i [] up l h k = refl
above_each fs i (j ∷ js) up l h k =
    let p = and_parts (nat_lt j (length fs)) (in_list fs js) h in
    let q = and_parts (nat_lt i j) (list_all (nat_lt i) js) k in
    let below = ltb-true i j q.0 in
    and_from (is_above (fibre_at fs j).name (fibre_at fs i).name) _
    (ap is_lt (name_cmp-fibre_at fs i j up l (ltb-true j (length fs) p.0) ∙ sym (nat_cmp_is i j Less below)))
    (above_each fs i js up l p.1 q.1)

members_rise : (fs : List Fibre) (numbers : List ℕ) → ascend (fibre_names fs) ≡ true →
    in_list fs numbers ≡ true → numbers_ascend numbers ≡ true → ascend (names_of_fibres fs numbers) ≡ true
members_rise fs [] up h k = refl
members_rise fs (i ∷ is) up h k =
    let p = and_parts (nat_lt i (length fs)) (in_list fs is) h in
    let q = and_parts (list_all (nat_lt i) is) (numbers_ascend is) k in
    and_from (list_all (λ b. is_above b (fibre_at fs i).name) (names_of_fibres fs is)) (ascend (names_of_fibres fs is))
    (above_each fs i is up (ltb-true i (length fs) p.0) p.1 q.0) (members_rise fs is up p.1 q.1)

-- ---- the form

names_spelled : (n : ℕ) (names : List Name) → list_all is_name names ≡ true →
    list_all is_spelled (zip (replicate n AName) names) ≡ true
names_spelled zero names h = refl
names_spelled (suc n) [] h = refl
names_spelled (suc n) (m ∷ names) h =
    let p = and_parts (is_name m) (list_all is_name names) h in
    and_from (is_name m) (list_all is_spelled (zip (replicate n AName) names)) p.0 (names_spelled n names p.1)

length_replicate : (n : ℕ) → length (replicate n AName) ≡ n
length_replicate zero = refl
length_replicate (suc n) = let more = length_replicate n in omega arith

group_form : (name : Name) (members : List Name) → is_name name ≡ true → list_all is_name members ≡ true →
    1 ≤ length members → has_form fault.Group (codes "group" ∷ name ∷ members) ≡ true
group_form name [] n h l = absurd (omega arith)
group_form name (m ∷ ms) n h l =
    let p = and_parts (is_name m) (list_all is_name ms) h in
    let extra : length (codes "group" ∷ name ∷ m ∷ ms) - 1 - 2 ≡ length ms = omega arith in
    let count = length_replicate (length (codes "group" ∷ name ∷ m ∷ ms) - 1 - 2) in
    and_from (nat_eq (length (codes "group" ∷ name ∷ m ∷ ms))
    (length (AName ∷ AName ∷ replicate (length (codes "group" ∷ name ∷ m ∷ ms) - 1 - 2) AName) + 1)) _
    (eq-eqb _ _ (omega arith))
    (and_from (is_name name) _ n (and_from (is_name m) _ p.0
    (names_spelled (length (codes "group" ∷ name ∷ m ∷ ms) - 1 - 2) ms p.1)))

names_ranged : (n : ℕ) (names : List Name) → list_all fault.is_in_range (zip (replicate n AName) names) ≡ true
names_ranged zero names = refl
names_ranged (suc n) [] = refl
names_ranged (suc n) (m ∷ names) = names_ranged n names

group_ranges : (earlier : List Fields) (name : Name) (members : List Name) → fault.has_ranges earlier fault.Group (codes "group" ∷ name ∷ members) ≡ true
group_ranges earlier name [] = refl
group_ranges earlier name (m ∷ ms) =
    and_from _ true (names_ranged (length (codes "group" ∷ name ∷ m ∷ ms) - 1 - 2) ms) refl

-- ---- fibres by name

pub fibres-back : (nodes : List Name) (fs : List Fibre) →
    map (λ fields. field_at fields 1) (map (fibre_words nodes) fs) ≡ fibre_names fs
fibres-back nodes [] = refl
fibres-back nodes (f ∷ fs) = ap (λ v. f.name ∷ v) (fibres-back nodes fs)

-- two numbers of fibres are one where the names are one
same_by : (fs : List Fibre) (i k : ℕ) → ascend (fibre_names fs) ≡ true → i < length fs → k < length fs →
    (t : Bool) → nat_eq k i ≡ t → same_name (fibre_at fs i).name (fibre_at fs k).name ≡ t
same_by fs i k up li lk true e =
    ap (λ j. same_name (fibre_at fs i).name (fibre_at fs j).name) (eqb-true k i e)
    ∙ names_equal.refl (fibre_at fs i).name
same_by fs i k up li lk false e =
    let n = length_names fs in
    names_equal.symm (fibre_at fs i).name (fibre_at fs k).name
    ∙ (λ j. same_name (name-fibre_at fs k j) (name-fibre_at fs i j))
    ∙ other-name (fibre_names fs) k i up (omega arith) (omega arith) e

pub has-member : (fs : List Fibre) (i : ℕ) (numbers : List ℕ) → ascend (fibre_names fs) ≡ true → i < length fs →
    in_list fs numbers ≡ true →
    has_name (names_of_fibres fs numbers) (fibre_at fs i).name ≡ has_number numbers i
has-member fs i [] up l h = refl
has-member fs i (k ∷ ks) up l h =
    let p = and_parts (nat_lt k (length fs)) (in_list fs ks) h in
    (λ j. same_by fs i k up l (ltb-true k (length fs) p.0) (nat_eq k i) refl j
    || has-member fs i ks up l p.1 j)

group_members : (fs : List Fibre) (g : Group) → is_group_among fs g ≡ true → in_list fs g.fibres ≡ true
group_members fs g h =
    let a = and_parts (is_name g.name && not (has_name (fibre_names fs) g.name)
    && nat_le 1 (length g.fibres) && in_list fs g.fibres) (numbers_ascend g.fibres) h in
    (and_parts (is_name g.name && not (has_name (fibre_names fs) g.name) && nat_le 1 (length g.fibres))
    (in_list fs g.fibres) a.0).1

-- as many lines as groups hold the fibre
pub counted : (fs : List Fibre) (i : ℕ) (gs : List Group) → ascend (fibre_names fs) ≡ true → i < length fs →
    list_all (is_group_among fs) gs ≡ true →
    count_by (λ (fields : Fields). has_name (drop 2 fields) (fibre_at fs i).name) (map (group_words fs) gs)
    ≡ count_by (λ (g : Group). has_number g.fibres i) gs
counted fs i [] up l h = refl
counted fs i (g ∷ gs) up l h =
    let p = and_parts (is_group_among fs g) (list_all (is_group_among fs) gs) h in
    count-cons (λ (fields : Fields). has_name (drop 2 fields) (fibre_at fs i).name) (group_words fs g) (map (group_words fs) gs)
    ∙ (λ j. cond (has-member fs i g.fibres up l (group_members fs g p.0) j) 1 0 + counted fs i gs up l p.1 j)
    ∙ sym (count-cons (λ (x : Group). has_number x.fibres i) g gs)

before_all : {X : Type 0} (p : X → Bool) (before : List X) (after : List X) → list_all p (before ++ after) ≡ true →
    list_all p before ≡ true
before_all p [] after h = refl
before_all p (x ∷ xs) after h =
    let q = and_parts (p x) (list_all p (xs ++ after)) h in and_from (p x) (list_all p xs) q.0 (before_all p xs after q.1)

-- ---- the line of a group

pub group-passes : (earlier : List Fields) (nodes : List Name) (fs : List Fibre) (all before : List Group) (g : Group)
    (after : List Group) → before ++ g ∷ after ≡ all → length all ≤ 128 → list_all is_name (fibre_names fs) ≡ true →
    ascend (fibre_names fs) ≡ true → list_all (is_group_among fs) all ≡ true → ascend (group_names all) ≡ true →
    list_all (is_in_few_groups all) (range_with_len 0 (length fs)) ≡ true →
    may_stand_after (last_word earlier) fault.Group ≡ true →
    lines_with earlier (codes "fibre") ≡ map (fibre_words nodes) fs →
    lines_with earlier (codes "group") ≡ map (group_words fs) before →
    Passes earlier fault.Group (group_words fs g)
group-passes earlier nodes fs all before g after e l names fs_up ok up few stands fibre_lines lines =
    let ok_here : list_all (is_group_among fs) (before ++ g ∷ after) ≡ true = ap (list_all (is_group_among fs)) e ∙ ok in
    let h = all-at (is_group_among fs) before g after ok_here in
    let a = and_parts (is_name g.name && not (has_name (fibre_names fs) g.name)
    && nat_le 1 (length g.fibres) && in_list fs g.fibres) (numbers_ascend g.fibres) h in
    let b = and_parts (is_name g.name && not (has_name (fibre_names fs) g.name) && nat_le 1 (length g.fibres))
    (in_list fs g.fibres) a.0 in
    let c = and_parts (is_name g.name && not (has_name (fibre_names fs) g.name)) (nat_le 1 (length g.fibres)) b.0 in
    let d = and_parts (is_name g.name) (not (has_name (fibre_names fs) g.name)) c.0 in
    let some = leb-true 1 (length g.fibres) c.1 in
    let members = names_of_fibres fs g.fibres in
    let many = length-map g.fibres (λ i. (fibre_at fs i).name) in
    let told : names_with earlier (codes "fibre") ≡ fibre_names fs =
    ap (map (λ fields. field_at fields 1)) fibre_lines ∙ fibres-back nodes fs in
    let n = length_names fs in
    record {
      word = refl;
      stands = stands;
      parts = refl;
      form = group_form g.name members d.0 (members_named fs g.fibres names b.1) (omega arith);
      ranges = group_ranges earlier g.name members;
      few = ap (λ (v : List Fields). nat_le 128 (length v)) lines ∙ room (group_words fs) 128 before g after all e l;
      ordered = or_from _ (not (ascend members))
          (rises (group_words fs) (λ (x : Group). x.name) (λ x. refl) before g after all e up
          (lines_with earlier (codes "group")) lines)
          (not_from_true (ascend members) (members_rise fs g.fibres fs_up b.1 a.1));
      once = ap (λ v. has_name v g.name) told ∙ not-true (has_name (fibre_names fs) g.name) d.1;
      known = ap (λ v. list_any (λ f. not (has_name v f)) members) told
          ∙ none-any (λ f. not (has_name (fibre_names fs) f)) (λ i. (fibre_at fs i).name) g.fibres
          (λ i j. not_from_true _ (ap (has_name (fibre_names fs)) (name-fibre_at fs i)
          ∙ has-at (fibre_names fs) i (let m = member-below fs g.fibres i b.1 j in omega arith)));
      apart = refl;
      eighth = none-any (λ f. nat_le 8 (groups_with earlier f)) (λ i. (fibre_at fs i).name) g.fibres
          (λ i j.
          let m = member-below fs g.fibres i b.1 j in
          let is : groups_with earlier (fibre_at fs i).name ≡ count_by (λ (x : Group). has_number x.fibres i) before =
          ap (λ (v : List Fields). count_by (λ (fields : Fields). has_name (drop 2 fields) (fibre_at fs i).name) v) lines
          ∙ counted fs i before fs_up m (before_all (is_group_among fs) before (g ∷ after) ok_here) in
          let one = count-before (λ (x : Group). has_number x.fibres i) before g after
          (any-by (λ k. nat_eq k i) g.fibres i j (eq-eqb i i refl)) in
          let most = leb-true (count_by (λ (x : Group). has_number x.fibres i) all) 8
          (list_all-at (is_in_few_groups all) (range_with_len 0 (length fs)) i few (in_range 0 (length fs) i (omega arith) (omega arith))) in
          let same : count_by (λ (x : Group). has_number x.fibres i) (before ++ g ∷ after)
          ≡ count_by (λ (x : Group). has_number x.fibres i) all = ap (count_by (λ (x : Group). has_number x.fibres i)) e in
          ap (nat_le 8) is ∙ lt-leb 8 (count_by (λ (x : Group). has_number x.fibres i) before) (omega arith));
    }
