-- The lines of a band pass.
use Rattle.std.proofs.Common.{◌≡◌, refl, sym, ◌∙◌, ap, subst, ℕ, ◌≤◌, ◌≤ℤ◌, ℤ, pos, negsuc, ◌+ℤ◌, ◌-ℤ◌, Bool, true, false, cond, ◌&&◌, ◌||◌, not, List, [], ◌∷◌, ◌++◌, length, map, nat_le, nat_eq, arith}
use Rattle.std.specs.Prelude.{codes, int_le}
use Rattle.std.specs.Option.{option_map_or, unwrap_or}
use Rattle.std.specs.List.{list_all}
use Rattle.std.proofs.lemmas.Bool.{and_parts, and_from, or_right, not_from_true, leb-true, leb-false, le-leb, lt-leb, ne_eqb, both_ways}
use Rattle.std.proofs.lemmas.List.{length-append}
use Rattle.std.proofs.lemmas.Int.{ints}
use Rattle.eon_model.specs.Grid as grid
use Rattle.eon_model.specs.Grid.{Units, lies_in, lies_in_band, is_units, parts_ascend, is_band, span_of}
use Rattle.eon_model.specs.NetworkText.{version_of}
use Rattle.eon_model.specs.NetworkFault as fault
use Rattle.eon_model.specs.NetworkFault.{Band, Fields, lines_with, first_fields, last_fields, has_parts, band_lines, band_floor, least_unit, greatest_unit, units_in_range}
use Rattle.eon_model.proofs.GridLaws.{int_le-le, le-int_le, lies_in-facts, lies_in_itself}
use Rattle.eon_model.proofs.BandLaws.{BandParts, band-parts, some_unit, in_span}
use Rattle.eon_model.proofs.OrderLaws.{IsIn}
use Rattle.eon_model.proofs.Members.{any-by}
use Rattle.eon_model.proofs.SpellingLaws.{number_value-decimal}
use Rattle.eon_model.proofs.NetworkTextLaws.{number_words, band_words}
use Rattle.eon_model.proofs.CleanLines.{small_units}
use Rattle.eon_model.proofs.TextNumbers.{signed-spelled, least-read, greatest-read}
use Rattle.eon_model.proofs.TextCauses.{Passes}
use Rattle.eon_model.proofs.TextLists.{all-at, in-after, all-with, with-right}
use Rattle.eon_model.proofs.TextLast.{stands-behind}
use Rattle.eon_model.proofs.TextKinds.{room}

-- ---- the version

version_small : (band : grid.Band) → version_of band ≤ 2
version_small band = by_test (nat_le (length band) 1)
  where
    by_test : (b : Bool) → cond {A = ℕ} b 1 2 ≤ 2
    by_test true = omega arith
    by_test false = omega arith

abbrev pub net_line : grid.Band → Fields
net_line band = number_words (codes "net") (version_of band)

-- the version that the first line tells
pub version-told : (band : grid.Band) (lines : List Fields) →
    has_parts (net_line band ∷ lines) ≡ nat_eq (version_of band) 2
version-told band lines = let l = version_small band in
    ap (λ n. nat_eq n 2) (number_value-decimal (version_of band) (omega arith))

pub one-version : (band : grid.Band) → length band ≤ 1 → nat_eq (version_of band) 2 ≡ false
one-version band l = ap (λ (b : Bool). nat_eq (cond {A = ℕ} b 1 2) 2) (le-leb (length band) 1 l)

pub two-version : (band : grid.Band) → 2 ≤ length band → nat_eq (version_of band) 2 ≡ true
two-version band l = ap (λ (b : Bool). nat_eq (cond {A = ℕ} b 1 2) 2) (lt-leb (length band) 1 (omega arith))

-- ---- where the parts lie

module _ (band before : grid.Band) (part : Units) (after : grid.Band) (e : before ++ part ∷ after ≡ band)
    (facts : BandParts band) where
  part_in : lies_in_band band part ≡ true
  part_in = any-by (λ (q : Units). lies_in q part) band part
      (subst (λ (v : grid.Band). IsIn part v) e (in-after before part after)) (lies_in_itself part)

  pub above-floor : (span_of band).lo ≤ℤ part.lo
  above-floor = (lies_in-facts (span_of band) part (in_span band facts part part_in)).0

  pub below-end : part.hi ≤ℤ (span_of band).hi
  below-end = (lies_in-facts (span_of band) part (in_span band facts part part_in)).1

  pub part-units : is_units part ≡ true
  part-units = all-at is_units before part after (ap (list_all is_units) e ∙ facts.units)

-- the band begins where its first part does
floor_first : (part : Units) (after : grid.Band) → (span_of (part ∷ after)).lo ≡ part.lo
floor_first part [] = refl
floor_first part (next ∷ after) = refl

-- a part begins above the last before it
low_by : (before : grid.Band) (part : Units) (after : grid.Band) → list_all is_units (before ++ part ∷ after) ≡ true →
    parts_ascend (before ++ part ∷ after) ≡ true →
    option_map_or (λ last. not (int_le (greatest_unit last +ℤ pos 2) part.lo)) (last_fields (map band_words before)) false
    ≡ false
low_by [] part after u h = refl
low_by (first ∷ []) part after u h =
    let v = and_parts (is_units first) (list_all is_units (part ∷ after)) u in
    ap (λ (z : ℤ). not (int_le (z +ℤ pos 2) part.lo)) (greatest-read first v.0)
    ∙ not_from_true _ (and_parts (int_le (first.hi +ℤ pos 2) part.lo) (parts_ascend (part ∷ after)) h).0
low_by (first ∷ next ∷ before) part after u h =
    low_by (next ∷ before) part after (and_parts (is_units first) (list_all is_units (next ∷ before ++ part ∷ after)) u).1
    (and_parts (int_le (first.hi +ℤ pos 2) next.lo) (parts_ascend (next ∷ before ++ part ∷ after)) h).1

-- ---- one line

abbrev lines_before : grid.Band → grid.Band → List Fields
lines_before band before = net_line band ∷ map band_words before

lines_told : (band before : grid.Band) → band_lines (lines_before band before) ≡ map band_words before
lines_told band before = with-right (codes "band") (net_line band ∷ []) (map band_words before) (map band_words before) refl
    (all-with (codes "band") band_words (λ x. refl) before)

-- a part that is not the first
not_first : (first : Units) (before : grid.Band) (part : Units) (after band : grid.Band) →
    (first ∷ before) ++ part ∷ after ≡ band → 2 ≤ length band
not_first first before part after band e =
    let l = length-append (first ∷ before) (part ∷ after) in
    let n : length ((first ∷ before) ++ part ∷ after) ≡ length band = ap length e in omega arith

its_parts : (band before : grid.Band) (part : Units) (after : grid.Band) → before ++ part ∷ after ≡ band →
    fault.has_its_parts (lines_before band before) Band ≡ true
its_parts band [] part after e = refl
its_parts band (first ∷ before) part after e =
    or_right (nat_eq (length (band_lines (lines_before band (first ∷ before)))) 0) (has_parts (lines_before band (first ∷ before)))
    (version-told band (map band_words (first ∷ before)) ∙ two-version band (not_first first before part after band e))

floor_is : (band before : grid.Band) (part : Units) (after : grid.Band) → before ++ part ∷ after ≡ band →
    list_all is_units band ≡ true → band_floor (lines_before band before) (band_words part) ≡ (span_of band).lo
floor_is band [] part after e u =
    let v = and_parts (is_units part) (list_all is_units after) (ap (list_all is_units) e ∙ u) in
    ap (λ (v : List Fields). least_unit (unwrap_or (first_fields v) (band_words part))) (lines_told band [])
    ∙ least-read part v.0 ∙ sym (floor_first part after) ∙ ap (λ (b : grid.Band). (span_of b).lo) e
floor_is band (first ∷ before) part after e u =
    let v = and_parts (is_units first) (list_all is_units (before ++ part ∷ after)) (ap (list_all is_units) e ∙ u) in
    ap (λ (v : List Fields). least_unit (unwrap_or (first_fields v) (band_words part))) (lines_told band (first ∷ before))
    ∙ least-read first v.0 ∙ sym (floor_first first (before ++ part ∷ after)) ∙ ap (λ (b : grid.Band). (span_of b).lo) e

-- a first part leaves room for the next
room_for : (band : grid.Band) (part : Units) (after : grid.Band) → part ∷ after ≡ band → BandParts band →
    ((span_of band).hi -ℤ (span_of band).lo) ≤ℤ pos 1023 → is_band band ≡ true → 2 ≤ length band →
    (int_le (part.hi -ℤ part.lo) (pos 1021) && int_le part.hi (pos 4093)) ≡ true
room_for band part [] e facts wide good l = let n = ap length e in absurd (omega arith)
room_for band part (next ∷ after) e facts wide good l =
    let up = and_parts (int_le (part.hi +ℤ pos 2) next.lo) (parts_ascend (next ∷ after)) (ap parts_ascend e ∙ facts.ascend) in
    let gap = int_le-le (part.hi +ℤ pos 2) next.lo up.0 in
    let units = part-units band (part ∷ []) next after e facts in
    let rise = some_unit next units in
    let end = below-end band (part ∷ []) next after e facts in
    let floor = above-floor band [] part (next ∷ after) e facts in
    let top = int_le-le next.hi (pos 4095) (and_parts (int_le (negsuc 4095) next.lo && int_le next.lo next.hi) (int_le next.hi (pos 4095)) units).1 in
    and_from _ _ (le-int_le (part.hi -ℤ part.lo) (pos 1021) (omega (arith, ints))) (le-int_le part.hi (pos 4093) (omega (arith, ints)))

leaves_by : (hp : Bool) (n : ℕ) (lo hi a b : ℤ) → lo ≡ a → hi ≡ b →
    (hp ≡ true → nat_eq n 0 ≡ true → (int_le (b -ℤ a) (pos 1021) && int_le b (pos 4093)) ≡ true) →
    (not hp || not (nat_eq n 0) || int_le (hi -ℤ lo) (pos 1021) && int_le hi (pos 4093)) ≡ true
leaves_by hp n lo hi a b e f h = by_tests hp (nat_eq n 0) refl refl
  where
    by_tests : (t u : Bool) → hp ≡ t → nat_eq n 0 ≡ u →
        (not t || not u || int_le (hi -ℤ lo) (pos 1021) && int_le hi (pos 4093)) ≡ true
    by_tests false true p q = refl
    by_tests false false p q = refl
    by_tests true false p q = refl
    by_tests true true p q = (λ i. int_le (f i -ℤ e i) (pos 1021) && int_le (f i) (pos 4093)) ∙ h p q

leaves : (band before : grid.Band) (part : Units) (after : grid.Band) → before ++ part ∷ after ≡ band → BandParts band →
    ((span_of band).hi -ℤ (span_of band).lo) ≤ℤ pos 1023 → is_band band ≡ true →
    fault.leaves_room (lines_before band before) (band_words part) ≡ true
leaves band [] part after e facts wide good =
    let units = part-units band [] part after e facts in
    leaves_by (has_parts (lines_before band [])) (length (band_lines (lines_before band []))) (least_unit (band_words part))
    (greatest_unit (band_words part)) part.lo part.hi (least-read part units) (greatest-read part units)
    (λ two none. room_for band part after e facts wide good (by_count (nat_le 2 (length band)) refl two))
  where
    by_count : (b : Bool) → nat_le 2 (length band) ≡ b → has_parts (lines_before band []) ≡ true → 2 ≤ length band
    by_count true h two = leb-true 2 (length band) h
    by_count false h two =
        let few = leb-false 2 (length band) h in
        absurd (both_ways (has_parts (lines_before band [])) (version-told band [] ∙ one-version band (omega arith)) two)
leaves band (first ∷ before) part after e facts wide good =
    let units = part-units band (first ∷ before) part after e facts in
    leaves_by (has_parts (lines_before band (first ∷ before))) (length (band_lines (lines_before band (first ∷ before))))
    (least_unit (band_words part)) (greatest_unit (band_words part)) part.lo part.hi (least-read part units)
    (greatest-read part units)
    (λ two none. absurd (both_ways (nat_eq (length (band_lines (lines_before band (first ∷ before)))) 0)
    (ap (λ (v : List Fields). nat_eq (length v) 0) (lines_told band (first ∷ before))
    ∙ ne_eqb (length (map band_words (first ∷ before))) 0 (λ n. absurd (omega arith))) none))

in_units_from : (z : ℤ) → negsuc 4095 ≤ℤ z → z ≤ℤ pos 4095 → (int_le (negsuc 4095) z && int_le z (pos 4095)) ≡ true
in_units_from z l h = and_from _ _ (le-int_le (negsuc 4095) z l) (le-int_le z (pos 4095) h)

pub last_true : (b : Bool) → b ≡ true → (b && true) ≡ true
last_true b h = and_from b true h refl

pub part-passes : (band before : grid.Band) (part : Units) (after : grid.Band) → before ++ part ∷ after ≡ band →
    is_band band ≡ true → length band ≤ 8 → ((span_of band).hi -ℤ (span_of band).lo) ≤ℤ pos 1023 →
    Passes (lines_before band before) Band (band_words part)
part-passes band before part after e good few wide =
    let facts = band-parts band good in
    let units = part-units band before part after e facts in
    let u = and_parts (int_le (negsuc 4095) part.lo && int_le part.lo part.hi) (int_le part.hi (pos 4095)) units in
    let v = and_parts (int_le (negsuc 4095) part.lo) (int_le part.lo part.hi) u.0 in
    let low = int_le-le (negsuc 4095) part.lo v.0 in
    let rise = int_le-le part.lo part.hi v.1 in
    let high = int_le-le part.hi (pos 4095) u.1 in
    let small = small_units part units in
    let lo = least-read part units in
    let hi = greatest-read part units in
    let end = below-end band before part after e facts in
    let floor = floor_is band before part after e facts.units in
    record {
      word = refl;
      stands = stands-behind band_words Band (λ x. refl) Band (net_line band ∷ []) before (λ _. refl) refl;
      parts = its_parts band before part after e;
      form = and_from _ _ (signed-spelled part.lo small.lo) (last_true _ (signed-spelled part.hi small.hi));
      ranges = and_from _ _
          (and_from _ _ ((λ i. int_le (negsuc 4095) (lo i) && int_le (lo i) (pos 4095))
          ∙ in_units_from part.lo low (omega (arith, ints)))
          (last_true _ ((λ i. int_le (negsuc 4095) (hi i) && int_le (hi i) (pos 4095))
          ∙ in_units_from part.hi (omega (arith, ints)) high)))
          (and_from _ _ (and_from _ _ ((λ i. int_le (lo i) (hi i)) ∙ v.1)
          ((λ i. int_le (hi i -ℤ floor i) (pos 1023)) ∙ le-int_le (part.hi -ℤ (span_of band).lo) (pos 1023) (omega (arith, ints))))
          (leaves band before part after e facts wide good));
      few = ap (λ (w : List Fields). nat_le 8 (length w)) (lines_told band before)
          ∙ room band_words 8 before part after band e few;
      ordered = (λ i. option_map_or (λ last. not (int_le (greatest_unit last +ℤ pos 2) (lo i)))
          (last_fields (lines_told band before i)) false)
          ∙ low_by before part after (ap (list_all is_units) e ∙ facts.units) (ap parts_ascend e ∙ facts.ascend);
      once = refl;
      known = refl;
      apart = refl;
      eighth = refl;
    }
