-- The least centre whose slot is clear, found as the lowest run of places.
use Rattle.std.proofs.Common.{◌≡◌, refl, sym, ◌∙◌, ap, ℕ, zero, suc, ◌+◌, ◌*◌, ◌<◌, ◌≤◌, arith, inl, inr, ℤ, pos, ◌+ℤ◌, ◌-ℤ◌, ◌≤ℤ◌, ◌<ℤ◌, Bool, true, false, ◌&&◌, ◌||◌, not, List, length, find, Option, Some, None}
use Rattle.std.specs.Prelude.{nat_le, nat_lt, nat_abs, int_le}
use Rattle.std.specs.Option.{option_map}
use Rattle.std.specs.List.{list_all, list_any}
use Rattle.std.proofs.lemmas.Int.{ints}
use Rattle.std.proofs.lemmas.Bool.{cases_lt, and_parts, and_from, both_ways, not-true, not_from_false, le-leb, leb-true, lt-ltb}
use Rattle.eon_model.specs.Grid.{Units, Slot, Band, units_of, has_unit, lies_in, lies_in_band, span_of, unit_count, is_band}
use Rattle.eon_model.specs.Lists.{integers_from}
use Rattle.eon_model.specs.FirstFit.{centres_in}
use Rattle.eon_model.specs.Rows.{Rows, units_in}
use Rattle.eon_model.specs.FirstInRows.{stands_in, channel_stands, least_free}
use Rattle.eon_model.proofs.GridLaws.{int_le-le, lies_in-facts}
use Rattle.eon_model.proofs.OrderLaws.{IsIn}
use Rattle.eon_model.proofs.FoundLaws.{found}
use Rattle.eon_model.proofs.FitLaws.{Below, Rises-integers, in-centres, found-first}
use Rattle.eon_model.proofs.SpanLaws.{SpanFacts, span-facts}
use Rattle.eon_model.proofs.SlotSteps.{le_then}
use Rattle.eon_model.proofs.BandLaws.{band-parts, in_span}
use Rattle.eon_model.proofs.UnitLaws.{all_agree, all_swap, not_any, all-at, all-from, count_end, count_back, end_back, begin_back, itself, begin_in}
use Rattle.spectrum_map.specs.Bits.{bit_of, is_between}
use Rattle.spectrum_map.specs.Kept.{is_unit_that, place_of}
use Rattle.spectrum_map.proofs.BitLaws.{not_between}
use Rattle.spectrum_map.proofs.SpanLaws.{facts-unit}
use Rattle.block_fit.specs.Blocks.{is_in_parts, stands_clear, least_clear}
use Rattle.block_fit.specs.Runs.{is_marked, is_marked_from, IsLowestRun}
use Rattle.block_fit.proofs.RunLaws.{marked_inside, marked_past}
use Rattle.block_fit.proofs.PartLaws.{one_part, part_units}

-- ---- each place of a run

module _ (words : List ℕ) where
  pub from_at : (i n : ℕ) → is_marked_from words i n ≡ false → (k : ℕ) → i ≤ k → k < i + n → is_marked words k ≡ false
  from_at i zero h k p q = absurd (omega (arith, p, q))
  from_at i (suc n) h k p q =
      let both = parts (is_marked words i) (is_marked_from words (i + 1) n) h in
      elim (cases_lt i k) [
        | inl later ↦ from_at (i + 1) n both.1 k (omega (arith, later)) (omega (arith, q))
        | inr here ↦ let same : k ≡ i = omega (arith, here, p) in ap (is_marked words) same ∙ both.0
      ]
    where
      parts : (a b : Bool) → (a || b) ≡ false → (a ≡ false) × (b ≡ false)
      parts true b h = absurd (both_ways true h refl)
      parts false b h = (refl, h)

  pub from_none : (i n : ℕ) → ((k : ℕ) → i ≤ k → k < i + n → is_marked words k ≡ false) → is_marked_from words i n ≡ false
  from_none i zero none = refl
  from_none i (suc n) none =
      (λ q. none i (omega arith) (omega arith) q
      || from_none (i + 1) n (λ k p r. none k (omega (arith, p)) (omega (arith, r))) q)

-- ---- which slots pass

-- a slot in the band has its units in the span
slot_within : (band : Band) → is_band band ≡ true → (n : ℤ) (m : ℕ) → stands_in band (record { n = n; m = m }) ≡ true →
    (1 ≤ m) × (lies_in (span_of band) (units_of (record { n = n; m = m })) ≡ true)
slot_within band ok n m h =
    let p = and_parts (nat_le 1 m) (lies_in_band band (units_of (record { n = n; m = m }))) h in
    (leb-true 1 m p.0, in_span band (band-parts band ok) (units_of (record { n = n; m = m })) p.1)

-- tests that agree on each of the units
units_agree : (f g : ℤ → Bool) (a : ℤ) (n : ℕ) → ((u : ℤ) → a ≤ℤ u → u <ℤ (a +ℤ pos n) → f u ≡ g u) →
    list_all f (integers_from a n) ≡ list_all g (integers_from a n)
units_agree f g a zero same = refl
units_agree f g a (suc n) same =
    (λ i. same a (itself a) (begin_in a n) i
    && units_agree f g (a +ℤ pos 1) n (λ u p q. same u (begin_back a u p) (end_back a u n q)) i)

find_agree : (f g : ℤ → Bool) → ((n : ℤ) → f n ≡ g n) → (xs : List ℤ) → find f xs ≡ find g xs
find_agree f g same xs = λ i. find (λ n. same n i) xs

slot_order : (n : ℤ) (m : ℕ) → 1 ≤ m → (n -ℤ pos m) ≤ℤ ((n +ℤ pos m) -ℤ pos 1)
slot_order n m some = omega (arith, ints)

-- only the units of the band's span count
pub least_agree : (f g : ℤ → Bool) (m : ℕ) (band : Band) (from : ℤ) → is_band band ≡ true →
    ((u : ℤ) → has_unit (span_of band) u ≡ true → f u ≡ g u) → least_clear f m band from ≡ least_clear g m band from
least_agree f g m band from ok same =
    find_agree (λ n. int_le from n && stands_clear f band m n) (λ n. int_le from n && stands_clear g band m n)
    (λ n. ap (λ b. int_le from n && b) (by n (stands_in band (record { n = n; m = m })) refl)) (centres_in band)
  where
    by : (n : ℤ) (b : Bool) → stands_in band (record { n = n; m = m }) ≡ b → stands_clear f band m n ≡ stands_clear g band m n
    by n true e =
        let w = slot_within band ok n m e in
        let a = units_of (record { n = n; m = m }) in
        let inside = lies_in-facts (span_of band) a w.1 in
        ap (λ b. stands_in band (record { n = n; m = m }) && b)
        (units_agree (λ u. not (f u)) (λ u. not (g u)) a.lo (unit_count a) (λ u p q.
        ap not (same u (facts-unit (span_of band) u (le_then _ _ _ inside.0 p)
        (le_then _ _ _ (count_back a.lo a.hi u (slot_order n m w.0) q) inside.1)))))
    by n false e = (λ i. e i && list_all (λ u. not (f u)) (units_in (units_of (record { n = n; m = m }))))
        ∙ (λ i. sym e i && list_all (λ u. not (g u)) (units_in (units_of (record { n = n; m = m }))))

-- the units that are lit or held on some of the fibres are those that are not free
pub least_rows : (rows : Rows) (fibres : List ℕ) (m : ℕ) (band : Band) (from : ℤ) →
    least_clear (λ u. list_any (λ fibre. rows.lit fibre u || rows.held fibre u) fibres) m band from
    ≡ least_free rows fibres m band from
least_rows rows fibres m band from =
    find_agree
    (λ n. int_le from n
    && stands_clear (λ u. list_any (λ fibre. rows.lit fibre u || rows.held fibre u) fibres) band m n)
    (λ n. int_le from n && channel_stands band rows fibres m n)
    (λ n. ap (λ b. int_le from n && (stands_in band (record { n = n; m = m }) && b))
    (free (units_in (units_of (record { n = n; m = m }))))) (centres_in band)
  where
    neither : (a b : Bool) → not (a || b) ≡ (not a && not b)
    neither true b = refl
    neither false b = refl

    free : (us : List ℤ) → list_all (λ u. not (list_any (λ fibre. rows.lit fibre u || rows.held fibre u) fibres)) us
        ≡ list_all (λ fibre. list_all (λ u. not (rows.lit fibre u) && not (rows.held fibre u)) us) fibres
    free us =
        all_agree _ _ (λ u. not_any (λ fibre. rows.lit fibre u || rows.held fibre u) fibres
        ∙ all_agree _ _ (λ fibre. neither (rows.lit fibre u) (rows.held fibre u)) fibres) us
        ∙ all_swap (λ u fibre. not (rows.lit fibre u) && not (rows.held fibre u)) us fibres

-- a unit of the span is marked where it passes
pub unit_marked : (band : Band) → is_band band ≡ true → (words : List ℕ) (test : ℤ → Bool) →
    ((i : ℕ) → bit_of words i ≡ is_unit_that band test i) → (u : ℤ) → has_unit (span_of band) u ≡ true →
    bit_of words (place_of band u) ≡ test u
unit_marked band ok words test told u k =
    let f = unit_facts k in
    let f0 = f.0 in
    let f1 = f.1 in
    let span = span-facts band ok in
    let order = span.order in
    let at : (span_of band).lo +ℤ pos (place_of band u) ≡ u = omega (arith, ints) in
    told (place_of band u)
    ∙ ap (λ b. b && test ((span_of band).lo +ℤ pos (place_of band u)))
    (lt-ltb (place_of band u) (unit_count (span_of band)) (omega (arith, ints)))
    ∙ ap test at
  where
    unit_facts : has_unit (span_of band) u ≡ true → ((span_of band).lo ≤ℤ u) × (u ≤ℤ (span_of band).hi)
    unit_facts h =
        let p = and_parts (int_le (span_of band).lo u) (int_le u (span_of band).hi) h in
        (int_le-le _ _ p.0, int_le-le _ _ p.1)

-- ---- the search

module _ (band : Band) (ok : is_band band ≡ true) (row marked : List ℕ) (m first : ℕ) (from : ℤ) (some : 1 ≤ m)
    (len : length marked ≡ 16)
    (bits : (i : ℕ) → bit_of marked i ≡ (((nat_lt i 1024 && not (is_in_parts band ((span_of band).lo +ℤ pos i))) || bit_of row i) || is_between 0 first i))
    (starts : (p : ℕ) → p < 1024 → nat_le first p ≡ int_le from (((span_of band).lo +ℤ pos p) +ℤ pos m)) where
  -- whether the unit is marked in the row
  abbrev test : ℤ → Bool
  test u = bit_of row (place_of band u)

  abbrev passes : ℤ → Bool
  passes n = int_le from n && stands_clear test band m n

  -- the centre of the slot that begins at the place
  abbrev centre : ℕ → ℤ
  centre p = ((span_of band).lo +ℤ pos p) +ℤ pos m

  abbrev slot : ℤ → Slot
  slot n = record { n = n; m = m }

  span : SpanFacts (span_of band)
  span = span-facts band ok

  -- ---- a place that is not marked

  either : (a b c : Bool) → ((a || b) || c) ≡ false → (a ≡ false) × (b ≡ false) × (c ≡ false)
  either true b c h = absurd (both_ways true h refl)
  either false true c h = absurd (both_ways true h refl)
  either false false c h = (refl, refl, h)

  -- it is below 1,024, its unit lies in a part and is not marked in the row, and it is not below the first place
  record IsClear (i : ℕ) : Type 0 where
    few : i < 1024
    in_part : is_in_parts band ((span_of band).lo +ℤ pos i) ≡ true
    unmarked : bit_of row i ≡ false
    above : first ≤ i

  clear-from : (i : ℕ) → is_marked marked i ≡ false → IsClear i
  clear-from i h =
      let few = inside i h in
      let e = either (nat_lt i 1024 && not (is_in_parts band ((span_of band).lo +ℤ pos i))) (bit_of row i) (is_between 0 first i)
      (sym (bits i) ∙ sym (marked_inside marked i (omega (arith, few, len))) ∙ h) in
      record {
        few = few;
        in_part = of_not (is_in_parts band ((span_of band).lo +ℤ pos i))
            (ap (λ b. b && not (is_in_parts band ((span_of band).lo +ℤ pos i))) (sym (lt-ltb i 1024 few)) ∙ e.0);
        unmarked = e.1;
        above = not_before i e.2;
      }
    where
      inside : (i : ℕ) → is_marked marked i ≡ false → i < 1024
      inside i h = elim (cases_lt i 1024) [
        | inl less ↦ less
        | inr more ↦ absurd (both_ways (is_marked marked i) h (marked_past marked i (omega (arith, more, len))))
      ]

      of_not : (b : Bool) → not b ≡ false → b ≡ true
      of_not true h = refl
      of_not false h = absurd (both_ways true h refl)

      not_before : (i : ℕ) → is_between 0 first i ≡ false → first ≤ i
      not_before i h = elim (cases_lt i first) [
        | inl less ↦ absurd (both_ways (is_between 0 first i) h (and_from _ _ (le-leb 0 i (omega arith)) (lt-ltb i first less)))
        | inr more ↦ more
      ]

  clear-to : (i : ℕ) → IsClear i → is_marked marked i ≡ false
  clear-to i c =
      let few = c.few in
      marked_inside marked i (omega (arith, few, len)) ∙ bits i
      ∙ (λ k. ((nat_lt i 1024 && not (c.in_part k)) || c.unmarked k) || not_between 0 first i (λ p q. later q c.above) k)
      ∙ never (nat_lt i 1024)
    where
      later : {a b : ℕ} → a < b → b ≤ a → ⊥
      later p q = omega (arith, p, q)

      never : (a : Bool) → (((a && false) || false) || false) ≡ false
      never true = refl
      never false = refl

  -- ---- a run that is not marked

  -- the units of the slot are those of the places
  at_place : (p : ℕ) (u : ℤ) → (centre p -ℤ pos m) ≤ℤ u → u ≤ℤ ((centre p +ℤ pos m) -ℤ pos 1) →
      (p ≤ place_of band u) × (place_of band u < p + 2 * m) × ((span_of band).lo +ℤ pos (place_of band u) ≡ u)
  at_place p u low high = (omega (arith, ints), omega (arith, ints), omega (arith, ints))

  pub run-passes : (p : ℕ) → is_marked_from marked p (2 * m) ≡ false → passes (centre p) ≡ true
  run-passes p h = and_from _ _
      (sym (starts p start.few) ∙ le-leb first p start.above)
      (and_from _ _ (and_from _ _ (le-leb 1 m some)
      (one_part band a order (band-parts band ok) (λ u low high.
      let at = at_place p u low high in
      ap (is_in_parts band) (sym at.2) ∙ (each (place_of band u) at.0 at.1).in_part)))
      (all-from (λ u. not (test u)) a.lo (unit_count a) (λ u low near.
      let at = at_place p u low (count_back a.lo a.hi u order near) in
      not_from_false _ ((each (place_of band u) at.0 at.1).unmarked))))
    where
      a : Units
      a = units_of (record { n = ((span_of band).lo +ℤ pos p) +ℤ pos m; m = m })

      each : (i : ℕ) → p ≤ i → i < p + 2 * m → IsClear i
      each i l r = clear-from i (from_at marked p (2 * m) h i l r)

      start : IsClear p
      start = each p (omega arith) (omega (arith, some))

      order : (centre p -ℤ pos m) ≤ℤ ((centre p +ℤ pos m) -ℤ pos 1)
      order = slot_order (centre p) m some

  -- ---- a centre that passes

  record Passing (n : ℤ) : Type 0 where
    above : int_le from n ≡ true
    part : lies_in_band band (units_of (slot n)) ≡ true
    free : list_all (λ u. not (test u)) (units_in (units_of (slot n))) ≡ true
    low : (span_of band).lo ≤ℤ (n -ℤ pos m)
    high : ((n +ℤ pos m) -ℤ pos 1) ≤ℤ (span_of band).hi

  passing : (n : ℤ) → passes n ≡ true → Passing n
  passing n h =
      let p = and_parts (int_le from n) (stands_clear test band m n) h in
      let q = and_parts (stands_in band (slot n)) (list_all (λ u. not (test u)) (units_in (units_of (slot n)))) p.1 in
      let part = and_parts (nat_le 1 m) (lies_in_band band (units_of (slot n))) q.0 in
      let inside = lies_in-facts (span_of band) (units_of (slot n)) (slot_within band ok n m q.0).1 in
      record { above = p.0; part = part.1; free = q.1; low = inside.0; high = inside.1 }

  -- its slot begins at this place
  abbrev start_of : ℤ → ℕ
  start_of n = nat_abs ((n -ℤ pos m) -ℤ (span_of band).lo)

  starts_at : (n : ℤ) → Passing n → centre (start_of n) ≡ n
  starts_at n h = let low = h.low in omega (arith, ints)

  few_places : (n : ℤ) → Passing n → start_of n + 2 * m ≤ 1024
  few_places n h =
      let low = h.low in
      let high = h.high in
      let wide = span.wide in
      omega (arith, ints)

  pub passes-run : (n : ℤ) → passes n ≡ true → is_marked_from marked (start_of n) (2 * m) ≡ false
  passes-run n h =
      let g = passing n h in
      let low = g.low in
      let few = few_places n g in
      let order = slot_order n m some in
      from_none marked (start_of n) (2 * m) (λ i p q.
      let u = (span_of band).lo +ℤ pos i in
      let under : (n -ℤ pos m) ≤ℤ ((span_of band).lo +ℤ pos i) = omega (arith, ints) in
      let over : ((span_of band).lo +ℤ pos i) ≤ℤ ((n +ℤ pos m) -ℤ pos 1) = omega (arith, ints) in
      let place : place_of band ((span_of band).lo +ℤ pos i) ≡ i = omega (arith, ints) in
      let begins = begin_at n g few in
      clear-to i (record {
        few = omega (arith, few, q);
        in_part = part_units band (units_of (slot n)) order g.part u under over;
        unmarked = ap (bit_of row) (sym place)
            ∙ not-true _ (all-at (λ v. not (test v)) (n -ℤ pos m) (unit_count (units_of (slot n))) g.free u under
            (count_end (n -ℤ pos m) ((n +ℤ pos m) -ℤ pos 1) u order over));
        above = omega (arith, begins, p);
      }))
    where
      begin_at : (n : ℤ) → Passing n → start_of n + 2 * m ≤ 1024 → first ≤ start_of n
      begin_at n g few =
          leb-true first (start_of n) (starts (start_of n) (omega (arith, few, some))
          ∙ ap (int_le from) (starts_at n g) ∙ g.above)

  among_centres : (n : ℤ) → Passing n → IsIn n (centres_in band)
  among_centres n h =
      let low = h.low in
      let high = h.high in
      in-centres band n (omega (arith, ints)) (omega (arith, ints))

  pub found_is : (o : Option ℕ) → IsLowestRun marked (2 * m) o → option_map centre o ≡ least_clear test m band from
  found_is None none = elim (found passes (centres_in band)) [
    | inl nothing ↦ sym nothing.0
    | inr n ↦ absurd (both_ways (is_marked_from marked (start_of n.0) (2 * m)) (passes-run n.0 n.3) (none (start_of n.0)))
  ]
  found_is (Some p) h = elim (found passes (centres_in band)) [
    | inl nothing ↦ absurd (both_ways (passes (centre p))
        (nothing.1 (centre p) (among_centres (centre p) (passing (centre p) there))) there)
    | inr n ↦ sym (n.1 ∙ ap (λ (k : ℤ). Some k) (elim (found-first Below passes (centres_in band) n.0 (centre p)
        (Rises-integers (span_of band).lo (unit_count (span_of band))) n.1
        (among_centres (centre p) (passing (centre p) there)) there) [
          | inl same ↦ same
          | inr lower ↦ absurd (both_ways (is_marked_from marked (start_of n.0) (2 * m)) (passes-run n.0 n.3)
              (h.lowest (start_of n.0) (before n.0 (passing n.0 n.3) lower)))
        ]))
  ]
    where
      there : passes (centre p) ≡ true
      there = run-passes p h.unmarked

      before : (n : ℤ) → Passing n → n <ℤ centre p → start_of n < p
      before n g l = let low = g.low in omega (arith, ints)

-- ---- widths that fit nowhere

-- nothing is found where nothing passes
find_none : (test : ℤ → Bool) (xs : List ℤ) → ((n : ℤ) → test n ≡ true → ⊥) → find test xs ≡ None
find_none test xs never = elim (found test xs) [
  | inl nothing ↦ nothing.0
  | inr n ↦ absurd (never n.0 n.3)
]

pub none_of_width : (test : ℤ → Bool) (m : ℕ) (band : Band) (from : ℤ) → is_band band ≡ true →
    (1 ≤ m → m ≤ 512 → ⊥) → least_clear test m band from ≡ None
none_of_width test m band from ok never = find_none (λ n. int_le from n && stands_clear test band m n) (centres_in band) λ n h.
    let p = and_parts (int_le from n) (stands_clear test band m n) h in
    let q = and_parts (stands_in band (record { n = n; m = m })) (list_all (λ u. not (test u)) (units_in (units_of (record { n = n; m = m })))) p.1 in
    let w = slot_within band ok n m q.0 in
    let inside = lies_in-facts (span_of band) (units_of (record { n = n; m = m })) w.1 in
    let span = span-facts band ok in
    never w.0 (narrow (span_of band).lo (span_of band).hi n m inside.0 inside.1 span.wide)
  where
    narrow : (lo hi n : ℤ) (m : ℕ) → lo ≤ℤ (n -ℤ pos m) → ((n +ℤ pos m) -ℤ pos 1) ≤ℤ hi → (hi -ℤ lo) ≤ℤ pos 1023 → m ≤ 512
    narrow lo hi n m low high wide = omega (arith, ints)
