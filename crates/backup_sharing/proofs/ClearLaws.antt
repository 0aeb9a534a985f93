-- What a row of marked units tells of a range of them.
use Rattle.std.proofs.Common.{◌≡◌, refl, sym, ◌∙◌, ap, ℕ, ◌<◌, ◌≤◌, arith, ℤ, pos, ◌+ℤ◌, ◌≤ℤ◌, Bool, true, false, not, List}
use Rattle.std.specs.List.{list_all}
use Rattle.std.proofs.lemmas.Int.{ints}
use Rattle.std.proofs.lemmas.Bool.{both_ways, not-true}
use Rattle.eon_model.specs.Grid.{Band, Units, has_unit, lies_in, span_of, unit_count}
use Rattle.eon_model.specs.Rows.{units_in}
use Rattle.eon_model.proofs.GridLaws.{lies_in-facts}
use Rattle.eon_model.proofs.SetLists.{same_test}
use Rattle.eon_model.proofs.UnitLaws.{all-at, all-from, count_end, count_back}
use Rattle.spectrum_map.specs.Bits.{bit_of, is_between, TellsClear}
use Rattle.spectrum_map.specs.Kept.{ArePlaces, is_unit_that, place_of}
use Rattle.spectrum_map.proofs.BitLaws.{between-facts, facts-between}
use Rattle.spectrum_map.proofs.SpanLaws.{unit-facts, facts-unit}
use Rattle.block_fit.proofs.LeastLaws.{unit_marked}

module _ (band : Band) (units : Units) (inside : lies_in (span_of band) units ≡ true) (first end : ℕ)
    (places : ArePlaces band units first end) (words : List ℕ) (test : ℤ → Bool)
    (bits : (i : ℕ) → bit_of words i ≡ is_unit_that band test i) (told : Bool)
    (tells : TellsClear (bit_of words) first end told) where
  within : ((span_of band).lo ≤ℤ units.lo) × (units.hi ≤ℤ (span_of band).hi)
  within = lies_in-facts (span_of band) units inside

  marked : (u : ℤ) → units.lo ≤ℤ u → u ≤ℤ units.hi → bit_of words (place_of band u) ≡ test u
  marked u p q =
      let w0 = within.0 in
      let w1 = within.1 in
      unit_marked band places.band_is words test bits u (facts-unit (span_of band) u (omega (arith, ints)) (omega (arith, ints)))

  -- a unit has its place in the range
  in_range : (u : ℤ) → units.lo ≤ℤ u → u ≤ℤ units.hi → (first ≤ place_of band u) × (place_of band u < end)
  in_range u p q =
      let w0 = within.0 in
      let first_is = places.first_is in
      let end_is = places.end_is in
      (omega (arith, ints), omega (arith, ints))

  -- and a place of the range its unit
  at_place : (i : ℕ) → first ≤ i → i < end → (units.lo ≤ℤ ((span_of band).lo +ℤ pos i))
      × ((((span_of band).lo +ℤ pos i) ≤ℤ units.hi) × (place_of band ((span_of band).lo +ℤ pos i) ≡ i))
  at_place i p q =
      let w0 = within.0 in
      let some = places.some in
      let first_is = places.first_is in
      let end_is = places.end_is in
      (omega (arith, ints), (omega (arith, ints), omega (arith, ints)))

  pub told_clear : told ≡ list_all (λ u. not (test u)) (units_in units)
  told_clear = same_test told (list_all (λ u. not (test u)) (units_in units)) to from
    where
      to : told ≡ true → list_all (λ u. not (test u)) (units_in units) ≡ true
      to h = all-from (λ u. not (test u)) units.lo (unit_count units) λ u p q.
          let last = count_back units.lo units.hi u places.some q in
          let at = in_range u p last in
          ap not (sym (marked u p last) ∙ tells.none h (place_of band u) at.0 at.1)

      from : list_all (λ u. not (test u)) (units_in units) ≡ true → told ≡ true
      from h = by told refl
        where
          by : (b : Bool) → told ≡ b → told ≡ true
          by true e = e
          by false e =
              let found = tells.some e in
              let i = found.0 in
              let u = (span_of band).lo +ℤ pos i in
              let at = at_place i found.1.0 found.1.1.0 in
              let one : test u ≡ true = sym (marked u at.0 at.1.0) ∙ ap (bit_of words) at.1.1 ∙ found.1.1.1 in
              absurd (both_ways (test u) (not-true (test u) (all-at (λ v. not (test v)) units.lo (unit_count units) h u at.0
              (count_end units.lo units.hi u places.some at.1.0))) one)

-- whether a place is that of one of the units
pub place_has : (band : Band) (units : Units) → lies_in (span_of band) units ≡ true → (first end : ℕ) →
    ArePlaces band units first end → (i : ℕ) → is_between first end i ≡ has_unit units ((span_of band).lo +ℤ pos i)
place_has band units inside first end places i =
    let w = lies_in-facts (span_of band) units inside in
    let w0 = w.0 in
    let w1 = w.1 in
    let some = places.some in
    let first_is = places.first_is in
    let end_is = places.end_is in
    same_test _ _
    (λ h. let p = between-facts first end i h in
    let p0 = p.0 in let p1 = p.1 in
    facts-unit units ((span_of band).lo +ℤ pos i) (omega (arith, ints)) (omega (arith, ints)))
    (λ h. let p = unit-facts units ((span_of band).lo +ℤ pos i) h in
    let p0 = p.0 in let p1 = p.1 in
    facts-between first end i (omega (arith, ints)) (omega (arith, ints)))

-- and the range lies among the units of the band
pub places_within : (band : Band) (units : Units) → lies_in (span_of band) units ≡ true → (first end : ℕ) →
    ArePlaces band units first end → end ≤ unit_count (span_of band)
places_within band units inside first end places =
    let w = lies_in-facts (span_of band) units inside in
    let w0 = w.0 in
    let w1 = w.1 in
    let some = places.some in
    let end_is = places.end_is in
    omega (arith, ints)
