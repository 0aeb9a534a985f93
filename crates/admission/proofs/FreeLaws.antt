-- What it takes from a row that a span of units is taken.
use Rattle.std.proofs.Common.{◌≡◌, refl, sym, ◌∙◌, ap, ℕ, zero, suc, ◌+◌, ◌<◌, ◌≤◌, leb, ltb, ℤ, pos, ◌+ℤ◌, ◌-ℤ◌, ◌≤ℤ◌, ◌<ℤ◌, arith, length, Bool, true, false, ◌&&◌, ◌||◌, not, List, replicate, get_or}
use Rattle.std.specs.Prelude.{nat_abs, int_le}
use Rattle.std.specs.Int.{int_max, int_min}
use Rattle.std.proofs.lemmas.Int.{ints, clamps}
use Rattle.std.proofs.lemmas.Bool.{and_parts, and_from, or_parts, or_from, leb-true, ltb-true, le-leb, lt-ltb, not-true, not_from_false, both_ways, false_from_ne_true}
use Rattle.eon_model.specs.Grid.{Units, Band, has_unit, overlaps, lies_in, span_of, unit_count, is_band}
use Rattle.eon_model.proofs.GridLaws.{int_le-le, le-int_le, lies_in-facts, overlaps-facts, common-overlaps}
use Rattle.eon_model.proofs.SetLists.{same_test}
use Rattle.admission.specs.declared.row.Row.{Row}
use Rattle.admission.specs.Free.{is_taken, are_free, are_within, Takes}
use Rattle.eon_model.proofs.UnitLaws.{all-at, all-from}
use Rattle.eon_model.proofs.SpanLaws.{span-facts}

-- ---- units of a row

pub record Within (span s : Units) : Type 0 where
  pub low : span.lo ≤ℤ s.lo
  pub order : s.lo ≤ℤ s.hi
  pub high : s.hi ≤ℤ span.hi

pub within-facts : (band : Band) (s : Units) → are_within band s ≡ true → Within (span_of band) s
within-facts band s h =
    let parts = and_parts (int_le s.lo s.hi) (lies_in (span_of band) s) h in
    let ends = lies_in-facts (span_of band) s parts.1 in
    record { low = ends.0; order = int_le-le s.lo s.hi parts.0; high = ends.1 }

pub free-at : (row : Row) (s : Units) → are_free row s ≡ true → (u : ℤ) → s.lo ≤ℤ u → u ≤ℤ s.hi →
    is_taken row u ≡ false
free-at row s h u p q =
    not-true _ (all-at (λ v. not (is_taken row v)) s.lo (unit_count s) h u p (omega (arith, ints)))

pub free-from : (row : Row) (s : Units) → s.lo ≤ℤ s.hi →
    ((u : ℤ) → s.lo ≤ℤ u → u ≤ℤ s.hi → is_taken row u ≡ false) → are_free row s ≡ true
free-from row s some h =
    all-from (λ v. not (is_taken row v)) s.lo (unit_count s)
    (λ u p q. not_from_false _ (h u p (below u q)))
  where
    below : (u : ℤ) → u <ℤ (s.lo +ℤ pos (unit_count s)) → u ≤ℤ s.hi
    below u q = omega (arith, ints)

-- where nothing is taken, all units are free
pub free_all : (row : Row) (n : ℕ) → row.taken ≡ replicate n false → (s : Units) → are_within row.band s ≡ true →
    are_free row s ≡ true
free_all row n e s h = free-from row s (within-facts row.band s h).order (λ u p q. blank u)
  where
    none : (n k : ℕ) → get_or (replicate n false) k false ≡ false
    none zero k = refl
    none (suc n) zero = refl
    none (suc n) (suc k) = none n k

    blank : (u : ℤ) → is_taken row u ≡ false
    blank u = ap (λ (xs : List Bool). get_or xs (nat_abs (u -ℤ (span_of row.band).lo)) false) e ∙ none n _

-- ---- a span that is taken

has : (s : Units) (u : ℤ) → s.lo ≤ℤ u → u ≤ℤ s.hi → has_unit s u ≡ true
has s u p q = and_from _ _ (le-int_le s.lo u p) (le-int_le u s.hi q)

module _ (before after : Row) (span : Units) (some : span.lo ≤ℤ span.hi) (band : after.band ≡ before.band)
    (marks : (u : ℤ) → (span_of before.band).lo ≤ℤ u → u ≤ℤ (span_of before.band).hi →
    is_taken after u ≡ (is_taken before u || has_unit span u)) where
  module _ (s : Units) (w : Within (span_of before.band) s) where
    low_in : (u : ℤ) → s.lo ≤ℤ u → (span_of before.band).lo ≤ℤ u
    low_in u p = let low = w.low in omega (arith, ints)

    high_in : (u : ℤ) → u ≤ℤ s.hi → u ≤ℤ (span_of before.band).hi
    high_in u q = let high = w.high in omega (arith, ints)

    parts_at : are_free after s ≡ true → (u : ℤ) → s.lo ≤ℤ u → u ≤ℤ s.hi →
        (is_taken before u ≡ false) × (has_unit span u ≡ false)
    parts_at h u p q =
        or_parts _ _ (sym (marks u (low_in u p) (high_in u q)) ∙ free-at after s h u p q)

    apart : are_free after s ≡ true → overlaps s span ≡ true → ⊥
    apart h o =
        let order = w.order in
        let ends = overlaps-facts s span o in
        let u = int_max s.lo span.lo in
        both_ways _ (parts_at h u (omega (arith, ints, clamps)) (omega (arith, ints, clamps))).1
        (has span u (omega (arith, ints, clamps)) (omega (arith, ints, clamps)))

    to : are_free after s ≡ true → (are_free before s && not (overlaps s span)) ≡ true
    to h =
        and_from _ _ (free-from before s w.order (λ u p q. (parts_at h u p q).0))
        (not_from_false _ (false_from_ne_true _ (apart h)))

    from : (are_free before s && not (overlaps s span)) ≡ true → are_free after s ≡ true
    from h =
        let parts = and_parts (are_free before s) (not (overlaps s span)) h in
        free-from after s w.order (λ u p q.
        marks u (low_in u p) (high_in u q)
        ∙ or_from _ _ (free-at before s parts.0 u p q)
        (false_from_ne_true _ (λ e. both_ways _ (not-true _ parts.1) (common-overlaps s span u (has s u p q) e))))

  pub takes_span : Takes before after (λ s. not (overlaps s span))
  takes_span = record {
    same_band = band;
    free = λ s h. same_test _ _ (to s (within-facts before.band s h)) (from s (within-facts before.band s h));
  }

-- ---- a span, cut to the band

module _ (before : Row) (span : Units) (some : span.lo ≤ℤ span.hi) (valid : is_band before.band ≡ true)
    (from to : ℤ) (low_end : from ≡ int_max span.lo (span_of before.band).lo) (high_end : to ≡ int_min span.hi (span_of before.band).hi)
  where
    abbrev place_of : ℤ → ℕ
    place_of u = nat_abs (u -ℤ (span_of before.band).lo)

    module _ (taken : List Bool) (first last : ℕ) (is_first : first ≡ place_of from) (is_last : last ≡ place_of to)
        (long : 1024 ≤ length before.taken) (ordered : int_le from to ≡ true)
        (marks : (i : ℕ) → i < length before.taken →
        get_or taken i false ≡ (get_or before.taken i false || (leb first i && ltb i (last + 1)))) where
      ends : from ≤ℤ to
      ends = int_le-le from to ordered

      place_in : (u : ℤ) → (span_of before.band).lo ≤ℤ u → u ≤ℤ (span_of before.band).hi → place_of u < length before.taken
      place_in u low high =
          let facts = span-facts before.band valid in
          let wide = facts.wide in
          let inside : place_of u < 1024 = omega (arith, ints) in
          omega arith

      into : (u : ℤ) → (span_of before.band).lo ≤ℤ u → u ≤ℤ (span_of before.band).hi →
          (leb first (place_of u) && ltb (place_of u) (last + 1)) ≡ true → has_unit span u ≡ true
      into u low high h =
          let parts = and_parts (leb first (place_of u)) (ltb (place_of u) (last + 1)) h in
          let above = leb-true first (place_of u) parts.0 in
          let below = ltb-true (place_of u) (last + 1) parts.1 in
          let not_empty = ends in
          let at_least : from ≤ℤ u = omega (arith, ints, clamps) in
          let at_most : u ≤ℤ to = omega (arith, ints, clamps) in
          has span u (omega (arith, ints, clamps)) (omega (arith, ints, clamps))

      out_of : (u : ℤ) → (span_of before.band).lo ≤ℤ u → u ≤ℤ (span_of before.band).hi → has_unit span u ≡ true →
          (leb first (place_of u) && ltb (place_of u) (last + 1)) ≡ true
      out_of u low high h =
          let parts = and_parts (int_le span.lo u) (int_le u span.hi) h in
          let above = int_le-le span.lo u parts.0 in
          let below = int_le-le u span.hi parts.1 in
          let at_least : from ≤ℤ u = omega (arith, ints, clamps) in
          let at_most : u ≤ℤ to = omega (arith, ints, clamps) in
          let from_low : (span_of before.band).lo ≤ℤ from = omega (arith, ints, clamps) in
          and_from _ _ (le-leb first (place_of u) (omega (arith, ints)))
          (lt-ltb (place_of u) (last + 1) (omega (arith, ints)))

      pub takes_cut : Takes before (record { band = before.band; taken = taken }) (λ s. not (overlaps s span))
      takes_cut =
          takes_span before (record { band = before.band; taken = taken }) span some refl (λ u low high.
          marks (place_of u) (place_in u low high)
          ∙ ap (λ b. is_taken before u || b) (same_test _ _ (into u low high) (out_of u low high)))

    pub takes_beside : int_le from to ≡ false → Takes before before (λ s. not (overlaps s span))
    takes_beside beside =
        takes_span before before span some refl (λ u low high.
        or_nothing (is_taken before u) (has_unit span u) (false_from_ne_true _ (outside u low high)))
      where
        or_nothing : (a b : Bool) → b ≡ false → a ≡ (a || b)
        or_nothing true b e = refl
        or_nothing false b e = sym e

        outside : (u : ℤ) → (span_of before.band).lo ≤ℤ u → u ≤ℤ (span_of before.band).hi → has_unit span u ≡ true → ⊥
        outside u low high h =
            let parts = and_parts (int_le span.lo u) (int_le u span.hi) h in
            let above = int_le-le span.lo u parts.0 in
            let below = int_le-le u span.hi parts.1 in
            both_ways _ beside (le-int_le from to (omega (arith, ints, clamps)))
