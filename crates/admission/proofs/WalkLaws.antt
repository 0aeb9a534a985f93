-- A run of free units as long as a slot ends where the slot does.
use Rattle.std.proofs.Common.{◌≡◌, refl, sym, ◌∙◌, ap, ℕ, ◌+◌, ◌*◌, ◌<◌, ◌≤◌, ℤ, pos, ◌+ℤ◌, ◌-ℤ◌, ◌≤ℤ◌, ◌<ℤ◌, arith, Bool, true, false, ◌&&◌, List, length, take, find, Some, None}
use Rattle.std.specs.Prelude.{nat_abs, slice_index_or, int_le}
use Rattle.std.proofs.lemmas.Int.{ints}
use Rattle.std.proofs.lemmas.Bool.{and_parts, and_from, false_from_ne_true}
use Rattle.std.proofs.lemmas.List.{get_or-take, length-take, length-take-le}
use Rattle.eon_model.specs.Grid.{Units, Band, Slot, units_of, unit_count, lies_in, lies_in_band, span_of, is_band, is_slot}
use Rattle.eon_model.specs.FirstFit.{centres_in}
use Rattle.eon_model.proofs.GridLaws.{le-int_le, lies_in-facts, facts-lies_in}
use Rattle.flex_grid.proofs.GridFacts.{units-facts, slot-units}
use Rattle.eon_model.proofs.BandLaws.{band-parts, in_span}
use Rattle.admission.specs.FirstClear.{stands_in}
use Rattle.admission.specs.declared.row.Row.{Row}
use Rattle.admission.specs.Free.{is_taken, are_free, fits_free, IsFreeWhere, EndsRun, IsFirstRun}
use Rattle.admission.proofs.SpanLaws.{slot_in_span}
use Rattle.admission.proofs.FreeLaws.{free-at, free-from}
use Rattle.admission.proofs.UnitLemmas.{first-at, first-none}
use Rattle.eon_model.proofs.FirstRows.{find_same}
use Rattle.eon_model.proofs.SpanLaws.{span-facts}

abbrev slot_at : ℤ → ℕ → Slot
slot_at n m = record { n = n; m = m }

-- whether the slot lies in the band's span with no unit taken
abbrev pub has_room : Row → ℕ → ℤ → Bool
has_room row m n = fits_free row (slot_at n m)

-- ---- the centre of a run

module _ (row : Row) (m : ℕ) (some : 1 ≤ m) (ok : is_band row.band ≡ true) where
  abbrev span : Units
  span = span_of row.band

  abbrev runs : List Bool
  runs = take (unit_count span) row.taken

  abbrev place_of : ℤ → ℕ
  place_of u = nat_abs (u -ℤ (span_of row.band).lo)

  -- the place where the slot with this centre ends
  abbrev end_of : ℤ → ℕ
  end_of n = place_of ((n +ℤ pos m) -ℤ pos 1)

  -- the centre of the slot that ends at this place
  abbrev pub centre_of : ℕ → ℤ
  centre_of i = (((span_of row.band).lo +ℤ pos 1) +ℤ pos i) -ℤ pos m

  order : (span_of row.band).lo ≤ℤ (span_of row.band).hi
  order = (span-facts row.band ok).order

  place_in : (u : ℤ) → (span_of row.band).lo ≤ℤ u → u ≤ℤ (span_of row.band).hi → place_of u < unit_count (span_of row.band)
  place_in u p q = omega (arith, ints)

  mark : (u : ℤ) → (span_of row.band).lo ≤ℤ u → u ≤ℤ (span_of row.band).hi → slice_index_or runs (place_of u) false ≡ is_taken row u
  mark u p q = get_or-take (unit_count (span_of row.band)) row.taken (place_of u) false (place_in u p q)

  -- the ends of a slot that has room
  record Room (n : ℤ) : Type 0 where
    low : (span_of row.band).lo ≤ℤ (n -ℤ pos m)
    high : ((n +ℤ pos m) -ℤ pos 1) ≤ℤ (span_of row.band).hi
    free : are_free row (units_of (slot_at n m)) ≡ true

  room-facts : (n : ℤ) → has_room row m n ≡ true → Room n
  room-facts n h =
      let parts = and_parts (is_slot (slot_at n m) && lies_in (span_of row.band) (units_of (slot_at n m)))
      (are_free row (units_of (slot_at n m))) h in
      let inner = and_parts (is_slot (slot_at n m)) (lies_in (span_of row.band) (units_of (slot_at n m))) parts.0 in
      let ends = lies_in-facts (span_of row.band) (units_of (slot_at n m)) inner.1 in
      record { low = ends.0; high = ends.1; free = parts.1 }

  room-run : (n : ℤ) → Room n → EndsRun runs (2 * m) (end_of n)
  room-run n r =
      let low = r.low in
      let high = r.high in
      record {
        long = omega (arith, ints);
        free = λ k p q. free_place k p q;
      }
    where
      free_place : (k : ℕ) → k ≤ end_of n → end_of n < k + 2 * m → slice_index_or runs k false ≡ false
      free_place k p q =
          let low = r.low in
          let high = r.high in
          let u = (span_of row.band).lo +ℤ pos k in
          let same : place_of u ≡ k = omega (arith, ints) in
          let above : (n -ℤ pos m) ≤ℤ u = omega (arith, ints) in
          let below : u ≤ℤ ((n +ℤ pos m) -ℤ pos 1) = omega (arith, ints) in
          ap (λ j. slice_index_or runs j false) (sym same) ∙ mark u (omega (arith, ints)) (omega (arith, ints))
          ∙ free-at row (units_of (slot_at n m)) r.free u above below

  run-room : (i : ℕ) → i < unit_count (span_of row.band) → EndsRun runs (2 * m) i → has_room row m (centre_of i) ≡ true
  run-room i within e =
      let long = e.long in
      let ordered = order in
      let n = centre_of i in
      let low : (span_of row.band).lo ≤ℤ (n -ℤ pos m) = omega (arith, ints) in
      let high : ((n +ℤ pos m) -ℤ pos 1) ≤ℤ (span_of row.band).hi = omega (arith, ints) in
      let some_units : (n -ℤ pos m) ≤ℤ ((n +ℤ pos m) -ℤ pos 1) = omega (arith, ints) in
      let inside = facts-lies_in (span_of row.band) (units_of (slot_at n m)) low high in
      and_from _ _ (and_from _ _ (slot_in_span row.band (slot_at n m) ok some inside) inside)
      (free-from row (units_of (slot_at n m)) some_units free_unit)
    where
      free_unit : (u : ℤ) → (centre_of i -ℤ pos m) ≤ℤ u → u ≤ℤ ((centre_of i +ℤ pos m) -ℤ pos 1) →
          is_taken row u ≡ false
      free_unit u p q =
          let long = e.long in
          let ordered = order in
          sym (mark u (omega (arith, ints)) (omega (arith, ints)))
          ∙ e.free (place_of u) (omega (arith, ints)) (omega (arith, ints))

  no_room : (n : ℤ) → (Room n → ⊥) → has_room row m n ≡ false
  no_room n h = false_from_ne_true _ (λ e. h (room-facts n e))

  module _ (i : ℕ) (f : IsFirstRun runs (2 * m) i) where
    pub place_below : i < unit_count (span_of row.band)
    place_below = let within = f.within in let cut = length-take (unit_count (span_of row.band)) row.taken in omega arith

    long_run : 2 * m ≤ i + 1
    long_run = let here = f.here in here.long

    pub centre_low : (span_of row.band).lo ≤ℤ centre_of i
    centre_low = let long = long_run in omega (arith, ints)

    pub centre_high : centre_of i ≤ℤ (span_of row.band).hi
    centre_high =
        let ordered = order in
        let below = place_below in omega (arith, ints)

    before : (u : ℤ) → u <ℤ centre_of i → Room u → end_of u < i
    before u q r = let low = r.low in omega (arith, ints)

    pub first_centre : Some (centre_of i) ≡ find (has_room row m) (centres_in row.band)
    first_centre =
        let high = centre_high in
        let ordered = order in
        sym (first-at (has_room row m) (span_of row.band).lo (unit_count (span_of row.band)) (centre_of i) centre_low
        (omega (arith, ints)) (run-room i place_below f.here)
        (λ u p q. no_room u (λ r. f.first (end_of u) (before u q r) (room-run u r))))

  pub no_centre : unit_count (span_of row.band) ≤ length row.taken →
      ((i : ℕ) → i < length runs → ¬ EndsRun runs (2 * m) i) →
      None ≡ find (has_room row m) (centres_in row.band)
  no_centre long none =
      sym (first-none (has_room row m) (span_of row.band).lo (unit_count (span_of row.band))
      (λ u p q. no_room u (λ r. none (end_of u) (within u r) (room-run u r))))
    where
      within : (u : ℤ) → Room u → end_of u < length runs
      within u r =
          let low = r.low in
          let high = r.high in
          let count = length-take-le (unit_count (span_of row.band)) row.taken long in
          let inside : end_of u < unit_count (span_of row.band) = omega (arith, ints) in
          omega arith

-- a slot of no width has no room
pub no_width : (row : Row) → None ≡ find (has_room row 0) (centres_in row.band)
no_width row = sym (first-none (has_room row 0) (span_of row.band).lo (unit_count (span_of row.band)) (λ u p q. refl))

-- ---- a row that tells which units pass a test

pub least-where : (row : Row) (band : Band) (test : Units → Bool) (m : ℕ) → is_band band ≡ true →
    IsFreeWhere row band (λ s. lies_in_band band s && test s) →
    find (has_room row m) (centres_in row.band)
    ≡ find (λ n. stands_in band (slot_at n m) && test (units_of (slot_at n m))) (centres_in band)
least-where row band test m ok f =
    ap (λ (b : Band). find (λ n. (is_slot (slot_at n m) && lies_in (span_of b) (units_of (slot_at n m)))
    && are_free row (units_of (slot_at n m))) (centres_in b)) f.of_band
    ∙ find_same (λ n. (is_slot (slot_at n m) && lies_in (span_of band) (units_of (slot_at n m)))
    && are_free row (units_of (slot_at n m)))
    (λ n. stands_in band (slot_at n m) && test (units_of (slot_at n m))) (λ n. same (slot_at n m)) (centres_in band)
  where
    some_of : (s : Slot) → is_slot s ≡ true → int_le (units_of s).lo (units_of s).hi ≡ true
    some_of s h = le-int_le _ _ (units-facts (units_of s) (slot-units s h)).order

    by : (slot span part free passes : Bool) → (slot ≡ true → span ≡ true → free ≡ (part && passes)) →
        (part ≡ true → span ≡ true) → ((slot && span) && free) ≡ ((slot && part) && passes)
    by false span part free passes e k = refl
    by true true part free passes e k = e refl refl
    by true false true free passes e k = cc (k refl)
    by true false false free passes e k = refl

    same : (s : Slot) → ((is_slot s && lies_in (span_of band) (units_of s)) && are_free row (units_of s))
        ≡ (stands_in band s && test (units_of s))
    same s = by (is_slot s) (lies_in (span_of band) (units_of s)) (lies_in_band band (units_of s))
        (are_free row (units_of s)) (test (units_of s))
        (λ a b. f.free (units_of s) (and_from _ _ (some_of s a) b))
        (λ a. in_span band (band-parts band ok) (units_of s) a)
