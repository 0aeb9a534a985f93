-- The span of a band, from its lowest to its highest unit, and the gaps between its parts.
use Rattle.std.proofs.Common.{◌≡◌, refl, sym, ◌∙◌, ap, subst, ℕ, zero, suc, ◌<◌, ◌≤◌, ℤ, pos, negsuc, ◌+ℤ◌, ◌-ℤ◌, ◌≤ℤ◌, ◌<ℤ◌, arith, Bool, true, false, ◌&&◌, ◌||◌, not, List, [], ◌∷◌, length, drop, ◌-◌, ◌⊎◌, inl, inr, slice_index_or, w32, to_z, of_z, FitsSigned}
use Rattle.std.specs.Prelude.{int_le, nat_abs}
use Rattle.std.specs.List.{list_all}
use Rattle.std.proofs.lemmas.Int.{ints}
use Rattle.std.proofs.lemmas.Bool.{and_parts, and_from, le-leb, both_ways, false_from_ne_true, not_from_false, cases_Bool}
use Rattle.eon_model.specs.Grid.{Units, Band, Slot, units_of, overlaps, lies_in, lies_in_band, span_of, span_from, is_units, parts_ascend, is_band, is_slot}
use Rattle.eon_model.proofs.GridLaws.{int_le-le, le-int_le, lies_in-facts, facts-lies_in, overlaps-facts, facts-overlaps}
use Rattle.eon_model.proofs.BandLaws.{BandParts, band-parts, in_span}
use Rattle.eon_model.proofs.SlotSteps.{int_le-false}
use Rattle.flex_grid.proofs.GridFacts.{UnitsInRange, units-facts}
use Rattle.admission.specs.Free.{are_within, gaps_of}
use Rattle.eon_model.proofs.SpanLaws.{span-lo, SpanFacts, span-facts}

-- ---- ends

-- each part in range, and above the one before
record Parts (part : Units) (parts : Band) : Type 0 where
  here : UnitsInRange part
  units : list_all is_units (part ∷ parts) ≡ true
  ascend : parts_ascend (part ∷ parts) ≡ true

parts-of : (part : Units) (parts : Band) → list_all is_units (part ∷ parts) ≡ true →
    parts_ascend (part ∷ parts) ≡ true → Parts part parts
parts-of part parts u a = record {
  here = units-facts part (and_parts (is_units part) (list_all is_units parts) u).0;
  units = u;
  ascend = a;
}

later-parts : (part next : Units) (parts : Band) → Parts part (next ∷ parts) → Parts next parts
later-parts part next parts p =
    parts-of next parts (and_parts (is_units part) (list_all is_units (next ∷ parts)) p.units).1
    (and_parts (int_le (part.hi +ℤ pos 2) next.lo) (parts_ascend (next ∷ parts)) p.ascend).1

gap_between : (part next : Units) (parts : Band) → Parts part (next ∷ parts) → (part.hi +ℤ pos 2) ≤ℤ next.lo
gap_between part next parts p =
    int_le-le (part.hi +ℤ pos 2) next.lo
    (and_parts (int_le (part.hi +ℤ pos 2) next.lo) (parts_ascend (next ∷ parts)) p.ascend).0

-- what is at least 1 wide and lies in the span is a slot
pub slot_in_span : (band : Band) (slot : Slot) → is_band band ≡ true → 1 ≤ slot.m →
    lies_in (span_of band) (units_of slot) ≡ true → is_slot slot ≡ true
slot_in_span band slot ok one h =
    let facts = span-facts band ok in
    let in_span = lies_in-facts (span_of band) (units_of slot) h in
    let low = facts.low in
    let high = facts.high in
    let wide = facts.wide in
    let lo = in_span.0 in
    let hi = in_span.1 in
    let n = slot.n in
    let m = slot.m in
    let narrow : m ≤ 512 = omega (arith, ints) in
    let above : negsuc 4095 ≤ℤ (n -ℤ pos m) = omega (arith, ints) in
    let ordered : (n -ℤ pos m) ≤ℤ ((n +ℤ pos m) -ℤ pos 1) = omega (arith, ints) in
    let below : ((n +ℤ pos m) -ℤ pos 1) ≤ℤ pos 4095 = omega (arith, ints) in
    and_from _ _ (and_from _ _ (le-leb 1 m one) (le-leb m 512 narrow))
    (and_from _ _ (and_from _ _ (le-int_le _ _ above) (le-int_le _ _ ordered)) (le-int_le _ _ below))

-- in a band, so is what lies in one part
pub slot_in : (band : Band) (slot : Slot) → is_band band ≡ true → 1 ≤ slot.m →
    lies_in_band band (units_of slot) ≡ true → is_slot slot ≡ true
slot_in band slot ok one h =
    slot_in_span band slot ok one (in_span band (band-parts band ok) (units_of slot) h)

-- ---- gaps

abbrev clear_of_gaps : Units → Band → Bool
clear_of_gaps s band = list_all (λ g. not (overlaps s g)) (gaps_of band)

-- the gap above a part that has another above it
abbrev pub gap_above : Units → Units → Units
gap_above part next = record { lo = part.hi +ℤ pos 1; hi = next.lo -ℤ pos 1 }

apart-from : (s g : Units) → (overlaps s g ≡ true → ⊥) → not (overlaps s g) ≡ true
apart-from s g h = not_from_false _ (false_from_ne_true _ h)

-- what ends within a part overlaps no gap above it
below-clear : (s part : Units) (parts : Band) → Parts part parts → s.hi ≤ℤ part.hi →
    clear_of_gaps s (part ∷ parts) ≡ true
below-clear s part [] p h = refl
below-clear s part (next ∷ parts) p h =
    let later = later-parts part next parts p in
    let facts = later.here in
    let order = facts.order in
    let apart = gap_between part next parts p in
    and_from _ _ (apart-from s (gap_above part next) (λ o.
    let ends = overlaps-facts s (gap_above part next) o in
    let above = ends.1 in absurd (omega (arith, ints))))
    (below-clear s next parts later (omega (arith, ints)))

not_in : (part s : Units) → (s.hi ≤ℤ part.hi → ⊥) → lies_in part s ≡ false
not_in part s h = false_from_ne_true _ (λ k. h (lies_in-facts part s k).1)

-- beyond the first part
beyond : (s part next : Units) (parts : Band) → Parts part (next ∷ parts) → s.lo ≤ℤ s.hi →
    int_le s.hi part.hi ≡ false → (next.lo ≤ℤ s.lo → clear_of_gaps s (next ∷ parts) ≡ lies_in_band (next ∷ parts) s) →
    clear_of_gaps s (part ∷ next ∷ parts) ≡ lies_in_band (part ∷ next ∷ parts) s
beyond s part next parts p some e rest = by (cases_Bool (int_le next.lo s.lo))
  where
    out : lies_in part s ≡ false
    out = not_in part s (λ h. both_ways _ e (le-int_le s.hi part.hi h))

    by : (int_le next.lo s.lo ≡ true) ⊎ (int_le next.lo s.lo ≡ false) →
        clear_of_gaps s (part ∷ next ∷ parts) ≡ lies_in_band (part ∷ next ∷ parts) s
    by (inl above) =
        let over = int_le-le next.lo s.lo above in
        (λ i. apart-from s (gap_above part next) (λ o.
        let ends = overlaps-facts s (gap_above part next) o in
        let below = ends.0 in absurd (omega (arith, ints))) i && rest over i)
        ∙ (λ i. sym out i || lies_in_band (next ∷ parts) s)
    by (inr under) =
        (λ i. not (meets i) && clear_of_gaps s (next ∷ parts))
        ∙ (λ i. sym out i || sym above i)
      where
        left : s.lo <ℤ next.lo
        left = int_le-false next.lo s.lo under

        right : part.hi <ℤ s.hi
        right = int_le-false s.hi part.hi e

        meets : overlaps s (gap_above part next) ≡ true
        meets =
            let l = left in
            let r = right in facts-overlaps s (gap_above part next) (omega (arith, ints)) (omega (arith, ints))

        above : lies_in_band (next ∷ parts) s ≡ false
        above = false_from_ne_true _ (λ h.
            let later = later-parts part next parts p in
            let f : BandParts (next ∷ parts) = record { units = later.units; ascend = later.ascend } in
            let inside = lies_in-facts (span_of (next ∷ parts)) s (in_span (next ∷ parts) f s h) in
            let low = subst (λ (z : ℤ). z ≤ℤ s.lo) (span-lo next parts) inside.0 in
            let l = left in absurd (omega (arith, ints)))

-- units from within the first part on, up to the end of the span, overlap no gap exactly where they lie in one part
in-one-part : (s part : Units) (parts : Band) → Parts part parts → s.lo ≤ℤ s.hi → part.lo ≤ℤ s.lo →
    s.hi ≤ℤ (span_from part parts).hi → clear_of_gaps s (part ∷ parts) ≡ lies_in_band (part ∷ parts) s
in-one-part s part [] p some low high = sym (ap (λ b. b || false) (facts-lies_in part s low high))
in-one-part s part (next ∷ parts) p some low high =
    elim (cases_Bool (int_le s.hi part.hi)) [
      | inl within ↦
          let ends = int_le-le s.hi part.hi within in
          below-clear s part (next ∷ parts) p ends
          ∙ sym (ap (λ b. b || lies_in_band (next ∷ parts) s) (facts-lies_in part s low ends))
      | inr past ↦ beyond s part next parts p some past (λ over.
          in-one-part s next parts (later-parts part next parts p) some over high)
    ]

pub gaps-tell : (band : Band) → is_band band ≡ true → (s : Units) → are_within band s ≡ true →
    list_all (λ g. not (overlaps s g)) (gaps_of band) ≡ lies_in_band band s
gaps-tell [] ok s h = absurd (both_ways false refl ok)
gaps-tell (part ∷ parts) ok s h =
    let p = band-parts (part ∷ parts) ok in
    let split = and_parts (int_le s.lo s.hi) (lies_in (span_of (part ∷ parts)) s) h in
    let ends = lies_in-facts (span_of (part ∷ parts)) s split.1 in
    in-one-part s part parts (parts-of part parts p.units p.ascend) (int_le-le s.lo s.hi split.0)
    (subst (λ (z : ℤ). z ≤ℤ s.lo) (span-lo part parts) ends.0) ends.1

-- ---- gap by gap

gap-here : (band : Band) (blank : Units) (k : ℕ) → suc k < length band →
    drop k (gaps_of band)
    ≡ gap_above (slice_index_or band k blank) (slice_index_or band (suc k) blank) ∷ drop (suc k) (gaps_of band)
gap-here [] blank k h = absurd (omega arith)
gap-here (part ∷ []) blank k h = absurd (omega arith)
gap-here (part ∷ next ∷ parts) blank zero h = refl
gap-here (part ∷ next ∷ parts) blank (suc k) h = gap-here (next ∷ parts) blank k (omega arith)

pub gap-at : (band : Band) (blank : Units) (i : ℕ) → 1 ≤ i → i < length band →
    drop (i - 1) (gaps_of band)
    ≡ gap_above (slice_index_or band (i - 1) blank) (slice_index_or band i blank) ∷ drop i (gaps_of band)
gap-at band blank i some h =
    let k = i - 1 in
    let e : suc k ≡ i = omega arith in
    subst (λ (j : ℕ). drop k (gaps_of band)
    ≡ gap_above (slice_index_or band k blank) (slice_index_or band j blank) ∷ drop j (gaps_of band)) e
    (gap-here band blank k (omega arith))

nothing-left : (k : ℕ) (xs : List Units) → xs ≡ [] → drop k xs ≡ []
nothing-left zero xs e = e
nothing-left (suc k) xs e = ap (drop (suc k)) e

gaps-none : (band : Band) (k : ℕ) → length band ≤ suc k → drop k (gaps_of band) ≡ []
gaps-none [] k h = nothing-left k [] refl
gaps-none (part ∷ []) k h = nothing-left k [] refl
gaps-none (part ∷ next ∷ parts) zero h = absurd (omega arith)
gaps-none (part ∷ next ∷ parts) (suc k) h = gaps-none (next ∷ parts) k (omega arith)

pub gaps-end : (band : Band) (i : ℕ) → length band ≤ i → drop (i - 1) (gaps_of band) ≡ []
gaps-end band i h = gaps-none band (i - 1) (omega arith)

wide-gap : (part : Units) (parts : Band) (blank : Units) (k : ℕ) → Parts part parts → suc k < length (part ∷ parts) →
    ((slice_index_or (part ∷ parts) k blank).hi +ℤ pos 2) ≤ℤ (slice_index_or (part ∷ parts) (suc k) blank).lo
wide-gap part [] blank k p h = absurd (omega arith)
wide-gap part (next ∷ parts) blank zero p h = gap_between part next parts p
wide-gap part (next ∷ parts) blank (suc k) p h =
    wide-gap next parts blank k (later-parts part next parts p) (omega arith)

wide-from : (band : Band) (blank : Units) (k : ℕ) → is_band band ≡ true → suc k < length band →
    ((slice_index_or band k blank).hi +ℤ pos 2) ≤ℤ (slice_index_or band (suc k) blank).lo
wide-from [] blank k ok h = absurd (omega arith)
wide-from (part ∷ parts) blank k ok h =
    let p = band-parts (part ∷ parts) ok in
    wide-gap part parts blank k (parts-of part parts p.units p.ascend) h

pub gap-wide : (band : Band) (blank : Units) (i : ℕ) → is_band band ≡ true → 1 ≤ i → i < length band →
    ((slice_index_or band (i - 1) blank).hi +ℤ pos 2) ≤ℤ (slice_index_or band i blank).lo
gap-wide band blank i ok some h =
    let k = i - 1 in
    let e : suc k ≡ i = omega arith in
    subst (λ (j : ℕ). ((slice_index_or band k blank).hi +ℤ pos 2) ≤ℤ (slice_index_or band j blank).lo) e
    (wide-from band blank k ok (omega arith))

-- ---- the place of a unit, as it is computed

pub record IsPlace (span : Units) (lo unit : ℤ) : Type 0 where
  pub fits : FitsSigned w32 (to_z w32 (of_z w32 unit) -ℤ to_z w32 (of_z w32 lo))
  pub low : pos 0 ≤ℤ to_z w32 (of_z w32 (to_z w32 (of_z w32 unit) -ℤ to_z w32 (of_z w32 lo)))
  pub is : nat_abs (to_z w32 (of_z w32 (to_z w32 (of_z w32 unit) -ℤ to_z w32 (of_z w32 lo)))) ≡ nat_abs (unit -ℤ span.lo)
  pub few : nat_abs (to_z w32 (of_z w32 (to_z w32 (of_z w32 unit) -ℤ to_z w32 (of_z w32 lo)))) < 1024

pub place-is : (span : Units) (lo unit : ℤ) → lo ≡ span.lo → SpanFacts span → span.lo ≤ℤ unit → unit ≤ℤ span.hi →
    IsPlace span lo unit
place-is span lo unit at facts low high =
    let least = facts.low in
    let most = facts.high in
    let wide = facts.wide in record {
      fits = omega (arith, ints);
      low = omega (arith, ints);
      is = omega (arith, ints);
      few = omega (arith, ints);
    }
