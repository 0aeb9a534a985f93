-- What a layer shows where nothing is changed, and in a row that was taken over.
use Rattle.std.proofs.Common.{◌≡◌, refl, sym, ◌∙◌, ap, ℕ, ◌<◌, arith, inl, inr, ℤ, pos, ◌+ℤ◌, Bool, true, false, cond, ◌&&◌, List, [], ◌∷◌, length, replicate}
use Rattle.std.specs.Prelude.{min, nat_lt}
use Rattle.std.specs.Ordering.{int_eq}
use Rattle.std.proofs.lemmas.Bool.{cases_lt, and_parts, and_from, both_ways, lt-ltb}
use Rattle.std.proofs.lemmas.List.{get_or-replicate, get_or_past, length-replicate}
use Rattle.eon_model.specs.Grid.{Band, Units, has_unit, span_of, unit_count}
use Rattle.eon_model.specs.Rows.{Rows}
use Rattle.eon_model.proofs.SlotSteps.{int_eq-same, int_eq-of}
use Rattle.eon_model.proofs.SpanLaws.{SpanFacts}
use Rattle.spectrum_map.specs.Bits.{bit_of}
use Rattle.spectrum_map.specs.Kept.{place_of, is_unit_that}
use Rattle.layer_view.specs.Kept.{KeptRows, IsWithin, words_at}
use Rattle.layer_view.specs.Layers.{Marks, is_own, lit_over, rows_over, same_units, same_band, fibres_over}
use Rattle.layer_view.proofs.MarkLaws.{unit_is}

-- ---- the fibres of a layer

same-units : (a b : Units) → same_units a b ≡ true → a ≡ b
same-units a b h =
    let p = and_parts (int_eq a.lo b.lo) (int_eq a.hi b.hi) h in
    λ i. record { lo = int_eq-same a.lo b.lo p.0 i; hi = int_eq-same a.hi b.hi p.1 i }

pub same-band : (a b : Band) → same_band a b ≡ true → a ≡ b
same-band [] [] h = refl
same-band [] (y ∷ ys) h = absurd (both_ways false refl h)
same-band (x ∷ xs) [] h = absurd (both_ways false refl h)
same-band (x ∷ xs) (y ∷ ys) h =
    let p = and_parts (same_units x y) (same_band xs ys) h in
    λ i. same-units x y p.0 i ∷ same-band xs ys p.1 i

band_itself : (a : Band) → same_band a a ≡ true
band_itself [] = refl
band_itself (x ∷ xs) =
    and_from _ _ (and_from _ _ (int_eq-of x.lo x.lo refl) (int_eq-of x.hi x.hi refl)) (band_itself xs)

pub all_fibres : (band : Band) (fibres : ℕ) (kept : KeptRows) → kept.band ≡ band → length kept.rows ≡ fibres →
    fibres_over band fibres kept ≡ fibres
all_fibres band fibres kept e n =
    (λ i. cond (same_band band (e i)) (min fibres (n i)) 0)
    ∙ ap (λ b. cond b (min fibres fibres) 0) (band_itself band) ∙ least
  where
    least : min fibres fibres ≡ fibres
    least = omega arith

-- what a fibre of a layer is
pub record FibreFacts (band : Band) (fibres : ℕ) (kept : KeptRows) (fibre : ℕ) : Type 0 where
  pub band_is : band ≡ kept.band
  pub in_base : fibre < fibres
  pub in_rows : fibre < length kept.rows

pub fibre-facts : (band : Band) (fibres : ℕ) (kept : KeptRows) (fibre : ℕ) → fibre < fibres_over band fibres kept →
    FibreFacts band fibres kept fibre
fibre-facts band fibres kept fibre h = by (same_band band kept.band) refl h
  where
    by : (b : Bool) → same_band band kept.band ≡ b → fibre < cond b (min fibres (length kept.rows)) 0 →
        FibreFacts band fibres kept fibre
    by true e l = record { band_is = same-band band kept.band e; in_base = omega arith; in_rows = omega arith }
    by false e l = absurd (omega (arith, l))

-- ---- nothing taken over

none_at : (n i : ℕ) → is_own (replicate n false) i ≡ false
none_at n i = elim (cases_lt i n) [
  | inl less ↦ get_or-replicate n i false false less
  | inr more ↦ let e = length-replicate {A = Bool} n false in get_or_past (replicate n false) i false (omega (arith, e, more))
]

pub begins_equal : (base : Rows) (kept : KeptRows) (n : ℕ) → rows_over base kept (replicate n false) ≡ base
begins_equal base kept n = λ i. record {
  lit = λ fibre u. (ap (λ b. cond (b && has_unit (span_of kept.band) u)
      (bit_of (words_at kept.rows fibre) (place_of kept.band u)) (base.lit fibre u)) (none_at n fibre)) i;
  held = base.held;
}

-- ---- the row of a fibre

pub own_row : (kept : KeptRows) → SpanFacts (span_of kept.band) → (lit : ℕ → ℤ → Bool) (own : List Bool) (fibre : ℕ) →
    is_own own fibre ≡ true → IsWithin kept.band (words_at kept.rows fibre) →
    Marks kept.band (words_at kept.rows fibre) (lit_over lit kept own fibre)
own_row kept span lit own fibre mine within i = by (nat_lt i (unit_count (span_of kept.band))) refl
  where
    u : ℤ
    u = (span_of kept.band).lo +ℤ pos i

    by : (b : Bool) → nat_lt i (unit_count (span_of kept.band)) ≡ b →
        bit_of (words_at kept.rows fibre) i ≡ is_unit_that kept.band (lit_over lit kept own fibre) i
    by true h =
        let at = unit_is kept.band span i h in
        ap (bit_of (words_at kept.rows fibre)) (sym at.1)
        ∙ (λ j. sym h j && cond (sym mine j && sym at.0 j)
        (bit_of (words_at kept.rows fibre) (place_of kept.band ((span_of kept.band).lo +ℤ pos i)))
        (lit fibre ((span_of kept.band).lo +ℤ pos i)))
    by false h = elim (cases_lt i (unit_count (span_of kept.band))) [
      | inl less ↦ absurd (both_ways (nat_lt i (unit_count (span_of kept.band))) h (lt-ltb i (unit_count (span_of kept.band)) less))
      | inr more ↦ within.past i more
          ∙ (λ j. sym h j && lit_over lit kept own fibre ((span_of kept.band).lo +ℤ pos i))
    ]

pub base_row : (kept : KeptRows) (lit : ℕ → ℤ → Bool) (own : List Bool) (fibre : ℕ) → is_own own fibre ≡ false →
    (words : List ℕ) → Marks kept.band words (lit fibre) → Marks kept.band words (lit_over lit kept own fibre)
base_row kept lit own fibre theirs words marks i =
    marks i ∙ (λ j. nat_lt i (unit_count (span_of kept.band))
    && cond (sym theirs j && has_unit (span_of kept.band) ((span_of kept.band).lo +ℤ pos i))
    (bit_of (words_at kept.rows fibre) (place_of kept.band ((span_of kept.band).lo +ℤ pos i)))
    (lit fibre ((span_of kept.band).lo +ℤ pos i)))
