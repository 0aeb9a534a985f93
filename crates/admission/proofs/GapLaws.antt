-- A row where all gaps of its band are taken is free where units lie in one part.
use Rattle.std.proofs.Common.{◌≡◌, refl, sym, ◌∙◌, ap, subst, ℕ, ◌+◌, ◌-◌, ◌<◌, ◌≤◌, ℤ, pos, ◌+ℤ◌, ◌-ℤ◌, ◌≤ℤ◌, arith, Bool, true, false, not, length, replicate, slice_index_or}
use Rattle.std.proofs.lemmas.Int.{ints}
use Rattle.eon_model.specs.Grid.{Units, Band, overlaps, lies_in_band, is_band}
use Rattle.admission.specs.declared.row.Row.{Row}
use Rattle.admission.specs.Free.{IsFreeWhere, Takes, gaps_of}
use Rattle.admission.proofs.PassLaws.{TakenTo, taken-none, taken-more, taken-all}
use Rattle.admission.proofs.FreeLaws.{free_all}
use Rattle.admission.proofs.SpanLaws.{gaps-tell, gap_above, gap-at, gaps-end, gap-wide}

-- whether the units overlap no unit of the gap
abbrev pub beside : Units → Units → Bool
beside s g = not (overlaps s g)

-- the gaps below the part of this number, from 1, are taken
abbrev pub GapsTaken : Band → Row → ℕ → Type 0
GapsTaken band row i = TakenTo band (λ s. true) beside (gaps_of band) row (i - 1)

pub no-gaps : (row : Row) (n : ℕ) → row.taken ≡ replicate n false →
    TakenTo row.band (λ s. true) beside (gaps_of row.band) row 0
no-gaps row n e =
    taken-none row.band (λ s. true) beside (gaps_of row.band) row (record { of_band = refl; free = free_all row n e })

-- the ends of the gap
pub gap-ends : (band : Band) (blank below above : Units) (i : ℕ) → is_band band ≡ true → 1 ≤ i → i < length band →
    below ≡ slice_index_or band (i - 1) blank → above ≡ slice_index_or band i blank →
    (below.hi +ℤ pos 1) ≤ℤ (above.lo -ℤ pos 1)
gap-ends band blank below above i ok some h e f =
    let wide = gap-wide band blank i ok some h in
    subst (λ (u : Units). (u.hi +ℤ pos 1) ≤ℤ (above.lo -ℤ pos 1)) (sym e)
    (subst (λ (u : Units). ((slice_index_or band (i - 1) blank).hi +ℤ pos 1) ≤ℤ (u.lo -ℤ pos 1)) (sym f)
    (narrower (slice_index_or band (i - 1) blank).hi (slice_index_or band i blank).lo wide))
  where
    narrower : (a b : ℤ) → (a +ℤ pos 2) ≤ℤ b → (a +ℤ pos 1) ≤ℤ (b -ℤ pos 1)
    narrower a b h = omega (arith, ints)

pub gap-taken : (band : Band) (blank below above : Units) (a b : Row) (low high : ℤ) (i : ℕ) → 1 ≤ i →
    i < length band → below ≡ slice_index_or band (i - 1) blank → above ≡ slice_index_or band i blank →
    low ≡ below.hi +ℤ pos 1 → high ≡ above.lo -ℤ pos 1 → GapsTaken band a i →
    Takes a b (λ s. not (overlaps s (record { lo = low; hi = high }))) → GapsTaken band b (i + 1)
gap-taken band blank below above a b low high i some h e f l k before t =
    let same : i ≡ i + 1 - 1 = omega arith in
    subst (TakenTo band (λ s. true) beside (gaps_of band) b) same
    (taken-more band (λ s. true) beside (gaps_of band) a b (i - 1) i
    (gap_above (slice_index_or band (i - 1) blank) (slice_index_or band i blank)) (gap-at band blank i some h) before
    (subst (λ (g : Units). Takes a b (λ s. not (overlaps s g))) gap t))
  where
    gap : (let g : Units = record { lo = low; hi = high } in g)
        ≡ gap_above (slice_index_or band (i - 1) blank) (slice_index_or band i blank)
    gap = λ j. record { lo = (l ∙ ap (λ (u : Units). u.hi +ℤ pos 1) e) j; hi = (k ∙ ap (λ (u : Units). u.lo -ℤ pos 1) f) j }

pub gaps-free : (band : Band) (row : Row) (i : ℕ) → is_band band ≡ true → length band ≤ i → GapsTaken band row i →
    IsFreeWhere row band (lies_in_band band)
gaps-free band row i ok h k =
    let all = taken-all band (λ s. true) beside (gaps_of band) row (i - 1) (gaps-end band i h) k in
    record { of_band = all.of_band; free = λ s w. all.free s w ∙ gaps-tell band ok s w }
