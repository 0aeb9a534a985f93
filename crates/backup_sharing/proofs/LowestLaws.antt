-- What a row of units that are lit or barred tells of the lowest slot.
use Rattle.std.proofs.Common.{◌≡◌, refl, ◌∙◌, ap, ℕ, zero, suc, ◌<◌, arith, ℤ, pos, ◌+ℤ◌, ◌≤ℤ◌, Bool, true, false, cond, ◌&&◌, ◌||◌, not, List, length, find, Option, Some}
use Rattle.std.specs.Prelude.{int_le}
use Rattle.std.specs.List.{list_all, list_any}
use Rattle.std.proofs.lemmas.Int.{ints}
use Rattle.eon_model.specs.Grid.{Band, span_of, unit_count, units_of}
use Rattle.eon_model.specs.Lists.{integers_from}
use Rattle.eon_model.specs.FirstInRows.{stands_in, shared_stands, least_shared}
use Rattle.eon_model.specs.Rows.{Reserved, Rows, counts_among, has_no_sharer, units_in}
use Rattle.eon_model.specs.Sets.{NumberSet, has_member}
use Rattle.eon_model.proofs.GridLaws.{le-int_le}
use Rattle.eon_model.proofs.UnitLaws.{all_agree, all_both, all_swap, not_any}
use Rattle.spectrum_map.specs.Kept.{Kept}
use Rattle.block_fit.specs.Blocks.{least_clear}
use Rattle.backup_sharing.specs.Shared.{AreCounted, counts_beside, bars}
use Rattle.backup_sharing.proofs.FitLaws.{unbarred}

-- from the first of the numbers or below it
find_above : (from : ℤ) (p q : ℤ → Bool) → ((n : ℤ) → p n ≡ q n) → (a : ℤ) (k : ℕ) → from ≤ℤ a →
    find (λ n. int_le from n && p n) (integers_from a k) ≡ find q (integers_from a k)
find_above from p q same a zero l = refl
find_above from p q same a (suc k) l =
    λ i. cond (le-int_le from a l i && same a i) (Some a)
    (find_above from p q same (a +ℤ pos 1) k (later from a l) i)
  where
    later : (x y : ℤ) → x ≤ℤ y → x ≤ℤ (y +ℤ pos 1)
    later x y h = omega (arith, ints)

itself : (a : ℤ) → a ≤ℤ a
itself a = omega (arith, ints)

module _ (band : Band) (fibres : ℕ) (maps : List Kept) (rs : List Reserved) (counted : AreCounted band fibres maps rs)
    (own : Option Reserved) (risk : NumberSet) (groups : (g : ℕ) → has_member risk g ≡ true → g < length maps)
    (rows : Rows) (fs : List ℕ) where
  -- whether the unit is lit or barred on one of the fibres
  abbrev pub stands_there : ℤ → Bool
  stands_there u = list_any (λ fibre. bars maps risk own fibre u) fs || list_any (λ fibre. rows.lit fibre u) fs

  neither : (a b : Bool) → not (a || b) ≡ (not a && not b)
  neither true b = refl
  neither false b = refl

  turned : (a b : Bool) → (a && b) ≡ (b && a)
  turned true true = refl
  turned true false = refl
  turned false true = refl
  turned false false = refl

  clear : (us : List ℤ) → list_all (λ u. not (stands_there u)) us
      ≡ (list_all (λ fibre. list_all (λ u. not (rows.lit fibre u)) us) fs
      && list_all (λ fibre. list_all (has_no_sharer (counts_beside own (counts_among rs)) risk fibre) us) fs)
  clear us =
      all_agree _ _ (λ u. neither (list_any (λ fibre. bars maps risk own fibre u) fs) (list_any (λ fibre. rows.lit fibre u) fs)) us
      ∙ all_both (λ u. not (list_any (λ fibre. bars maps risk own fibre u) fs)) (λ u. not (list_any (λ fibre. rows.lit fibre u) fs)) us
      ∙ (λ i. unbarred band fibres maps rs counted own risk groups fs us i && dark i)
      ∙ turned (list_all (λ fibre. list_all (has_no_sharer (counts_beside own (counts_among rs)) risk fibre) us) fs)
      (list_all (λ fibre. list_all (λ u. not (rows.lit fibre u)) us) fs)
    where
      dark : list_all (λ u. not (list_any (λ fibre. rows.lit fibre u) fs)) us
          ≡ list_all (λ fibre. list_all (λ u. not (rows.lit fibre u)) us) fs
      dark = all_agree _ _ (λ u. not_any (λ fibre. rows.lit fibre u) fs) us
          ∙ all_swap (λ u fibre. not (rows.lit fibre u)) us fs

  pub lowest-is : (m : ℕ) → least_clear stands_there m band (span_of band).lo
      ≡ least_shared rows (counts_beside own (counts_among rs)) risk fs m band
  lowest-is m =
      find_above (span_of band).lo _ (shared_stands band rows (counts_beside own (counts_among rs)) risk fs m)
      (λ n. ap (λ b. stands_in band (record { n = n; m = m }) && b)
      (clear (units_in (units_of (record { n = n; m = m })))))
      (span_of band).lo (unit_count (span_of band)) (itself (span_of band).lo)
