-- The least centre of a backup, by its class.
use Rattle.std.proofs.Common.{◌≡◌, refl, sym, ◌∙◌, ap, ℕ, ℤ, ◌≤ℤ◌, Bool, true, false, ◌&&◌, not, List, find, arith}
use Rattle.std.specs.List.{list_all}
use Rattle.std.proofs.lemmas.Bool.{false≢true}
use Rattle.std.proofs.lemmas.Int.{ints}
use Rattle.eon_model.specs.declared.Class.{Class}
use Rattle.eon_model.specs.declared.Class.TheVariants.{Bare, Shared, Dual}
use Rattle.eon_model.specs.Candidates.{SizedRoute}
use Rattle.eon_model.specs.FirstFit.{centres_in}
use Rattle.eon_model.specs.FirstInRows.{stands_in, slot_on, least_channel, least_shared, shared_stands, backup_stands}
use Rattle.eon_model.specs.Grid.{Band, Slot}
use Rattle.eon_model.specs.Legal.{is_dual}
use Rattle.eon_model.specs.Rows.{Taken, Rows, Counts, at_each, has_no_sharer, units_in}
use Rattle.eon_model.specs.Sets.{NumberSet}
use Rattle.eon_model.proofs.FirstRows.{find_same}
use Rattle.eon_model.proofs.UnitLaws.{all_agree, all_both}

pub itself : (a : ℤ) → a ≤ℤ a
itself a = omega (arith, ints)

-- both tests pass at each unit exactly where each one does
each_both : (f g : ℕ → ℤ → Bool) (t : Taken) →
    at_each (λ fibre u. f fibre u && g fibre u) t ≡ (at_each f t && at_each g t)
each_both f g t =
    all_agree _ _ (λ fibre. all_both (f fibre) (g fibre) (units_in t.units)) t.fibres
    ∙ all_both (λ fibre. list_all (f fibre) (units_in t.units)) (λ fibre. list_all (g fibre) (units_in t.units)) t.fibres

module _ (band : Band) (rows : Rows) (counts : Counts) (risk : NumberSet) where
  -- a backup that is always lit stands where a channel does
  pub dual_least : (class : Class) (r : SizedRoute) → is_dual class ≡ true →
      least_channel band rows r
      ≡ find (backup_stands band rows counts class risk r.route.fibres r.m) (centres_in band)
  dual_least Bare r h = absurd (false≢true h)
  dual_least Shared r h = absurd (false≢true h)
  dual_least Dual r h = refl

  stands : (fs : List ℕ) (m : ℕ) (n : ℤ) →
      shared_stands band rows counts risk fs m n ≡ backup_stands band rows counts Shared risk fs m n
  stands fs m n =
      let slot : Slot = record { n = n; m = m } in
      ap (λ b. stands_in band slot && b)
      (sym (each_both (λ fibre u. not (rows.lit fibre u)) (has_no_sharer counts risk) (slot_on fs slot)))

  -- one that is dark where no unit is lit, nor in a backup of a working route that meets the risk
  pub shared_least : (class : Class) (fs : List ℕ) (m : ℕ) → is_dual class ≡ false →
      least_shared rows counts risk fs m band
      ≡ find (backup_stands band rows counts class risk fs m) (centres_in band)
  shared_least Bare fs m h =
      find_same (shared_stands band rows counts risk fs m) (backup_stands band rows counts Bare risk fs m)
      (stands fs m) (centres_in band)
  shared_least Shared fs m h =
      find_same (shared_stands band rows counts risk fs m) (backup_stands band rows counts Shared risk fs m)
      (stands fs m) (centres_in band)
  shared_least Dual fs m h = absurd (false≢true (sym h))
