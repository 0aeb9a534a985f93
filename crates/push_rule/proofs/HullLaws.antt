-- The units over which a channel drifts, beside the grid's.
use Rattle.std.proofs.Common.{◌≡◌, refl, ◌≤◌, ℤ, pos, negsuc, ◌+ℤ◌, ◌-ℤ◌, ◌≤ℤ◌, Bool, true, false, cond, ◌&&◌, Some, None, arith}
use Rattle.std.specs.Prelude.{nat_le, int_le}
use Rattle.std.specs.Int.{int_min, int_max}
use Rattle.std.proofs.lemmas.Int.{ints, clamps}
use Rattle.std.proofs.lemmas.Bool.{and_parts, and_from, leb-true, both_ways}
use Rattle.eon_model.specs.Grid.{Slot, Units, Band, units_of, moved_to, hull, lies_in, lies_in_band, is_units, is_band, is_slot}
use Rattle.eon_model.proofs.GridLaws.{int_le-le, le-int_le, lies_in-facts}
use Rattle.eon_model.proofs.BandLaws.{band-parts}
use Rattle.eon_model.proofs.Members.{list_all-at, any-member}
use Rattle.flex_grid.specs.Makes.{slot_of}

-- a slot moved to where its hull lies in a part of the grid is one of the grid
moved-slot : (slot : Slot) (to : ℤ) (part : Units) → is_slot slot ≡ true → is_units part ≡ true →
    lies_in part (hull (units_of slot) (units_of (moved_to slot to))) ≡ true → is_slot (moved_to slot to) ≡ true
moved-slot slot to part ok units h =
    let s = and_parts (nat_le 1 slot.m && nat_le slot.m 512) (is_units (units_of slot)) ok in
    let a = and_parts (int_le (negsuc 4095) part.lo && int_le part.lo part.hi) (int_le part.hi (pos 4095)) units in
    let b = and_parts (int_le (negsuc 4095) part.lo) (int_le part.lo part.hi) a.0 in
    let low : negsuc 4095 ≤ℤ part.lo = int_le-le _ _ b.0 in
    let high : part.hi ≤ℤ pos 4095 = int_le-le _ _ a.1 in
    let f = lies_in-facts part (hull (units_of slot) (units_of (moved_to slot to))) h in
    let n = slot.n in
    let m = slot.m in
    let lo : part.lo ≤ℤ int_min (n -ℤ pos m) (to -ℤ pos m) = f.0 in
    let hi : int_max ((n +ℤ pos m) -ℤ pos 1) ((to +ℤ pos m) -ℤ pos 1) ≤ℤ part.hi = f.1 in
    let one : 1 ≤ m = leb-true 1 m (and_parts (nat_le 1 m) (nat_le m 512) s.0).0 in
    let above : negsuc 4095 ≤ℤ (to -ℤ pos m) = omega (arith, ints, clamps, low, lo) in
    let ordered : (to -ℤ pos m) ≤ℤ ((to +ℤ pos m) -ℤ pos 1) = omega (arith, ints, one) in
    let below : ((to +ℤ pos m) -ℤ pos 1) ≤ℤ pos 4095 = omega (arith, ints, clamps, high, hi) in
    and_from _ _ s.0 (and_from _ _ (and_from _ _ (le-int_le _ _ above) (le-int_le _ _ ordered)) (le-int_le _ _ below))

hull-slot : (band : Band) (slot : Slot) (to : ℤ) → is_band band ≡ true → is_slot slot ≡ true →
    lies_in_band band (hull (units_of slot) (units_of (moved_to slot to))) ≡ true → is_slot (moved_to slot to) ≡ true
hull-slot band slot to band_ok ok h =
    let f = any-member (λ (part : Units). lies_in part (hull (units_of slot) (units_of (moved_to slot to)))) band h in
    moved-slot slot to f.0 ok (list_all-at is_units band f.0 (band-parts band band_ok).units f.1.0) f.1.1

-- what is there where a test passes, is not there where it does not
pub none-by : {X : Type 0} (b : Bool) (x : X) → cond b (Some x) None ≡ None → b ≡ false
none-by true x h = cc
none-by false x h = refl

-- where it cannot be moved, its hull leaves the band
pub hull-leaves : (band : Band) (slot : Slot) (to : ℤ) → is_band band ≡ true → is_slot slot ≡ true →
    slot_of to slot.m ≡ None → false ≡ lies_in_band band (hull (units_of slot) (units_of (moved_to slot to)))
hull-leaves band slot to band_ok ok none =
    out (lies_in_band band (hull (units_of slot) (units_of (moved_to slot to)))) refl
  where
    out : (b : Bool) → lies_in_band band (hull (units_of slot) (units_of (moved_to slot to))) ≡ b → false ≡ b
    out true e = absurd (both_ways (is_slot (moved_to slot to)) (none-by (is_slot (moved_to slot to)) (moved_to slot to) none)
        (hull-slot band slot to band_ok ok e))
    out false e = refl
