-- Whom a mover meets, by heights, it waits for on a common fibre.
use Rattle.std.proofs.Common.{◌≡◌, refl, ◌∙◌, ℕ, ◌+◌, ◌<◌, ◌≤◌, nat_abs, ℤ, pos, negsuc, ◌+ℤ◌, ◌-ℤ◌, ◌≤ℤ◌, Bool, true, false, ◌&&◌, arith}
use Rattle.std.specs.Prelude.{◌<ℤ◌, nat_le, nat_lt, int_lt, int_le}
use Rattle.std.specs.Int.{int_max, int_min}
use Rattle.std.proofs.lemmas.Int.{ints, clamps}
use Rattle.std.proofs.lemmas.Bool.{and_parts, and_from, ltb-true, leb-true, lt-ltb, le-leb}
use Rattle.eon_model.specs.Grid.{Slot, units_of, is_units, is_slot}
use Rattle.eon_model.specs.Services.{Path, collides}
use Rattle.eon_model.specs.Route.{share_fibre}
use Rattle.eon_model.specs.Plan.{Channel, old_path, old_place, target_place, hull_of, lies_below, waits_for}
use Rattle.eon_model.proofs.SlotSteps.{int_lt-of, of-int_lt}
use Rattle.eon_model.proofs.SetLists.{same_test}
use Rattle.eon_model.proofs.GridLaws.{int_le-le, le-int_le}
use Rattle.compact_plan.specs.Blocks.{path_height}
use Rattle.compact_plan.specs.Tops.{end_height}
use Rattle.compact_plan.proofs.SettleLaws.{units_low}
use Rattle.plan_batches.specs.declared.mover.Mover.{Mover}
use Rattle.plan_batches.specs.declared.turn.Turn.{Turn}
use Rattle.plan_batches.specs.Awaited.{is_met}
use Rattle.plan_batches.specs.Movers.{IsMover}

-- ---- heights

-- the heights of a mover and of what it may meet, with the units that they are those of
record AreHeights (low reach end : ℕ) (own lowest greatest lo hi : ℤ) : Type 0 where
  pub low_is : pos low ≡ own +ℤ pos 4096
  pub reach_is : pos reach ≡ int_max (pos 0) (lowest +ℤ pos 4096)
  pub end_is : pos end ≡ hi +ℤ pos 4097
  pub some : lo ≤ℤ hi
  pub on_grid : negsuc 4095 ≤ℤ lo
  pub under : own ≤ℤ greatest

meets_then : (low reach end : ℕ) (own lowest greatest lo hi : ℤ) → AreHeights low reach end own lowest greatest lo hi →
    end ≤ low → reach < end → (hi <ℤ own) × (lowest ≤ℤ hi) × (lo ≤ℤ greatest)
meets_then low reach end own lowest greatest lo hi h a b =
    let l = h.low_is in let r = h.reach_is in let e = h.end_is in let s = h.some in let u = h.under in
    (omega (arith, ints, clamps), omega (arith, ints, clamps), omega (arith, ints, clamps))

then_meets : (low reach end : ℕ) (own lowest greatest lo hi : ℤ) → AreHeights low reach end own lowest greatest lo hi →
    hi <ℤ own → lowest ≤ℤ hi → (end ≤ low) × (reach < end)
then_meets low reach end own lowest greatest lo hi h a b =
    let l = h.low_is in let r = h.reach_is in let e = h.end_is in let s = h.some in let g = h.on_grid in
    (omega (arith, ints, clamps), omega (arith, ints, clamps))

meets : (low reach end : ℕ) (own lowest greatest lo hi : ℤ) → AreHeights low reach end own lowest greatest lo hi →
    (nat_le end low && nat_lt reach end) ≡ (int_lt hi own && (int_le lowest hi && int_le lo greatest))
meets low reach end own lowest greatest lo hi h = same_test _ _
    (λ t.
    let both = and_parts (nat_le end low) (nat_lt reach end) t in
    let is = meets_then low reach end own lowest greatest lo hi h (leb-true end low both.0) (ltb-true reach end both.1) in
    and_from _ _ (int_lt-of hi own is.0) (and_from _ _ (le-int_le lowest hi is.1) (le-int_le lo greatest is.2)))
    (λ t.
    let both = and_parts (int_lt hi own) (int_le lowest hi && int_le lo greatest) t in
    let more = and_parts (int_le lowest hi) (int_le lo greatest) both.1 in
    let is = then_meets low reach end own lowest greatest lo hi h (of-int_lt hi own both.0) (int_le-le lowest hi more.0) in
    and_from _ _ (le-leb end low is.0) (lt-ltb reach end is.1))

-- the hull of a slot does not lie above the grid
pub hull_low : (s : Slot) (other : ℤ) → is_slot s ≡ true → int_min (units_of s).lo other ≤ℤ pos 4095
hull_low s other h =
    let units = (and_parts (nat_le 1 s.m && nat_le s.m 512) (is_units (units_of s)) h).1 in
    let x = and_parts (int_le (negsuc 4095) (units_of s).lo && int_le (units_of s).lo (units_of s).hi)
    (int_le (units_of s).hi (pos 4095)) units in
    let low = int_le-le (units_of s).lo (units_of s).hi
    (and_parts (int_le (negsuc 4095) (units_of s).lo) (int_le (units_of s).lo (units_of s).hi) x.0).1 in
    let high = int_le-le (units_of s).hi (pos 4095) x.1 in
    low_enough (units_of s).lo (units_of s).hi other low high
  where
    low_enough : (lo hi other : ℤ) → lo ≤ℤ hi → hi ≤ℤ pos 4095 → int_min lo other ≤ℤ pos 4095
    low_enough lo hi other h k = omega (arith, ints, clamps)

-- ---- channels

-- where the slot stands
record Stands (s : Slot) : Type 0 where
  pub some : (units_of s).lo ≤ℤ (units_of s).hi
  pub on_grid : negsuc 4095 ≤ℤ (units_of s).lo

stands : (s : Slot) → is_slot s ≡ true → Stands s
stands s h =
    let units = (and_parts (nat_le 1 s.m && nat_le s.m 512) (is_units (units_of s)) h).1 in
    let x = and_parts (int_le (negsuc 4095) (units_of s).lo && int_le (units_of s).lo (units_of s).hi)
    (int_le (units_of s).hi (pos 4095)) units in
    record {
      some = int_le-le (units_of s).lo (units_of s).hi
          (and_parts (int_le (negsuc 4095) (units_of s).lo) (int_le (units_of s).lo (units_of s).hi) x.0).1;
      on_grid = units_low (units_of s) units;
    }

low_height : (low : ℕ) (lo : ℤ) → negsuc 4095 ≤ℤ lo → low ≡ nat_abs (lo +ℤ pos 4096) → pos low ≡ lo +ℤ pos 4096
low_height low lo h e = omega (arith, ints)

end_unit : (end low m : ℕ) (n : ℤ) → pos low ≡ (n -ℤ pos m) +ℤ pos 4096 → end ≡ low + (m + m) →
    pos end ≡ ((n +ℤ pos m) -ℤ pos 1) +ℤ pos 4097
end_unit end low m n h e = omega (arith, ints)

below_greatest : (lo hi other : ℤ) → lo ≤ℤ hi → lo ≤ℤ int_max hi other
below_greatest lo hi other h = omega (arith, ints, clamps)

shared : (b x y : Bool) → b ≡ true → (x && y) ≡ (x && (b && y))
shared true x y e = refl
shared false x y e = cc

-- what is kept of a channel that has its batch
pub record IsAt (p : Path) (t : Turn) : Type 0 where
  pub slot : is_slot p.slot ≡ true
  pub end : t.end ≡ end_height (path_height p) p

-- whom it meets on a common fibre it waits for
pub meets-waits : (c d : Channel) (m : Mover) (t : Turn) → IsMover c.service c.target m → IsAt (old_path d) t →
    share_fibre (old_path c).route (old_path d).route ≡ true → is_met m t ≡ waits_for c d
meets-waits c d m t own at share =
    let here = stands (old_path c).slot own.slot in
    let there = stands (old_path d).slot at.slot in
    let a = (old_place c).units in
    let b = (old_place d).units in
    let h = (hull_of c).units in
    meets m.low m.reach t.end a.lo h.lo h.hi b.lo b.hi
    (record {
      low_is = low_height m.low a.lo here.on_grid own.low;
      reach_is = own.reach;
      end_is = end_unit t.end (path_height (old_path d)) (old_path d).slot.m (old_path d).slot.n
          (low_height (path_height (old_path d)) b.lo there.on_grid refl) at.end;
      some = there.some;
      on_grid = there.on_grid;
      under = below_greatest a.lo a.hi (target_place c).units.hi here.some;
    })
    ∙ shared (share_fibre (old_path c).route (old_path d).route) (int_lt b.hi a.lo) (int_le h.lo b.hi && int_le b.lo h.hi) share

-- the channel that it waits for stands below it
pub waits-below : (c d : Channel) (m k : Mover) → IsMover c.service c.target m → IsMover d.service d.target k →
    waits_for c d ≡ true → k.low < m.low
waits-below c d m k own other h =
    let here = stands (old_path c).slot own.slot in
    let there = stands (old_path d).slot other.slot in
    let a = (old_place c).units in
    let b = (old_place d).units in
    let below = of-int_lt b.hi a.lo (and_parts (lies_below b a) (collides (hull_of c) (old_place d)) h).0 in
    let low = low_height m.low a.lo here.on_grid own.low in
    let lower = low_height k.low b.lo there.on_grid other.low in
    let some = there.some in
    omega (arith, ints)
