-- What it means to be a slot, a range of units or a band.
use Rattle.std.proofs.Common.{◌≡◌, ◌∙◌, ap, ◌≤◌, ℤ, pos, negsuc, ◌+ℤ◌, ◌-ℤ◌, ◌≤ℤ◌, true, ◌&&◌, arith}
use Rattle.std.specs.Prelude.{int_le, nat_le}
use Rattle.std.proofs.lemmas.Bool.{and_parts, and_from, leb-true}
use Rattle.std.proofs.lemmas.Int.{ints, clamps}
use Rattle.eon_model.specs.Grid.{Slot, Units, units_of, hull, is_slot, is_units}
use Rattle.eon_model.proofs.GridLaws.{int_le-le, le-int_le}

pub record UnitsInRange (u : Units) : Type 0 where
  pub low : negsuc 4095 ≤ℤ u.lo
  pub order : u.lo ≤ℤ u.hi
  pub high : u.hi ≤ℤ pos 4095

pub units-facts : (u : Units) → is_units u ≡ true → UnitsInRange u
units-facts u h =
    let outer = and_parts (int_le (negsuc 4095) u.lo && int_le u.lo u.hi) (int_le u.hi (pos 4095)) h in
    let inner = and_parts (int_le (negsuc 4095) u.lo) (int_le u.lo u.hi) outer.0 in
    record {
      low = int_le-le (negsuc 4095) u.lo inner.0;
      order = int_le-le u.lo u.hi inner.1;
      high = int_le-le u.hi (pos 4095) outer.1;
    }

pub facts-units : (u : Units) → UnitsInRange u → is_units u ≡ true
facts-units u f =
    and_from _ _ (and_from _ _ (le-int_le (negsuc 4095) u.lo f.low) (le-int_le u.lo u.hi f.order))
    (le-int_le u.hi (pos 4095) f.high)

pub record SlotInRange (s : Slot) : Type 0 where
  pub some : 1 ≤ s.m
  pub width : s.m ≤ 512
  pub low : negsuc 4095 ≤ℤ (s.n -ℤ pos s.m)
  pub high : ((s.n +ℤ pos s.m) -ℤ pos 1) ≤ℤ pos 4095

pub slot-facts : (s : Slot) → is_slot s ≡ true → SlotInRange s
slot-facts s h =
    let outer = and_parts (nat_le 1 s.m && nat_le s.m 512) (is_units (units_of s)) h in
    let inner = and_parts (nat_le 1 s.m) (nat_le s.m 512) outer.0 in
    let units = units-facts (units_of s) outer.1 in
    record {
      some = leb-true 1 s.m inner.0;
      width = leb-true s.m 512 inner.1;
      low = units.low;
      high = units.high;
    }

pub slot-units : (s : Slot) → is_slot s ≡ true → is_units (units_of s) ≡ true
slot-units s h = (and_parts (nat_le 1 s.m && nat_le s.m 512) (is_units (units_of s)) h).1

-- the units of a slot, from their ends
pub units_made : (s : Slot) (lo hi : ℤ) → is_slot s ≡ true → lo ≡ (s.n -ℤ pos s.m) →
    hi ≡ ((s.n +ℤ pos s.m) -ℤ pos 1) →
    let u : Units = record { lo = lo; hi = hi } in (is_units u ≡ true) × (u ≡ units_of s)
units_made s lo hi h low high =
    let same = ap (λ (p : ℤ × ℤ). let u : Units = record { lo = p.0; hi = p.1 } in u) (λ i. (low i, high i)) in
    (ap is_units same ∙ slot-units s h, same)

-- a hull of ranges is a range
pub hull-units : (a b : Units) → is_units a ≡ true → is_units b ≡ true → is_units (hull a b) ≡ true
hull-units a b p q =
    let f = units-facts a p in
    let g = units-facts b q in
    facts-units (hull a b) (record {
      low = omega (arith, ints, clamps);
      order = omega (arith, ints, clamps);
      high = omega (arith, ints, clamps);
    })
