-- Units that each lie in a part of a band lie in one part together, since a unit of no part stands between two parts.
use Rattle.std.proofs.Common.{◌≡◌, refl, sym, subst, ℤ, pos, ◌+ℤ◌, ◌≤ℤ◌, ◌<ℤ◌, inl, inr, true, false, ◌||◌, [], ◌∷◌, arith}
use Rattle.std.specs.Prelude.{int_le}
use Rattle.std.specs.List.{list_all}
use Rattle.std.proofs.lemmas.Int.{ints}
use Rattle.std.proofs.lemmas.Bool.{and_parts, cases_Bool, both_ways, false_from_ne_true}
use Rattle.eon_model.specs.Grid.{Units, Band, has_unit, lies_in, lies_in_band, is_units, parts_ascend}
use Rattle.eon_model.proofs.GridLaws.{int_le-le, lies_in-facts, facts-lies_in}
use Rattle.eon_model.proofs.OrderLaws.{IsIn}
use Rattle.eon_model.proofs.Members.{list_all-at, any-member, any-by}
use Rattle.eon_model.proofs.SlotSteps.{int_le-false}
use Rattle.eon_model.proofs.BandLaws.{BandParts, some_unit}
use Rattle.spectrum_map.proofs.SpanLaws.{unit-facts, facts-unit}
use Rattle.block_fit.specs.Blocks.{is_in_parts}

not_unit : (a : Units) (u : ℤ) → (a.lo ≤ℤ u → u ≤ℤ a.hi → ⊥) → has_unit a u ≡ false
not_unit a u never = false_from_ne_true (has_unit a u) λ h. let f = unit-facts a u h in never f.0 f.1

below_next : (u end lo hi : ℤ) → u ≤ℤ (end +ℤ pos 1) → (end +ℤ pos 2) ≤ℤ lo → lo ≤ℤ hi →
    (lo ≤ℤ u → ⊥) × (u ≤ℤ (hi +ℤ pos 1))
below_next u end lo hi h gap some = (λ p. omega (arith, ints), omega (arith, ints))

-- up to the unit above a part there is none of a later part
above : (part : Units) (band : Band) → list_all is_units (part ∷ band) ≡ true → parts_ascend (part ∷ band) ≡ true →
    (u : ℤ) → u ≤ℤ (part.hi +ℤ pos 1) → is_in_parts band u ≡ false
above part [] units ascend u h = refl
above part (next ∷ band) units ascend u h =
    let more = (and_parts (is_units part) (list_all is_units (next ∷ band)) units).1 in
    let apart = and_parts (int_le (part.hi +ℤ pos 2) next.lo) (parts_ascend (next ∷ band)) ascend in
    let some = some_unit next (and_parts (is_units next) (list_all is_units band) more).0 in
    let under = below_next u part.hi next.lo next.hi h (int_le-le _ _ apart.0) some in
    (λ i. not_unit next u (λ p q. under.0 p) i || above next band more apart.1 u under.1 i)

rest_parts : (part : Units) (band : Band) → BandParts (part ∷ band) → BandParts band
rest_parts part band b = record {
  units = (and_parts (is_units part) (list_all is_units band) b.units).1;
  ascend = by band b.ascend;
}
  where
    by : (parts : Band) → parts_ascend (part ∷ parts) ≡ true → parts_ascend parts ≡ true
    by [] a = refl
    by (next ∷ parts) a = (and_parts (int_le (part.hi +ℤ pos 2) next.lo) (parts_ascend (next ∷ parts)) a).1

in_some : (band : Band) (p : Units) (u : ℤ) → IsIn p band → p.lo ≤ℤ u → u ≤ℤ p.hi → is_in_parts band u ≡ true
in_some band p u i low high = any-by (λ (part : Units). has_unit part u) band p i (facts-unit p u low high)

-- the unit above a part is in no part
gap_above : (band : Band) → BandParts band → (p : Units) → IsIn p band → is_in_parts band (p.hi +ℤ pos 1) ≡ false
gap_above [] b p i = absurd i
gap_above (part ∷ band) b p i = elim i [
  | inl e ↦ subst (λ (q : Units). is_in_parts (part ∷ band) (q.hi +ℤ pos 1) ≡ false) (sym e)
      (λ k. not_unit part (part.hi +ℤ pos 1) (past part.hi) k
      || above part band b.units b.ascend (part.hi +ℤ pos 1) (itself (part.hi +ℤ pos 1)) k)
  | inr more ↦
      let rest = rest_parts part band b in
      let some = some_unit p (list_all-at is_units band p rest.units more) in
      (λ k. not_unit part (p.hi +ℤ pos 1) (λ low high. both_ways (is_in_parts band p.hi)
      (above part band b.units b.ascend p.hi (under p.hi part.hi high))
      (in_some band p p.hi more some (itself p.hi))) k || gap_above band rest p more k)
]
  where
    itself : (z : ℤ) → z ≤ℤ z
    itself z = omega (arith, ints)

    past : (hi : ℤ) → part.lo ≤ℤ (hi +ℤ pos 1) → (hi +ℤ pos 1) ≤ℤ hi → ⊥
    past hi low high = omega (arith, ints)

    under : (a b : ℤ) → (a +ℤ pos 1) ≤ℤ b → a ≤ℤ (b +ℤ pos 1)
    under a b h = omega (arith, ints)

module _ (band : Band) (a : Units) (some : a.lo ≤ℤ a.hi) where
  pub one_part : BandParts band → ((u : ℤ) → a.lo ≤ℤ u → u ≤ℤ a.hi → is_in_parts band u ≡ true) →
      lies_in_band band a ≡ true
  one_part b all =
      let found = any-member (λ (part : Units). has_unit part a.lo) band (all a.lo (itself a.lo) some) in
      let p = found.0 in
      let at = unit-facts p a.lo found.1.1 in
      elim (cases_Bool (int_le a.hi p.hi)) [
        | inl inside ↦ any-by (λ (part : Units). lies_in part a) band p found.1.0
            (facts-lies_in p a at.0 (int_le-le a.hi p.hi inside))
        | inr past ↦ absurd (both_ways (is_in_parts band (p.hi +ℤ pos 1)) (gap_above band b p found.1.0)
            (all (p.hi +ℤ pos 1) (on a.lo p.hi at.1) (up p.hi a.hi (int_le-false a.hi p.hi past))))
      ]
    where
      itself : (z : ℤ) → z ≤ℤ z
      itself z = omega (arith, ints)

      on : (x y : ℤ) → x ≤ℤ y → x ≤ℤ (y +ℤ pos 1)
      on x y h = omega (arith, ints)

      up : (x y : ℤ) → x <ℤ y → (x +ℤ pos 1) ≤ℤ y
      up x y h = omega (arith, ints)

  pub part_units : lies_in_band band a ≡ true → (u : ℤ) → a.lo ≤ℤ u → u ≤ℤ a.hi → is_in_parts band u ≡ true
  part_units h u low high =
      let found = any-member (λ (part : Units). lies_in part a) band h in
      let p = found.0 in
      let w = lies_in-facts p a found.1.1 in
      let w0 = w.0 in
      let w1 = w.1 in
      in_some band p u found.1.0 (omega (arith, ints)) (omega (arith, ints))
