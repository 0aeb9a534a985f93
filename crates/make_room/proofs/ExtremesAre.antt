-- What settles at its least heights is at its lowest, or its highest place.
use Rattle.std.proofs.Common.{◌≡◌, ◌∙◌, ap, subst, ℕ, ℤ, pos, ◌+ℤ◌, ◌-ℤ◌, ◌≤ℤ◌, inl, inr, true, false, List, Some, arith}
use Rattle.std.specs.Int.{int_min, int_max}
use Rattle.std.specs.Ordering.{int_eq}
use Rattle.std.proofs.lemmas.Bool.{cases_Bool}
use Rattle.std.proofs.lemmas.Int.{ints, clamps}
use Rattle.eon_model.specs.Grid.{Units, units_of, hull, lies_in, is_band}
use Rattle.eon_model.specs.Names.{same_name}
use Rattle.eon_model.specs.Route.{share_fibre}
use Rattle.eon_model.specs.Services.{Path, Service, State}
use Rattle.eon_model.specs.Legal.{Setup, Legal}
use Rattle.eon_model.specs.Drift.{AreLowest}
use Rattle.eon_model.specs.Places.{target_in, AtRest, Places, own_places, units_at}
use Rattle.eon_model.specs.Room.{AreHighest}
use Rattle.eon_model.proofs.GridLaws.{lies_in-facts, facts-lies_in}
use Rattle.eon_model.proofs.BandLaws.{band-parts, floor-held}
use Rattle.eon_model.proofs.OrderLaws.{IsIn}
use Rattle.eon_model.proofs.Members.{any-by}
use Rattle.eon_model.proofs.NameLaws.{names_equal}
use Rattle.eon_model.proofs.SlotSteps.{int_eq-of}
use Rattle.eon_model.proofs.PlacedLaws.{names_differ, one_of_name}
use Rattle.eon_model.proofs.OwnBackup.{own_backup}
use Rattle.eon_model.proofs.TargetLists.{map-target}
use Rattle.eon_model.proofs.SweptLaws.{HasRest}
use Rattle.eon_model.proofs.DescentLaws.{IsLowered, IsWay-lowered}
use Rattle.eon_model.proofs.LowestLaws.{AreLowest-swept}
use Rattle.eon_model.proofs.TouchLaws.{IsRaised, CanGo-raised, CanGo-lowered}
use Rattle.eon_model.proofs.GoingLaws.{CanGo}
use Rattle.eon_model.proofs.ClearedLaws.{IsHeldUp, IsTop-raised}
use Rattle.eon_model.proofs.SweptRoom.{highest-of_top}
use Rattle.make_room.specs.declared.heights.Side.TheVariants.{Floor, Ceiling}
use Rattle.make_room.specs.Heights.{begin_of}
use Rattle.make_room.specs.Sweeps.{SettlesLeast, centres_from}
use Rattle.make_room.proofs.SideLaws.{OnGrid, before-ends, ends-before, ends-right, centres_long, wide-units}
use Rattle.make_room.proofs.StandFacts.{wide, own_grid, own_wide, part_facts, back_grid, back_wide, common_too}
use Rattle.make_room.proofs.ExtremeFacts.{InOrder}
use Rattle.make_room.proofs.LeastFacts.{part_of, least_order, not_past_own, in_its_part, backs_before, held_by}

-- ---- numbers

hull_up : (o t qlo qhi : ℤ) (m : ℕ) → qlo ≤ℤ (o -ℤ pos m) → ((o +ℤ pos m) -ℤ pos 1) ≤ℤ ((t +ℤ pos m) -ℤ pos 1) →
    ((t +ℤ pos m) -ℤ pos 1) ≤ℤ qhi →
    (qlo ≤ℤ int_min (o -ℤ pos m) (t -ℤ pos m))
    × (int_max ((o +ℤ pos m) -ℤ pos 1) ((t +ℤ pos m) -ℤ pos 1) ≤ℤ qhi)
hull_up o t qlo qhi m a b c = (omega (arith, ints, clamps), omega (arith, ints, clamps))

hull_down : (o t qlo qhi : ℤ) (m : ℕ) → ((o +ℤ pos m) -ℤ pos 1) ≤ℤ qhi → (t -ℤ pos m) ≤ℤ (o -ℤ pos m) →
    qlo ≤ℤ (t -ℤ pos m) →
    (qlo ≤ℤ int_min (o -ℤ pos m) (t -ℤ pos m))
    × (int_max ((o +ℤ pos m) -ℤ pos 1) ((t +ℤ pos m) -ℤ pos 1) ≤ℤ qhi)
hull_down o t qlo qhi m a b c = (omega (arith, ints, clamps), omega (arith, ints, clamps))

centre_up : (o t : ℤ) (m : ℕ) → ((o +ℤ pos m) -ℤ pos 1) ≤ℤ ((t +ℤ pos m) -ℤ pos 1) → o ≤ℤ t
centre_up o t m h = omega (arith, ints)

centre_down : (o t : ℤ) (m : ℕ) → (t -ℤ pos m) ≤ℤ (o -ℤ pos m) → t ≤ℤ o
centre_down o t m h = omega (arith, ints)

same_top : (a b : Units) → OnGrid a → OnGrid b → begin_of Ceiling a ≡ begin_of Ceiling b → b.hi ≡ a.hi
same_top a b g h e = let x = g.high in let y = h.high in omega (arith, ints)

same_floor : (a b : Units) → OnGrid a → OnGrid b → begin_of Floor a ≡ begin_of Floor b → b.lo ≡ a.lo
same_floor a b g h e = let x = g.low in let y = h.low in omega (arith, ints)

module _ (setup : Setup) (state : State) (rest : AtRest state) (legal : Legal setup state)
    (banded : is_band setup.band ≡ true) (ts : List ℕ) where
  own_apart : (s o : Service) (b : Path) → IsIn s state → IsIn o state → o.leg.back ≡ Some b →
      share_fibre s.leg.work.route b.route ≡ true → same_name s.name o.name ≡ false
  own_apart s o b i j e common = elim (cases_Bool (same_name s.name o.name)) [
    | inl same ↦
        let is : s ≡ o = one_of_name setup state legal s o i j same in
        absurd (own_backup setup state rest legal s i b (ap (λ (x : Service). x.leg.back) is ∙ e) common)
    | inr other ↦ other
  ]

  -- ---- the highest places

  module _ (sl : SettlesLeast Ceiling setup.band state ts) where
    abbrev h : Places
    h = target_in state (centres_from Ceiling state ts)

    abbrev order : InOrder Ceiling state (target_in state (centres_from Ceiling state ts))
    order = least_order setup state rest legal banded Ceiling ts sl

    h_wide : (s : Service) → IsIn s state → (units_at h s).lo ≤ℤ (units_at h s).hi
    h_wide s i = wide-units (h s) s.leg.work.slot.m (wide setup state rest legal banded s i)

    pub rises : (s : Service) → IsIn s state → own_places s ≤ℤ h s
    rises s i = centre_up (own_places s) (h s) s.leg.work.slot.m (not_past_own setup state rest legal banded Ceiling ts sl s i)

    pub raised : IsRaised setup state rest legal (target_in state (centres_from Ceiling state ts))
    raised = record {
      in_part = λ s i.
          let q = part_of setup state rest legal banded Ceiling ts sl s i in
          let inside = lies_in-facts q.0 (units_at own_places s) q.2 in
          let two = hull_up (own_places s) (h s) q.0.lo q.0.hi s.leg.work.slot.m inside.0
          (not_past_own setup state rest legal banded Ceiling ts sl s i)
          (in_its_part setup state rest legal banded Ceiling ts sl s i) in
          any-by (λ (part : Units). lies_in part (hull (units_at own_places s) (units_at h s))) setup.band q.0 q.1
          (facts-lies_in q.0 (hull (units_at own_places s) (units_at h s)) two.0 two.1);
      up = rises;
      works = λ s t i j other common below.
          ends-before Ceiling (units_at h t) (units_at h s) (h_wide t j) (h_wide s i) (order.grid t j) (order.grid s i)
          (order.before t s j i (names_equal.symm t.name s.name ∙ other) (common_too s.leg.work t.leg.work common) below);
      backs = λ s t i j other b e common above.
          ends-before Ceiling (units_of b.slot) (units_at h s) (back_wide setup state rest legal banded t b j e) (h_wide s i)
          (back_grid setup state rest legal banded t b j e) (order.grid s i)
          (backs_before setup state rest legal banded Ceiling ts sl s t b i j e (common_too s.leg.work b common)
          (before-ends Ceiling (units_of b.slot) (units_at own_places s) (back_wide setup state rest legal banded t b j e)
          (own_wide setup state rest legal banded s i) (back_grid setup state rest legal banded t b j e)
          (own_grid setup state rest legal banded s i) above));
    }

    holds : (s : Service) → IsIn s state → IsHeldUp setup state (target_in state (centres_from Ceiling state ts)) s
    holds s i = elim (held_by setup state rest legal banded Ceiling ts sl s i) [
      | inl base ↦
          let q = part_of setup state rest legal banded Ceiling ts sl s i in
          inl (any-by (λ (part : Units). int_eq (units_at h s).hi part.hi) setup.band q.0 q.1
          (int_eq-of _ _ (same_top q.0 (units_at h s) (part_facts setup state rest legal banded q.0 q.1).1 (order.grid s i) base)))
      | inr more ↦ elim more [
        | inl channel ↦
            let o = channel.0 in
            let c = channel.1 in
            inr (inl (
              o,
              record {
                under = record {
                  first = i;
                  second = c.there;
                  differ = names_equal.symm s.name o.name ∙ c.other;
                  common = common_too o.leg.work s.leg.work c.common;
                  below = c.before;
                };
                at = ends-right Ceiling (units_at h o) (units_at h s) (h_wide o c.there) (h_wide s i) (order.grid o c.there)
                    (order.grid s i) c.ends;
              },
            ))
        | inr backup ↦
            let o = backup.0 in
            let b = backup.1.0 in
            let c = backup.1.1 in
            let common = common_too b s.leg.work c.common in
            inr (inr (
              o,
              (
                b,
                record {
                  first = i;
                  second = c.there;
                  differ = own_apart s o b i c.there c.is common;
                  is = c.is;
                  common = common;
                  below = ends-before Ceiling (units_of b.slot) (units_at own_places s)
                      (back_wide setup state rest legal banded o b c.there c.is) (own_wide setup state rest legal banded s i)
                      (back_grid setup state rest legal banded o b c.there c.is) (own_grid setup state rest legal banded s i) c.before;
                  at = ends-right Ceiling (units_of b.slot) (units_at h s) (back_wide setup state rest legal banded o b c.there c.is)
                      (h_wide s i) (back_grid setup state rest legal banded o b c.there c.is) (order.grid s i) c.ends;
                },
              ),
            ))
      ]
    ]

    pub CanGo-highest : CanGo setup state (target_in state (centres_from Ceiling state ts))
    CanGo-highest = CanGo-raised setup state rest legal (target_in state (centres_from Ceiling state ts)) raised

    pub highest-are : AreHighest setup state (centres_from Ceiling state ts)
    highest-are = highest-of_top setup state (centres_from Ceiling state ts) legal rest
        (centres_long Ceiling state ts (sl.settles.places))
        (IsTop-raised setup state rest legal (target_in state (centres_from Ceiling state ts)) banded CanGo-highest rises holds)

  -- ---- the lowest places

  module _ (sl : SettlesLeast Floor setup.band state ts) where
    abbrev l : Places
    l = target_in state (centres_from Floor state ts)

    abbrev order_up : InOrder Floor state (target_in state (centres_from Floor state ts))
    order_up = least_order setup state rest legal banded Floor ts sl

    l_wide : (s : Service) → IsIn s state → (units_at l s).lo ≤ℤ (units_at l s).hi
    l_wide s i = wide-units (l s) s.leg.work.slot.m (wide setup state rest legal banded s i)

    pub lowered : IsLowered setup state (target_in state (centres_from Floor state ts))
    lowered = record {
      in_part = λ s i.
          let q = part_of setup state rest legal banded Floor ts sl s i in
          let inside = lies_in-facts q.0 (units_at own_places s) q.2 in
          let two = hull_down (own_places s) (l s) q.0.lo q.0.hi s.leg.work.slot.m inside.1
          (not_past_own setup state rest legal banded Floor ts sl s i)
          (in_its_part setup state rest legal banded Floor ts sl s i) in
          any-by (λ (part : Units). lies_in part (hull (units_at own_places s) (units_at l s))) setup.band q.0 q.1
          (facts-lies_in q.0 (hull (units_at own_places s) (units_at l s)) two.0 two.1);
      down = λ s i. centre_down (own_places s) (l s) s.leg.work.slot.m (not_past_own setup state rest legal banded Floor ts sl s i);
      works = λ s t i j other common below.
          ends-before Floor (units_at l s) (units_at l t) (l_wide s i) (l_wide t j) (order_up.grid s i) (order_up.grid t j)
          (order_up.before s t i j other common below);
      backs = λ s t i j other b e common below.
          ends-before Floor (units_of b.slot) (units_at l s) (back_wide setup state rest legal banded t b j e) (l_wide s i)
          (back_grid setup state rest legal banded t b j e) (order_up.grid s i)
          (backs_before setup state rest legal banded Floor ts sl s t b i j e (common_too s.leg.work b common)
          (before-ends Floor (units_of b.slot) (units_at own_places s) (back_wide setup state rest legal banded t b j e)
          (own_wide setup state rest legal banded s i) (back_grid setup state rest legal banded t b j e)
          (own_grid setup state rest legal banded s i) below));
    }

    rests : (s : Service) → IsIn s state → HasRest setup state (target_in state (centres_from Floor state ts)) s
    rests s i = elim (held_by setup state rest legal banded Floor ts sl s i) [
      | inl base ↦
          let q = part_of setup state rest legal banded Floor ts sl s i in
          inl (floor-held setup.band (band-parts setup.band banded) (l s) s.leg.work.slot.m (wide setup state rest legal banded s i)
          (any-by (λ (part : Units). int_eq (units_at l s).lo part.lo) setup.band q.0 q.1
          (int_eq-of _ _ (same_floor q.0 (units_at l s) (part_facts setup state rest legal banded q.0 q.1).1 (order_up.grid s i) base))))
      | inr more ↦ elim more [
        | inl channel ↦
            let o = channel.0 in
            let c = channel.1 in
            inr (inl (
              o,
              record {
                there = c.there;
                other = c.other;
                common = c.common;
                below = c.before;
                touches = ends-right Floor (units_at l o) (units_at l s) (l_wide o c.there) (l_wide s i) (order_up.grid o c.there)
                    (order_up.grid s i) c.ends;
              },
            ))
        | inr backup ↦
            let o = backup.0 in
            let b = backup.1.0 in
            let c = backup.1.1 in
            let common = common_too b s.leg.work c.common in
            inr (inr (
              o,
              (
                b,
                record {
                  there = c.there;
                  other = own_apart s o b i c.there c.is common;
                  is = c.is;
                  common = common;
                  touches = ends-right Floor (units_of b.slot) (units_at l s) (back_wide setup state rest legal banded o b c.there c.is)
                      (l_wide s i) (back_grid setup state rest legal banded o b c.there c.is) (order_up.grid s i) c.ends;
                },
              ),
            ))
      ]
    ]

    pub CanGo-lowest : CanGo setup state (target_in state (centres_from Floor state ts))
    CanGo-lowest = CanGo-lowered setup state rest legal (target_in state (centres_from Floor state ts)) lowered

    pub lowest-are : AreLowest setup state (centres_from Floor state ts)
    lowest-are = subst (λ (ns : List ℤ). AreLowest setup state ns)
        (map-target state (centres_from Floor state ts) (names_differ setup state legal) (centres_long Floor state ts (sl.settles.places)))
        (AreLowest-swept setup state (target_in state (centres_from Floor state ts)) rest legal (record {
          way = IsWay-lowered setup state (target_in state (centres_from Floor state ts)) lowered;
          rests = rests;
        }))
