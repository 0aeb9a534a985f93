-- What settles clear of a block is at its down target, or its up target.
use Rattle.std.proofs.Common.{◌≡◌, sym, ◌∙◌, ap, subst, ℕ, ◌+◌, ◌-◌, ◌≤◌, ℤ, pos, ◌+ℤ◌, ◌-ℤ◌, ◌≤ℤ◌, inl, inr, Bool, true, ◌||◌, not, List, get_or, Some, arith}
use Rattle.std.specs.Prelude.{slice_get, int_lt}
use Rattle.std.specs.Int.{int_min, int_max}
use Rattle.std.proofs.lemmas.Bool.{and_parts}
use Rattle.std.proofs.lemmas.Option.{slice_get_within}
use Rattle.std.proofs.lemmas.Int.{ints, clamps}
use Rattle.eon_model.specs.Grid.{Units, units_of, hull, lies_in, is_band}
use Rattle.eon_model.specs.Services.{Path, Service, State}
use Rattle.eon_model.specs.Legal.{Setup, Legal}
use Rattle.eon_model.specs.Places.{target_in, AtRest, Places, own_places, units_at}
use Rattle.eon_model.specs.Room.{leeways_of, is_low, is_high, is_beside, is_under, is_above, goes_down, goes_up, AreDownTargets, AreUpTargets}
use Rattle.eon_model.proofs.GridLaws.{lies_in-facts, facts-lies_in}
use Rattle.eon_model.proofs.OrderLaws.{IsIn}
use Rattle.eon_model.proofs.ListLaws.{slice_get_in}
use Rattle.eon_model.proofs.Members.{any-by, any-member}
use Rattle.eon_model.proofs.NameLaws.{names_equal}
use Rattle.eon_model.proofs.SlotSteps.{int_lt-of, of-int_lt}
use Rattle.eon_model.proofs.DescentLaws.{IsLowered, stays_over, stays_under}
use Rattle.eon_model.proofs.LeewayLaws.{leeway_at}
use Rattle.eon_model.proofs.TouchLaws.{IsRaised, CanGo-raised, CanGo-lowered}
use Rattle.eon_model.proofs.ClearedLaws.{IsLetDown, IsLetUp, IsTop-cleared, IsBottom-cleared}
use Rattle.eon_model.proofs.SweptRoom.{down-of_top, up-of_bottom}
use Rattle.make_room.specs.declared.heights.Side.TheVariants.{Floor, Ceiling}
use Rattle.make_room.specs.Heights.{begin_of, end_of, centre_from}
use Rattle.make_room.specs.Sweeps.{SettlesLeast, SettlesClear, centres_from}
use Rattle.make_room.proofs.SideLaws.{OnGrid, before-ends, ends-before, ends-right, begins-not_past, not_past-begins, centres_long, place-at, wide-units}
use Rattle.make_room.proofs.StandFacts.{wide, own_grid, common_too}
use Rattle.make_room.proofs.ExtremeFacts.{InOrder}
use Rattle.make_room.proofs.LeastFacts.{least_order}
use Rattle.make_room.proofs.ExtremesAre.{lowered, raised}
use Rattle.make_room.proofs.ClearFacts.{clear_order, not_back, past_block, within_bound, clear_held}

-- ---- numbers

hull_low : (o t d qlo qhi : ℤ) (m : ℕ) → qlo ≤ℤ int_min (o -ℤ pos m) (t -ℤ pos m) →
    int_max ((o +ℤ pos m) -ℤ pos 1) ((t +ℤ pos m) -ℤ pos 1) ≤ℤ qhi → t ≤ℤ d → d ≤ℤ o →
    (qlo ≤ℤ int_min (o -ℤ pos m) (d -ℤ pos m))
    × (int_max ((o +ℤ pos m) -ℤ pos 1) ((d +ℤ pos m) -ℤ pos 1) ≤ℤ qhi)
hull_low o t d qlo qhi m a b c e = (omega (arith, ints, clamps), omega (arith, ints, clamps))

hull_high : (o t d qlo qhi : ℤ) (m : ℕ) → qlo ≤ℤ int_min (o -ℤ pos m) (t -ℤ pos m) →
    int_max ((o +ℤ pos m) -ℤ pos 1) ((t +ℤ pos m) -ℤ pos 1) ≤ℤ qhi → o ≤ℤ d → d ≤ℤ t →
    (qlo ≤ℤ int_min (o -ℤ pos m) (d -ℤ pos m))
    × (int_max ((o +ℤ pos m) -ℤ pos 1) ((d +ℤ pos m) -ℤ pos 1) ≤ℤ qhi)
hull_high o t d qlo qhi m a b c e = (omega (arith, ints, clamps), omega (arith, ints, clamps))

centre_of_top : (o t : ℤ) (m : ℕ) → ((o +ℤ pos m) -ℤ pos 1) ≤ℤ ((t +ℤ pos m) -ℤ pos 1) → o ≤ℤ t
centre_of_top o t m h = omega (arith, ints)

centre_of_low : (o t : ℤ) (m : ℕ) → (o -ℤ pos m) ≤ℤ (t -ℤ pos m) → o ≤ℤ t
centre_of_low o t m h = omega (arith, ints)

top_of_centre : (o t : ℤ) (m : ℕ) → o ≤ℤ t → ((o +ℤ pos m) -ℤ pos 1) ≤ℤ ((t +ℤ pos m) -ℤ pos 1)
top_of_centre o t m h = omega (arith, ints)

low_of_centre : (o t : ℤ) (m : ℕ) → o ≤ℤ t → (o -ℤ pos m) ≤ℤ (t -ℤ pos m)
low_of_centre o t m h = omega (arith, ints)

one_centre : (a b : ℤ) → a ≤ℤ b → b ≤ℤ a → a ≡ b
one_centre a b h k = omega (arith, ints)

from_top : (t m : ℕ) → OnGrid (units_of (record { n = centre_from Floor m t; m = m })) →
    8192 - (t + (m + m)) ≡ begin_of Ceiling (units_of (record { n = centre_from Floor m t; m = m }))
from_top t m g = let h = g.high in omega (arith, ints)

from_floor : (t m : ℕ) → OnGrid (units_of (record { n = centre_from Ceiling m t; m = m })) →
    8192 - (t + (m + m)) ≡ begin_of Floor (units_of (record { n = centre_from Ceiling m t; m = m }))
from_floor t m g = let h = g.low in omega (arith, ints)

module _ (setup : Setup) (state : State) (rest : AtRest state) (legal : Legal setup state)
    (banded : is_band setup.band ≡ true) (block : Path) (grid : OnGrid (units_of block.slot)) (m_is : 1 ≤ block.slot.m)
    (lts hts ts : List ℕ) (goes : ℕ → Service → Bool) (sl : SettlesLeast Floor setup.band state lts)
    (sh : SettlesLeast Ceiling setup.band state hts) where
  abbrev low : Places
  low = target_in state (centres_from Floor state lts)

  abbrev high : Places
  high = target_in state (centres_from Ceiling state hts)

  low_way : IsLowered setup state (target_in state (centres_from Floor state lts))
  low_way = lowered setup state rest legal banded lts sl

  high_way : IsRaised setup state rest legal (target_in state (centres_from Ceiling state hts))
  high_way = raised setup state rest legal banded hts sh

  order_low : InOrder Floor state (target_in state (centres_from Floor state lts))
  order_low = least_order setup state rest legal banded Floor lts sl

  order_high : InOrder Ceiling state (target_in state (centres_from Ceiling state hts))
  order_high = least_order setup state rest legal banded Ceiling hts sh

  units_wide : (p : Places) (s : Service) → IsIn s state → (units_at p s).lo ≤ℤ (units_at p s).hi
  units_wide p s i = wide-units (p s) s.leg.work.slot.m (wide setup state rest legal banded s i)

  block_wide : (units_of block.slot).lo ≤ℤ (units_of block.slot).hi
  block_wide = wide-units block.slot.n block.slot.m m_is

  member : (i : ℕ) (s : Service) → slice_get state i ≡ Some s → IsIn s state
  member i s e = (slice_get_in state i s e).1

  -- ---- downwards

  module _ (sc : SettlesClear Ceiling state (units_of block.slot) goes lts ts)
      (goes_are : (i : ℕ) (s : Service) → slice_get state i ≡ Some s →
      goes i s ≡ goes_down block (leeway_at low high s)) where
    abbrev d : Places
    d = target_in state (centres_from Ceiling state ts)

    abbrev does : Service → Bool
    does s = goes_down block (leeway_at low high s)

    order_q : InOrder Ceiling state (target_in state (centres_from Floor state lts))
    order_q = record {
      grid = order_low.grid;
      before = λ o s j i other common before.
          before-ends Ceiling (units_at low o) (units_at low s) (units_wide low o j) (units_wide low s i) (order_low.grid o j)
          (order_low.grid s i) (low_way.works s o i j (names_equal.symm s.name o.name ∙ other)
          (common_too o.leg.work s.leg.work common) before);
    }

    caps_at : (i : ℕ) (s : Service) → slice_get state i ≡ Some s →
        get_or sc.caps i 0 ≡ begin_of Ceiling (units_at (target_in state (centres_from Floor state lts)) s)
    caps_at i s e =
        let place = place-at Floor setup state lts legal sl.settles.places i s e in
        let g = subst (λ (n : ℤ). OnGrid (units_of (record { n = n; m = s.leg.work.slot.m }))) place
        (order_low.grid s (member i s e)) in
        (sc.caps_are.each i s (slice_get_within state i s e) e).0 ∙ from_top (get_or lts i 0) s.leg.work.slot.m g
        ∙ ap (λ (n : ℤ). begin_of Ceiling (units_of (record { n = n; m = s.leg.work.slot.m }))) (sym place)

    own_in : (s : Service) → IsIn s state → begin_of Ceiling (units_at own_places s) ≤ begin_of Ceiling (units_at low s)
    own_in s i = not_past-begins Ceiling (units_at own_places s) (units_at low s)
        (own_grid setup state rest legal banded s i) (order_low.grid s i)
        (top_of_centre (low s) (own_places s) s.leg.work.slot.m (low_way.down s i))

    block_in : (s : Service) → IsIn s state → does s ≡ true →
        end_of Ceiling (units_of block.slot) ≤ begin_of Ceiling (units_at low s)
    block_in s i e =
        let a = and_parts (is_low block (leeway_at low high s)) (int_lt (own_places s) block.slot.n
        || not (is_high block (leeway_at low high s))) e in
        let b = and_parts (is_beside block s) (is_under block s (low s)) a.0 in
        before-ends Ceiling (units_of block.slot) (units_at low s) block_wide (units_wide low s i) grid (order_low.grid s i)
        (of-int_lt (units_at low s).hi (units_of block.slot).lo b.1)

    order : InOrder Ceiling state (target_in state (centres_from Ceiling state ts))
    order = clear_order setup state rest legal banded Ceiling (units_of block.slot) goes lts ts sc does goes_are low order_q
        caps_at own_in block_in

    goes_low : (s : Service) → IsIn s state → d s ≤ℤ own_places s
    goes_low s i = centre_of_top (d s) (own_places s) s.leg.work.slot.m
        (begins-not_past Ceiling (units_at own_places s) (units_at d s) (own_grid setup state rest legal banded s i)
        (order.grid s i) (not_back setup state rest legal banded Ceiling (units_of block.slot) goes lts ts sc does goes_are low
        order_q caps_at own_in block_in s i))

    over_low : (s : Service) → IsIn s state → low s ≤ℤ d s
    over_low s i = centre_of_top (low s) (d s) s.leg.work.slot.m
        (begins-not_past Ceiling (units_at d s) (units_at low s) (order.grid s i) (order_low.grid s i)
        (within_bound setup state rest legal banded Ceiling (units_of block.slot) goes lts ts sc does goes_are low
        order_q caps_at own_in block_in s i))

    lowered_so : IsLowered setup state (target_in state (centres_from Ceiling state ts))
    lowered_so = record {
      in_part = λ s i.
          let f = any-member (λ (q : Units). lies_in q (hull (units_at own_places s) (units_at low s))) setup.band
          (low_way.in_part s i) in
          let inside = lies_in-facts f.0 (hull (units_at own_places s) (units_at low s)) f.1.1 in
          let two = hull_low (own_places s) (low s) (d s) f.0.lo f.0.hi s.leg.work.slot.m inside.0 inside.1 (over_low s i)
          (goes_low s i) in
          any-by (λ (q : Units). lies_in q (hull (units_at own_places s) (units_at d s))) setup.band f.0 f.1.0
          (facts-lies_in f.0 (hull (units_at own_places s) (units_at d s)) two.0 two.1);
      down = goes_low;
      works = λ s t i j other common below.
          ends-before Ceiling (units_at d t) (units_at d s) (units_wide d t j) (units_wide d s i) (order.grid t j) (order.grid s i)
          (order.before t s j i (names_equal.symm t.name s.name ∙ other) (common_too s.leg.work t.leg.work common) below);
      backs = λ s t i j other b e common below.
          stays_over (low s) (d s) (units_of b.slot).hi s.leg.work.slot.m (over_low s i)
          (low_way.backs s t i j other b e common below);
    }

    under : (s : Service) → IsIn s state → does s ≡ true → is_under block s (d s) ≡ true
    under s i e = int_lt-of (units_at d s).hi (units_of block.slot).lo
        (ends-before Ceiling (units_of block.slot) (units_at d s) block_wide (units_wide d s i) grid (order.grid s i)
        (past_block setup state rest legal banded Ceiling (units_of block.slot) goes lts ts sc does goes_are low
        order_q caps_at own_in block_in s i e))

    even : (a b : ℕ) → a ≡ b → b ≤ a
    even a b e = omega (arith, e)

    lets : (s : Service) → IsIn s state → IsLetDown block low high state (target_in state (centres_from Ceiling state ts)) s
    lets s i = elim (clear_held setup state rest legal banded Ceiling (units_of block.slot) goes lts ts sc does goes_are low
        order_q caps_at own_in block_in s i) [
          | inl own ↦ inl (one_centre (d s) (own_places s) (goes_low s i)
              (centre_of_top (own_places s) (d s) s.leg.work.slot.m
              (begins-not_past Ceiling (units_at d s) (units_at own_places s) (order.grid s i)
              (own_grid setup state rest legal banded s i) (even _ _ (sym own)))))
          | inr more ↦ elim more [
            | inl edge ↦ inr (inl (
              edge.0,
              ends-right Ceiling (units_of block.slot) (units_at d s) block_wide (units_wide d s i)
                  grid (order.grid s i) edge.1,
            ))
            | inr channel ↦
                let o = channel.0 in
                let c = channel.1 in
                inr (inr (
                  o,
                  record {
                    under = record {
                      first = i;
                      second = c.there;
                      differ = names_equal.symm s.name o.name ∙ c.other;
                      common = common_too o.leg.work s.leg.work c.common;
                      below = c.before;
                    };
                    at = ends-right Ceiling (units_at d o) (units_at d s) (units_wide d o c.there) (units_wide d s i)
                        (order.grid o c.there) (order.grid s i) c.ends;
                  },
                ))
          ]
        ]

    pub down-are : AreDownTargets setup state block (leeways_of state (centres_from Floor state lts) (centres_from Ceiling state hts))
        (centres_from Ceiling state ts)
    down-are = down-of_top setup state block (centres_from Floor state lts) (centres_from Ceiling state hts)
        (centres_from Ceiling state ts) legal rest (centres_long Floor state lts sl.settles.places)
        (centres_long Ceiling state hts sh.settles.places) (centres_long Ceiling state ts sc.settles.places)
        (IsTop-cleared setup state rest legal block low high (target_in state (centres_from Ceiling state ts))
        (CanGo-lowered setup state rest legal (target_in state (centres_from Ceiling state ts)) lowered_so) goes_low under lets)

  -- ---- upwards

  module _ (su : SettlesClear Floor state (units_of block.slot) goes hts ts)
      (up_are : (i : ℕ) (s : Service) → slice_get state i ≡ Some s →
      goes i s ≡ goes_up block (leeway_at low high s)) where
    abbrev u : Places
    u = target_in state (centres_from Floor state ts)

    abbrev rises_so : Service → Bool
    rises_so s = goes_up block (leeway_at low high s)

    order_r : InOrder Floor state (target_in state (centres_from Ceiling state hts))
    order_r = record {
      grid = order_high.grid;
      before = λ o s j i other common before.
          before-ends Floor (units_at high o) (units_at high s) (units_wide high o j) (units_wide high s i) (order_high.grid o j)
          (order_high.grid s i) (high_way.works o s j i other common before);
    }

    caps_up : (i : ℕ) (s : Service) → slice_get state i ≡ Some s →
        get_or su.caps i 0 ≡ begin_of Floor (units_at (target_in state (centres_from Ceiling state hts)) s)
    caps_up i s e =
        let place = place-at Ceiling setup state hts legal sh.settles.places i s e in
        let g = subst (λ (n : ℤ). OnGrid (units_of (record { n = n; m = s.leg.work.slot.m }))) place
        (order_high.grid s (member i s e)) in
        (su.caps_are.each i s (slice_get_within state i s e) e).0 ∙ from_floor (get_or hts i 0) s.leg.work.slot.m g
        ∙ ap (λ (n : ℤ). begin_of Floor (units_of (record { n = n; m = s.leg.work.slot.m }))) (sym place)

    own_up : (s : Service) → IsIn s state → begin_of Floor (units_at own_places s) ≤ begin_of Floor (units_at high s)
    own_up s i = not_past-begins Floor (units_at own_places s) (units_at high s)
        (own_grid setup state rest legal banded s i) (order_high.grid s i)
        (low_of_centre (own_places s) (high s) s.leg.work.slot.m (high_way.up s i))

    block_up : (s : Service) → IsIn s state → rises_so s ≡ true →
        end_of Floor (units_of block.slot) ≤ begin_of Floor (units_at high s)
    block_up s i e =
        let a = and_parts (is_high block (leeway_at low high s)) (not (goes_down block (leeway_at low high s))) e in
        let b = and_parts (is_beside block s) (is_above block s (high s)) a.0 in
        before-ends Floor (units_of block.slot) (units_at high s) block_wide (units_wide high s i) grid (order_high.grid s i)
        (of-int_lt (units_of block.slot).hi (units_at high s).lo b.1)

    order_u : InOrder Floor state (target_in state (centres_from Floor state ts))
    order_u = clear_order setup state rest legal banded Floor (units_of block.slot) goes hts ts su rises_so up_are high order_r
        caps_up own_up block_up

    goes_high : (s : Service) → IsIn s state → own_places s ≤ℤ u s
    goes_high s i = centre_of_low (own_places s) (u s) s.leg.work.slot.m
        (begins-not_past Floor (units_at own_places s) (units_at u s) (own_grid setup state rest legal banded s i)
        (order_u.grid s i) (not_back setup state rest legal banded Floor (units_of block.slot) goes hts ts su rises_so up_are
        high order_r caps_up own_up block_up s i))

    under_high : (s : Service) → IsIn s state → u s ≤ℤ high s
    under_high s i = centre_of_low (u s) (high s) s.leg.work.slot.m
        (begins-not_past Floor (units_at u s) (units_at high s) (order_u.grid s i) (order_high.grid s i)
        (within_bound setup state rest legal banded Floor (units_of block.slot) goes hts ts su rises_so up_are high
        order_r caps_up own_up block_up s i))

    raised_so : IsRaised setup state rest legal (target_in state (centres_from Floor state ts))
    raised_so = record {
      in_part = λ s i.
          let f = any-member (λ (q : Units). lies_in q (hull (units_at own_places s) (units_at high s))) setup.band
          (high_way.in_part s i) in
          let inside = lies_in-facts f.0 (hull (units_at own_places s) (units_at high s)) f.1.1 in
          let two = hull_high (own_places s) (high s) (u s) f.0.lo f.0.hi s.leg.work.slot.m inside.0 inside.1 (goes_high s i)
          (under_high s i) in
          any-by (λ (q : Units). lies_in q (hull (units_at own_places s) (units_at u s))) setup.band f.0 f.1.0
          (facts-lies_in f.0 (hull (units_at own_places s) (units_at u s)) two.0 two.1);
      up = goes_high;
      works = λ s t i j other common below.
          ends-before Floor (units_at u s) (units_at u t) (units_wide u s i) (units_wide u t j) (order_u.grid s i)
          (order_u.grid t j) (order_u.before s t i j other common below);
      backs = λ s t i j other b e common above.
          stays_under (u s) (high s) (units_of b.slot).lo s.leg.work.slot.m (under_high s i)
          (high_way.backs s t i j other b e common above);
    }

    above : (s : Service) → IsIn s state → rises_so s ≡ true → is_above block s (u s) ≡ true
    above s i e = int_lt-of (units_of block.slot).hi (units_at u s).lo
        (ends-before Floor (units_of block.slot) (units_at u s) block_wide (units_wide u s i) grid (order_u.grid s i)
        (past_block setup state rest legal banded Floor (units_of block.slot) goes hts ts su rises_so up_are high
        order_r caps_up own_up block_up s i e))

    even_up : (a b : ℕ) → a ≡ b → a ≤ b
    even_up a b e = omega (arith, e)

    lets_up : (s : Service) → IsIn s state → IsLetUp block low high state (target_in state (centres_from Floor state ts)) s
    lets_up s i = elim (clear_held setup state rest legal banded Floor (units_of block.slot) goes hts ts su rises_so up_are high
        order_r caps_up own_up block_up s i) [
          | inl own ↦ inl (one_centre (u s) (own_places s)
              (centre_of_low (u s) (own_places s) s.leg.work.slot.m
              (begins-not_past Floor (units_at u s) (units_at own_places s) (order_u.grid s i)
              (own_grid setup state rest legal banded s i) (even_up _ _ own))) (goes_high s i))
          | inr more ↦ elim more [
            | inl edge ↦ inr (inl (
              edge.0,
              ends-right Floor (units_of block.slot) (units_at u s) block_wide (units_wide u s i)
                  grid (order_u.grid s i) edge.1,
            ))
            | inr channel ↦
                let o = channel.0 in
                let c = channel.1 in
                inr (inr (
                  o,
                  record {
                    under = record {
                      first = c.there;
                      second = i;
                      differ = c.other;
                      common = c.common;
                      below = c.before;
                    };
                    at = ends-right Floor (units_at u o) (units_at u s) (units_wide u o c.there) (units_wide u s i)
                        (order_u.grid o c.there) (order_u.grid s i) c.ends;
                  },
                ))
          ]
        ]

    pub up-are : AreUpTargets setup state block (leeways_of state (centres_from Floor state lts) (centres_from Ceiling state hts))
        (centres_from Floor state ts)
    up-are = up-of_bottom setup state block (centres_from Floor state lts) (centres_from Ceiling state hts)
        (centres_from Floor state ts) legal rest (centres_long Floor state lts sl.settles.places)
        (centres_long Ceiling state hts sh.settles.places) (centres_long Floor state ts su.settles.places)
        (IsBottom-cleared setup state rest legal block low high (target_in state (centres_from Floor state ts))
        (CanGo-raised setup state rest legal (target_in state (centres_from Floor state ts)) raised_so) goes_high above lets_up)
