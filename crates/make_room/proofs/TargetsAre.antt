-- What the four sweeps leave are the places and targets of room.
use Rattle.std.proofs.Common.{◌≡◌, sym, ◌∙◌, ap, ℕ, ◌+◌, ◌≤◌, ℤ, true, ◌&&◌, ◌||◌, not, List, get_or, Some, arith}
use Rattle.std.specs.Prelude.{slice_get, nat_le, int_lt}
use Rattle.std.proofs.lemmas.Bool.{and_parts, leb-true, le-leb}
use Rattle.std.proofs.lemmas.Int.{ints}
use Rattle.eon_model.specs.Grid.{Slot, units_of, is_slot, is_units, is_band}
use Rattle.eon_model.specs.Route.{share_fibre}
use Rattle.eon_model.specs.Services.{Path, Service, State}
use Rattle.eon_model.specs.Legal.{Setup, Legal}
use Rattle.eon_model.specs.Drift.{AreLowest}
use Rattle.eon_model.specs.Places.{target_in, AtRest, Places, own_places}
use Rattle.eon_model.specs.Room.{is_low, is_high, is_under, is_above, goes_down, goes_up, AreHighest, leeways_of, AreDownTargets, AreUpTargets}
use Rattle.eon_model.proofs.SetLists.{same_test}
use Rattle.eon_model.proofs.SlotSteps.{int_lt-of, of-int_lt}
use Rattle.eon_model.proofs.LeewayLaws.{leeway_at}
use Rattle.make_room.specs.declared.heights.Side.TheVariants.{Floor, Ceiling}
use Rattle.make_room.specs.Heights.{begin_of, centre_from}
use Rattle.make_room.specs.Sweeps.{SettlesLeast, SettlesClear, centres_from}
use Rattle.make_room.specs.Sides.{ends_so, goes_so}
use Rattle.make_room.proofs.SideLaws.{OnGrid, place-at, units_facts}
use Rattle.make_room.proofs.ExtremesAre.{lowest-are, highest-are}
use Rattle.make_room.proofs.ClearAre.{down-are, up-are}

-- units of a slot lie in the grid
pub slot_grid : (s : Slot) → is_slot s ≡ true → (1 ≤ s.m) × OnGrid (units_of s)
slot_grid s h =
    let a = and_parts (nat_le 1 s.m && nat_le s.m 512) (is_units (units_of s)) h in
    let b = and_parts (nat_le 1 s.m) (nat_le s.m 512) a.0 in
    (leb-true 1 s.m b.0, (units_facts (units_of s) a.1).1)

module _ (block : Path) (grid : OnGrid (units_of block.slot)) where
  pub below_is : (a m : ℕ) → nat_le (a + (m + m)) (begin_of Floor (units_of block.slot))
      ≡ int_lt (units_of (record { n = centre_from Floor m a; m = m })).hi (units_of block.slot).lo
  below_is a m = same_test _ _
      (λ h. let l = leb-true (a + (m + m)) (begin_of Floor (units_of block.slot)) h in let g = grid.low in
      int_lt-of (units_of (record { n = centre_from Floor m a; m = m })).hi (units_of block.slot).lo (omega (arith, ints)))
      (λ h. let l = of-int_lt (units_of (record { n = centre_from Floor m a; m = m })).hi (units_of block.slot).lo h in
      let g = grid.low in le-leb (a + (m + m)) (begin_of Floor (units_of block.slot)) (omega (arith, ints)))

  pub above_is : (a m : ℕ) → nat_le (a + (m + m)) (begin_of Ceiling (units_of block.slot))
      ≡ int_lt (units_of block.slot).hi (units_of (record { n = centre_from Ceiling m a; m = m })).lo
  above_is a m = same_test _ _
      (λ h. let l = leb-true (a + (m + m)) (begin_of Ceiling (units_of block.slot)) h in let g = grid.high in
      int_lt-of (units_of block.slot).hi (units_of (record { n = centre_from Ceiling m a; m = m })).lo (omega (arith, ints)))
      (λ h. let l = of-int_lt (units_of block.slot).hi (units_of (record { n = centre_from Ceiling m a; m = m })).lo h in
      let g = grid.high in le-leb (a + (m + m)) (begin_of Ceiling (units_of block.slot)) (omega (arith, ints)))

module _ (setup : Setup) (state : State) (rest : AtRest state) (legal : Legal setup state)
    (banded : is_band setup.band ≡ true) (block : Path) (slot : is_slot block.slot ≡ true)
    (lts hts dts uts : List ℕ) (sl : SettlesLeast Floor setup.band state lts)
    (sh : SettlesLeast Ceiling setup.band state hts) where
  grid : OnGrid (units_of block.slot)
  grid = (slot_grid block.slot slot).1

  m_is : 1 ≤ block.slot.m
  m_is = (slot_grid block.slot slot).0

  abbrev low : Places
  low = target_in state (centres_from Floor state lts)

  abbrev high : Places
  high = target_in state (centres_from Ceiling state hts)

  low_is : (i : ℕ) (s : Service) → slice_get state i ≡ Some s →
      ends_so Floor block s.leg.work (get_or lts i 0) ≡ is_low block (leeway_at low high s)
  low_is i s e =
      ap (λ b. share_fibre s.leg.work.route block.route && b) (below_is block grid (get_or lts i 0) s.leg.work.slot.m)
      ∙ ap (λ (n : ℤ). share_fibre s.leg.work.route block.route && is_under block s n)
      (sym (place-at Floor setup state lts legal sl.settles.places i s e))

  high_is : (i : ℕ) (s : Service) → slice_get state i ≡ Some s →
      ends_so Ceiling block s.leg.work (get_or hts i 0) ≡ is_high block (leeway_at low high s)
  high_is i s e =
      ap (λ b. share_fibre s.leg.work.route block.route && b) (above_is block grid (get_or hts i 0) s.leg.work.slot.m)
      ∙ ap (λ (n : ℤ). share_fibre s.leg.work.route block.route && is_above block s n)
      (sym (place-at Ceiling setup state hts legal sh.settles.places i s e))

  down_is : (i : ℕ) (s : Service) → slice_get state i ≡ Some s →
      goes_so Ceiling block lts hts i s ≡ goes_down block (leeway_at low high s)
  down_is i s e = λ j. low_is i s e j && (int_lt (own_places s) block.slot.n || not (high_is i s e j))

  up_is : (i : ℕ) (s : Service) → slice_get state i ≡ Some s →
      goes_so Floor block lts hts i s ≡ goes_up block (leeway_at low high s)
  up_is i s e = λ j. high_is i s e j && not (down_is i s e j)

  pub lows_are : AreLowest setup state (centres_from Floor state lts)
  lows_are = lowest-are setup state rest legal banded lts sl

  pub highs_are : AreHighest setup state (centres_from Ceiling state hts)
  highs_are = highest-are setup state rest legal banded hts sh

  pub downs_are : SettlesClear Ceiling state (units_of block.slot) (goes_so Ceiling block lts hts) lts dts →
      AreDownTargets setup state block (leeways_of state (centres_from Floor state lts) (centres_from Ceiling state hts))
      (centres_from Ceiling state dts)
  downs_are sc = down-are setup state rest legal banded block grid m_is lts hts dts (goes_so Ceiling block lts hts) sl sh sc
      down_is

  pub ups_are : SettlesClear Floor state (units_of block.slot) (goes_so Floor block lts hts) hts uts →
      AreUpTargets setup state block (leeways_of state (centres_from Floor state lts) (centres_from Ceiling state hts))
      (centres_from Floor state uts)
  ups_are su = up-are setup state rest legal banded block grid m_is lts hts uts (goes_so Floor block lts hts) sl sh su up_is
