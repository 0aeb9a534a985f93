-- Channels and backups of a legal state at rest, as units in the grid.
use Rattle.std.proofs.Common.{◌≡◌, ◌∙◌, ℕ, ◌+◌, ◌≤◌, ◌≤ℤ◌, inl, inr, true, false, ◌&&◌, Some, arith}
use Rattle.std.specs.Prelude.{nat_le}
use Rattle.std.proofs.lemmas.Bool.{and_parts, leb-true}
use Rattle.std.proofs.lemmas.Int.{ints}
use Rattle.eon_model.specs.Grid.{Units, units_of, lies_in, lies_in_band, is_units, is_band}
use Rattle.eon_model.specs.Names.{same_name}
use Rattle.eon_model.specs.Route.{is_route, share_fibre}
use Rattle.eon_model.specs.Services.{Path, Service, State}
use Rattle.eon_model.specs.Legal.{Setup, Legal, need_of, is_exactly}
use Rattle.eon_model.specs.Places.{AtRest, own_places, units_at}
use Rattle.eon_model.proofs.GridLaws.{lies_in-facts}
use Rattle.eon_model.proofs.BandLaws.{BandParts, band-parts}
use Rattle.eon_model.proofs.OrderLaws.{IsIn}
use Rattle.eon_model.proofs.Members.{list_all-at, any-member}
use Rattle.eon_model.proofs.NameLaws.{share_number_comm}
use Rattle.eon_model.proofs.SlotSteps.{beside}
use Rattle.eon_model.proofs.StandLaws.{CanStand, own_can}
use Rattle.eon_model.proofs.PosedLaws.{FitsIn-own}
use Rattle.eon_model.proofs.BackupLaws.{backup-path}
use Rattle.eon_model.proofs.DriftLaws.{AreWide-legal}
use Rattle.make_room.specs.declared.heights.Side.{Side}
use Rattle.make_room.specs.Heights.{begin_of, end_of}
use Rattle.make_room.proofs.SideLaws.{OnGrid, Before, before-ends, one_before, width-at, wide-units, units_facts}

pub common_too : (p q : Path) → share_fibre p.route q.route ≡ true → share_fibre q.route p.route ≡ true
common_too p q h = share_number_comm q.route.fibres p.route.fibres ∙ h

module _ (setup : Setup) (state : State) (rest : AtRest state) (legal : Legal setup state)
    (banded : is_band setup.band ≡ true) where
  own : CanStand setup state own_places
  own = own_can setup state rest legal

  pub wide : (s : Service) → IsIn s state → 1 ≤ s.leg.work.slot.m
  wide = AreWide-legal setup state rest legal

  parts : BandParts setup.band
  parts = band-parts setup.band banded

  pub part_facts : (part : Units) → IsIn part setup.band → (part.lo ≤ℤ part.hi) × OnGrid part
  part_facts part i = units_facts part (list_all-at is_units setup.band part parts.units i)

  pub on_grid : (a : Units) → lies_in_band setup.band a ≡ true → OnGrid a
  on_grid a h =
      let f = any-member (λ (part : Units). lies_in part a) setup.band h in
      let g = (part_facts f.0 f.1.0).1 in
      let low = g.low in
      let high = g.high in
      let inside = lies_in-facts f.0 a f.1.1 in
      let i0 = inside.0 in let i1 = inside.1 in
      record { low = omega (arith, ints); high = omega (arith, ints) }

  pub own_grid : (s : Service) → IsIn s state → OnGrid (units_at own_places s)
  own_grid s i = on_grid (units_at own_places s) (own.in_band s i)

  pub own_wide : (s : Service) → IsIn s state → (units_at own_places s).lo ≤ℤ (units_at own_places s).hi
  own_wide s i = wide-units (own_places s) s.leg.work.slot.m (wide s i)

  back_is : (s : Service) (b : Path) → IsIn s state → s.leg.back ≡ Some b →
      (lies_in_band setup.band (units_of b.slot) ≡ true) × (1 ≤ b.slot.m)
  back_is s b i e =
      let path = and_parts (is_route setup.network s.src s.dst b.route && nat_le 1 b.slot.m
      && is_exactly (need_of setup s.rate b.route.km) b.slot.m) (lies_in_band setup.band (units_of b.slot))
      (backup-path setup s s.leg b (FitsIn-own setup state rest legal s i).spare e) in
      let width = and_parts (is_route setup.network s.src s.dst b.route && nat_le 1 b.slot.m)
      (is_exactly (need_of setup s.rate b.route.km) b.slot.m) path.0 in
      (path.1, leb-true 1 b.slot.m (and_parts (is_route setup.network s.src s.dst b.route) (nat_le 1 b.slot.m) width.0).1)

  pub back_grid : (s : Service) (b : Path) → IsIn s state → s.leg.back ≡ Some b → OnGrid (units_of b.slot)
  back_grid s b i e = on_grid (units_of b.slot) (back_is s b i e).0

  pub back_wide : (s : Service) (b : Path) → IsIn s state → s.leg.back ≡ Some b →
      (units_of b.slot).lo ≤ℤ (units_of b.slot).hi
  back_wide s b i e = wide-units b.slot.n b.slot.m (back_is s b i e).1

  module _ (from : Side) where
    abbrev begins : Service → ℕ
    begins s = begin_of from (units_at own_places s)

    abbrev ends : Service → ℕ
    ends s = end_of from (units_at own_places s)

    pub own_width : (s : Service) → IsIn s state →
        end_of from (units_at own_places s) ≡ begin_of from (units_at own_places s) + (s.leg.work.slot.m + s.leg.work.slot.m)
    own_width s i = width-at from (own_places s) s.leg.work.slot.m (wide s i) (own_grid s i)

    not_after : (a b c d m : ℕ) → 1 ≤ m → d ≡ b + (m + m) → d ≤ a → a ≤ b → ⊥
    not_after a b c d m w e h l = omega (arith, w, e, h, l)

    -- of two on a common fibre, the one that does not begin later comes before
    pub comes_before : (o s : Service) → IsIn o state → IsIn s state → same_name o.name s.name ≡ false →
        share_fibre o.leg.work.route s.leg.work.route ≡ true →
        begin_of from (units_at own_places o) ≤ begin_of from (units_at own_places s) →
        Before from (units_at own_places o) (units_at own_places s)
    comes_before o s j i other common low =
        elim (one_before from (units_at own_places o) (units_at own_places s)
        (beside (units_at own_places o) (units_at own_places s) (own.works o s j i other common))) [
          | inl first ↦ first
          | inr second ↦ absurd (not_after (begins o) (begins s) 0 (ends s) s.leg.work.slot.m (wide s i) (own_width s i)
              (before-ends from (units_at own_places s) (units_at own_places o) (own_wide s i) (own_wide o j)
              (own_grid s i) (own_grid o j) second) low)
        ]

    pub ends_before_it : (o s : Service) → IsIn o state → IsIn s state →
        Before from (units_at own_places o) (units_at own_places s) →
        end_of from (units_at own_places o) ≤ begin_of from (units_at own_places s)
    ends_before_it o s j i before = before-ends from (units_at own_places o) (units_at own_places s) (own_wide o j)
        (own_wide s i) (own_grid o j) (own_grid s i) before
