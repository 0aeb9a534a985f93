-- Channels that move, by heights above the grid's lowest unit.
use Rattle.std.specs.Prelude.{◌≡◌, ℤ, pos, ◌+ℤ◌, IsTrue}
use Rattle.std.specs.Int.{int_max}
use Rattle.eon_model.specs.Grid.{units_of, moved_to, hull, is_slot}
use Rattle.eon_model.specs.Services.{Service}
use Rattle.compact_plan.specs.Blocks.{path_height}
use Rattle.compact_plan.specs.Tops.{end_height}
use Rattle.plan_batches.specs.declared.mover.Mover.{Mover}

-- what is kept of the service's channel, which moves to this centre
pub record IsMover (s : Service) (to : ℤ) (m : Mover) : Type 0 where
  pub slot : IsTrue (is_slot s.leg.work.slot)
  pub low : m.low ≡ path_height s.leg.work
  pub end : m.end ≡ end_height m.low s.leg.work
  pub reach : pos m.reach
      ≡ int_max (pos 0) ((hull (units_of s.leg.work.slot) (units_of (moved_to s.leg.work.slot to))).lo +ℤ pos 4096)
