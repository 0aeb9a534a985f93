-- The blocks so far are taken up.
use Rattle.std.proofs.Common.{◌≡◌, ◌<◌, length}
use Rattle.std.specs.Prelude.{All}
use Rattle.compact_plan.proofs.SweepSteps.{SweptFor}
use Rattle.compact_plan.proofs.sweep.take_all.Given as goal

abbrev pub invariant-loop-block : goal.invariant-loop-block
invariant-loop-block l =
    (length l.tops ≡ 256) × (length l.lows ≡ length l.services.list) × All (λ h. h < 8192) l.lows
    × SweptFor l.band l.services.list l.blocks l.block-index l.tops l.lows
