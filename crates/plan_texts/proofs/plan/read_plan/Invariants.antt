-- What is left is read after the moves so far.
use Rattle.std.proofs.Common.{◌≡◌, ◌+◌, ◌-◌}
use Rattle.eon_model.specs.PlanReadings.{moves_from, plan_reading}
use Rattle.plan_texts.specs.Told.{moves_told}
use Rattle.plan_texts.proofs.plan.read_plan.Given as goal

abbrev pub invariant-loop-i : goal.invariant-loop-i
invariant-loop-i l =
    plan_reading l.bytes
    ≡ moves_from (l.i + 2) l.head.batches l.last (l.head.moves - l.i) (moves_told l.moves.items) l.lines.0 l.lines.1
