-- What the rows gain on the fibres that are left, they gain on all.
use Rattle.std.proofs.Common.{◌≡◌, length, drop, List, Vec, Global}
use Rattle.plan_batches.specs.declared.turn.Turn.{Turn}
use Rattle.plan_batches.proofs.RowLaws.{GainsIn}
use Rattle.plan_batches.proofs.rows.enter.Given as goal

abbrev pub invariant-loop-fibre : goal.invariant-loop-fibre
invariant-loop-fibre l =
    (length l.rows.items ≡ 256)
    × ((new : List (Vec Turn Global)) → GainsIn l.rows.items new (drop l.fibre-index l.fibres) l.turn →
    GainsIn l.initial.rows.items new l.fibres l.turn)
