-- What is found so far, and then on the fibres that are left, is what is found on all.
use Rattle.std.proofs.Common.{◌≡◌, drop, None}
use Rattle.std.specs.Prelude.{fold}
use Rattle.plan_batches.specs.Awaited.{awaited}
use Rattle.plan_batches.specs.Rows.{turns_on}
use Rattle.plan_batches.proofs.rows.awaited_on.Given as goal

abbrev pub invariant-loop-fibre : goal.invariant-loop-fibre
invariant-loop-fibre l =
    fold (awaited l.mover) l.found (turns_on l.rows (drop l.fibre-index l.fibres))
    ≡ fold (awaited l.mover) None (turns_on l.rows l.fibres)
