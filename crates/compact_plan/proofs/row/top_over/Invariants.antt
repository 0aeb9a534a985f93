-- The greatest top of the fibres so far.
use Rattle.std.proofs.Common.{take}
use Rattle.compact_plan.specs.Tops.{IsTopOver}
use Rattle.compact_plan.proofs.row.top_over.Given as goal

abbrev pub invariant-loop-fibre : goal.invariant-loop-fibre
invariant-loop-fibre l = IsTopOver l.tops (take l.fibre-index l.fibres) l.floor l.top
