-- The fibres so far are raised.
use Rattle.std.proofs.Common.{take}
use Rattle.compact_plan.specs.Tops.{Raises}
use Rattle.compact_plan.proofs.row.raise.Given as goal

abbrev pub invariant-loop-fibre : goal.invariant-loop-fibre
invariant-loop-fibre l = Raises l.fn.tops l.tops (take l.fibre-index l.fibres) l.height
