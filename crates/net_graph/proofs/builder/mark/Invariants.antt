use Rattle.std.proofs.Common.{◌≡◌, take}
use Rattle.net_graph.specs.Rows.{rows_with}
use Rattle.net_graph.proofs.builder.mark.Given as goal

abbrev pub invariant-loop-fibre : goal.invariant-loop-fibre
invariant-loop-fibre l = l.rows ≡ rows_with l.risk (take l.fibre-index l.fibres) 0 l.fn.rows
