use Rattle.std.proofs.Common.{◌≡◌, false, take}
use Rattle.net_graph.specs.Rows.{some_full_row}
use Rattle.net_graph.proofs.builder.some_full.Given as goal

abbrev pub invariant-loop-fibre : goal.invariant-loop-fibre
invariant-loop-fibre l = some_full_row l.rows (take l.fibre-index l.fibres) ≡ false
