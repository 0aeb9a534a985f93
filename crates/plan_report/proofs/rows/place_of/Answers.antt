use Rattle.std.proofs.Common.{arith}
use Rattle.std.proofs.lemmas.Int.{ints, clamps}
use Rattle.plan_report.proofs.rows.place_of.Goals as goal

pub returns : goal.returns
returns c = omega (arith, ints, clamps)
