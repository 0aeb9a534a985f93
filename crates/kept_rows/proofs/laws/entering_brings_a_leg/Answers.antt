use Rattle.kept_rows.proofs.EventLaws.{entering}
use Rattle.kept_rows.proofs.laws.entering_brings_a_leg.Goals as goal

pub returns : goal.returns
returns c = entering
