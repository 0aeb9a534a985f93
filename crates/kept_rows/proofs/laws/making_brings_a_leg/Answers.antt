use Rattle.kept_rows.proofs.EventLaws.{making}
use Rattle.kept_rows.proofs.laws.making_brings_a_leg.Goals as goal

pub returns : goal.returns
returns c = λ setup state name s class l found. making setup state name s found class l
