use Rattle.kept_rows.proofs.EventLaws.{leaving}
use Rattle.kept_rows.proofs.laws.leaving_takes_a_leg.Goals as goal

pub returns : goal.returns
returns c = λ setup state name s found e. leaving setup state name s found e
