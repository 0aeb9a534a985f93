use Rattle.kept_rows.proofs.EventLaws.{finishing_making, going_back_making}
use Rattle.kept_rows.proofs.laws.makings_end_with_one_leg.Goals as goal

pub returns : goal.returns
returns c = λ setup state name s new found e. (
  finishing_making setup state name s found new e,
  going_back_making setup state name s found new e,
)
