use Rattle.kept_rows.proofs.EventLaws.{finishing, going_back}
use Rattle.kept_rows.proofs.laws.drifts_end_in_a_slot.Goals as goal

pub returns : goal.returns
returns c = λ setup state name s found e. (
  finishing setup state name s found e,
  going_back setup state name s found e,
)
