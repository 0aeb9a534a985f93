use Rattle.kept_rows.proofs.LeaveLaws.{goes_back, found_back, leaves_then, both_left}
use Rattle.kept_rows.proofs.laws.leaving_gives_a_making_up.Goals as goal

pub returns : goal.returns
returns c = λ setup state name s new legal found next. (
  goes_back setup state name s new legal found next,
  found_back setup state name s new legal found next,
  leaves_then setup state name s new legal found next,
  both_left setup state name s new legal found next,
)
