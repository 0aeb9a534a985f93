use Rattle.kept_rows.proofs.StandLaws.{tells_rows}
use Rattle.kept_rows.proofs.laws.standing_tells_rows.Goals as goal

pub returns : goal.returns
returns c = tells_rows
