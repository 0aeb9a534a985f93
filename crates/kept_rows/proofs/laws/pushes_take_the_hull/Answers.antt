use Rattle.kept_rows.proofs.EventLaws.{pushing}
use Rattle.kept_rows.proofs.laws.pushes_take_the_hull.Goals as goal

pub returns : goal.returns
returns c = λ setup state name s n found. pushing setup state name s found n
