use Rattle.kept_rows.proofs.StandLaws.{may_turn}
use Rattle.kept_rows.proofs.laws.events_may_turn.Goals as goal

pub returns : goal.returns
returns c = λ setup state e r ok legal follows s. may_turn setup state e legal follows r ok s
