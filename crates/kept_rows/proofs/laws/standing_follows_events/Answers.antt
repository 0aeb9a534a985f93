use Rattle.kept_rows.proofs.StandLaws.{stands_after}
use Rattle.kept_rows.proofs.laws.standing_follows_events.Goals as goal

pub returns : goal.returns
returns c = λ setup state e before after legal follows s h. stands_after setup state e legal follows before after s h
