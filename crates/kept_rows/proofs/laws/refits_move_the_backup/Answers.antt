use Rattle.kept_rows.proofs.EventLaws.{refitting}
use Rattle.kept_rows.proofs.laws.refits_move_the_backup.Goals as goal

pub returns : goal.returns
returns c = λ setup state name s b n found shared e. refitting setup state name s found b n shared e
