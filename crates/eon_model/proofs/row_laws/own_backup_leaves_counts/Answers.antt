use Rattle.eon_model.proofs.CountLaws.{own_taken_out}
use Rattle.eon_model.proofs.row_laws.own_backup_leaves_counts.Goals as goal

pub returns : goal.returns
returns c = own_taken_out
