use Rattle.eon_model.proofs.CountLaws.{no_other_sharers}
use Rattle.eon_model.proofs.row_laws.counts_of_no_other_tell.Goals as goal

pub returns : goal.returns
returns c = no_other_sharers
