use Rattle.eon_model.proofs.CountLaws.{no_sharers}
use Rattle.eon_model.proofs.row_laws.counts_of_none_tell.Goals as goal

pub returns : goal.returns
returns c = no_sharers
