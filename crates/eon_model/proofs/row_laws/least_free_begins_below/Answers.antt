use Rattle.eon_model.proofs.CountLaws.{from_below}
use Rattle.eon_model.proofs.row_laws.least_free_begins_below.Goals as goal

pub returns : goal.returns
returns c = from_below
