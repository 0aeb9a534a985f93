use Rattle.eon_model.proofs.JournalStands.{appending-either}
use Rattle.eon_model.proofs.journal_laws.appending_leaves_either.Goals as goal

pub returns : goal.returns
returns c = appending-either
