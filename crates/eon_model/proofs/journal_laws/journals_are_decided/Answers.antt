use Rattle.eon_model.proofs.JournalDecided.{journals-decided}
use Rattle.eon_model.proofs.journal_laws.journals_are_decided.Goals as goal

pub returns : goal.returns
returns c = journals-decided
