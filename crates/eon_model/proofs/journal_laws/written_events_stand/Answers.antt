use Rattle.eon_model.proofs.JournalStands.{written-stand}
use Rattle.eon_model.proofs.journal_laws.written_events_stand.Goals as goal

pub returns : goal.returns
returns c = written-stand
