use Rattle.eon_disk.proofs.DiskTells.{asked-noted}
use Rattle.eon_disk.proofs.real_file.FileDeckDeck.attach.Goals as goal

pub returns-in-Ok-clause-asked : goal.returns-in-Ok-clause-asked
returns-in-Ok-clause-asked g c =
    asked-noted c.args.self.now.names.names c.note.new.self.names c.as_bytes.result.now c.args.name.now c.args.create
    c.note.ensures c.as_bytes.ensures.value

pub returns-in-Err-clause-asked : goal.returns-in-Err-clause-asked
returns-in-Err-clause-asked g c =
    asked-noted c.args.self.now.names.names c.note.new.self.names c.as_bytes.result.now c.args.name.now c.args.create
    c.note.ensures c.as_bytes.ensures.value
