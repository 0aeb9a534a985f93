use Rattle.journal_record.proofs.ReadLaws.{are_bytes, read-range, read-bytes, read-fault}
use Rattle.journal_record.proofs.reading.read_event.Goals as goal

pub returns-clause-range : goal.returns-clause-range
returns-clause-range c =
    read-range c.args.bytes.now c.event_in.result (are_bytes c.args.bytes.now c.type_inv.bytes) c.event_in.ensures

pub returns-clause-bytes : goal.returns-clause-bytes
returns-clause-bytes c =
    read-bytes c.args.bytes.now c.event_in.result (are_bytes c.args.bytes.now c.type_inv.bytes) c.event_in.ensures

pub returns-clause-fault : goal.returns-clause-fault
returns-clause-fault c =
    read-fault c.args.bytes.now c.event_in.result (are_bytes c.args.bytes.now c.type_inv.bytes) c.event_in.ensures
