use Rattle.plan_journal.proofs.PieceReads.{reads-gate}
use Rattle.plan_journal.proofs.walk.walk_record.Goals as goal

pub returns-in-Ok-clause-told : goal.returns-in-Ok-clause-told
returns-in-Ok-clause-told g c =
    reads-gate (g.D.Disk.now c.args.disk.now) c.read_at.new.buf c.args.place.at c.in-Ok.count c.args.place.limit
    c.args.place.number c.args.place.within c.read_gate.result c.in-Ok.ensures.bytes c.read_gate.ensures
