use Rattle.std.proofs.Common.{◌≡◌}
use denote.Builtin.{unit}
use Rattle.journal_record.specs.Told.{event_told}
use Rattle.change_log.proofs.KeepSteps.{keeps-it, doubts-it, keeps-not, on-full, on-fault}
use Rattle.change_log.proofs.journal_log.JournalLog.keep.Goals as goal

pub returns-in-Ok-clause-kept : goal.returns-in-Ok-clause-kept
returns-in-Ok-clause-kept g c =
    let was = c.args.self.now in
    let is = c.append.new.self in
    let k = c.in-Ok.ensures in
    keeps-it g.D.Disk.now g.D.Disk.images g.D.Disk.clock g.D.Disk.images_since g.D.Disk.faults g.D.Disk.asked
    was.disk.ghost_name is.disk.ghost_name was.disk.now is.disk.now was.place is.place (event_told c.args.event.now)
    k.same_reference k.limit k.at k.number k.bytes k.ready k.moments k.counts k.asked

pub returns-in-Err-Full-clause-kept : goal.returns-in-Err-Full-clause-kept
returns-in-Err-Full-clause-kept g c =
    let was = c.args.self.now in
    let is = c.append.new.self in
    let k = c.in-Err-Full.ensures in
    keeps-not g.D.Disk.now g.D.Disk.images g.D.Disk.clock g.D.Disk.images_since g.D.Disk.faults g.D.Disk.asked
    was.disk.ghost_name is.disk.ghost_name was.disk.now is.disk.now was.place is.place g.met.D.Disk.only_now
    k.same_reference
    (on-full unit.Denot c.in-Err-Full.field-0 c.in-Err-Full.need c.in-Err-Full.left (is.disk.now ≡ was.disk.now)
    c.in-Err-Full.field-0-is k.untouched) k.stays

pub returns-in-Err-Disk-clause-kept : goal.returns-in-Err-Disk-clause-kept
returns-in-Err-Disk-clause-kept g c =
    let was = c.args.self.now in
    let is = c.append.new.self in
    let k = c.in-Err-Disk.ensures in
    doubts-it g.D.Disk.now g.D.Disk.images g.D.Disk.clock g.D.Disk.images_since g.D.Disk.faults g.D.Disk.asked
    was.disk.ghost_name is.disk.ghost_name was.disk.now is.disk.now was.place is.place (event_told c.args.event.now)
    g.met.D.Disk.counts_now k.same_reference k.stays k.moments
    (on-fault unit.Denot c.in-Err-Disk.field-0 (g.D.Disk.faults was.disk.now) (g.D.Disk.faults is.disk.now)
    c.in-Err-Disk.field-0-is k.counts) k.asked
