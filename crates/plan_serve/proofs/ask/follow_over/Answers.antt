use Rattle.plan_serve.specs.Outside.{disk_seen}
use Rattle.plan_serve.proofs.AskLaws.{led, not_led}
use Rattle.plan_serve.proofs.ask.follow_over.Goals as goal

pub returns-in-Ok-clause-reached : goal.returns-in-Ok-clause-reached
returns-in-Ok-clause-reached g c =
    let old = c.args.disk.now in
    let new = c.follow.new.disk in
    led c.args.core.now.setup c.args.digest.now c.args.journal.now
    (disk_seen (g.D.Disk.now old) (g.D.Disk.images old) (g.D.Disk.asked old) (g.D.Disk.faults old))
    (disk_seen (g.D.Disk.now new) (g.D.Disk.images new) (g.D.Disk.asked new) (g.D.Disk.faults new)) c.follow.new.core (Unit {0}) tt
    c.in-Ok.field-0 c.in-Ok.ensures.setup c.in-Ok.ensures.asked c.in-Ok.ensures.counts c.in-Ok.ensures.told

pub returns-in-Err-clause-reached : goal.returns-in-Err-clause-reached
returns-in-Err-clause-reached g c =
    let old = c.args.disk.now in
    let new = c.follow.new.disk in
    not_led c.args.core.now.setup c.args.digest.now c.args.journal.now
    (disk_seen (g.D.Disk.now old) (g.D.Disk.images old) (g.D.Disk.asked old) (g.D.Disk.faults old))
    (disk_seen (g.D.Disk.now new) (g.D.Disk.images new) (g.D.Disk.asked new) (g.D.Disk.faults new)) c.follow.new.core (Unit {0})
    c.in-Err.fault c.not_replayed.result c.not_replayed.ensures c.in-Err.ensures.asked c.in-Err.ensures.counts
    c.in-Err.ensures.told
