use Rattle.change_log.proofs.OpenSteps.{opened-moments}
use Rattle.change_log.proofs.opening.open_log.Goals as goal

pub returns-in-Ok-clause-moments : goal.returns-in-Ok-clause-moments
returns-in-Ok-clause-moments g c =
    let disk = g.D.Disk in
    opened-moments disk.now disk.images disk.clock disk.images_since g.met.D.Disk.only_now (disk.now c.args.disk.now)
    (disk.now c.attach.new.self) c.in-Ok.ensures.now c.args.core.now.setup c.args.own.now c.args.disk.now
    c.attach.new.self c.open_attached.new.disk c.in-Ok.ensures.time c.in-Ok.ensures.crash
    c.open_attached.ensures.moments
