use Rattle.plan_serve.proofs.BindingSteps.{told-bound, told-moments, same-now}
use Rattle.plan_serve.proofs.migrate.bind.Goals as goal

pub returns-clause-told : goal.returns-clause-told
returns-clause-told g c =
    let disk = g.D.Disk in
    told-bound (disk.now c.args.disk.now) (disk.now c.open_ready.new.disk) (disk.now c.append_at.new.disk)
    (disk.images c.append_at.new.disk) c.args.core.now.setup c.args.own.now c.args.next.now c.open_ready.result c.in-Ok.place
    c.append_at.result c.in-Ok.is c.open_ready.ensures.told c.in-Ok.ensures.limit c.append_at.ensures.digest
    c.append_at.ensures.full
    (same-now disk.now c.open_ready.new.disk c.append_at.new.disk c.append_at.result c.append_at.ensures.untouched)
    c.append_at.ensures.bytes c.append_at.ensures.durable

pub returns-clause-moments : goal.returns-clause-moments
returns-clause-moments g c =
    let disk = g.D.Disk in
    told-moments disk.now disk.images disk.clock disk.images_since c.args.disk.now c.open_ready.new.disk c.append_at.new.disk
    c.args.core.now.setup c.args.own.now c.args.next.now c.open_ready.result c.in-Ok.place
    c.append_at.result c.in-Ok.is c.open_ready.ensures.told c.in-Ok.ensures.limit c.append_at.ensures.digest
    c.append_at.ensures.full c.append_at.ensures.untouched c.open_ready.ensures.moments c.append_at.ensures.moments
