use Rattle.plan_journal.proofs.MomentLaws.{then_torn}
use Rattle.plan_serve.proofs.journal.make.Goals as goal

pub returns-in-Ok-clause-moments : goal.returns-in-Ok-clause-moments
returns-in-Ok-clause-moments g c =
    then_torn g.D.Disk.clock g.D.Disk.images_since g.D.Disk.images g.met.D.Disk.only_now c.args.disk.now c.attach.new.self
    c.init.new.disk 0 41 c.in-Ok.ensures.time c.in-Ok.ensures.crash.none_new c.init.ensures.moments
