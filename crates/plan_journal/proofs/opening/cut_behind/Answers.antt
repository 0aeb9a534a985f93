use Rattle.plan_journal.proofs.ClosingSteps.{len-moments, cut-moments}
use Rattle.plan_journal.proofs.opening.cut_behind.Goals as goal

pub returns-in-Err-clause-moments : goal.returns-in-Err-clause-moments
returns-in-Err-clause-moments g c =
    len-moments g.D.Disk.clock g.D.Disk.images_since g.D.Disk.images g.met.D.Disk.only_now
    (g.D.Disk.now c.args.disk.now) c.args.at c.args.disk.now c.len.new.self c.requires.read c.len.ensures.time
    c.len.ensures.crash.none_new

pub returns-clause-moments : goal.returns-clause-moments
returns-clause-moments g c =
    cut-moments g.D.Disk.clock g.D.Disk.images_since g.D.Disk.images g.met.D.Disk.only_now
    (g.D.Disk.now c.args.disk.now) c.args.at c.args.disk.now c.len.new.self c.cut_synced.new.disk c.requires.read
    c.len.ensures.time c.len.ensures.crash.none_new c.cut_synced.ensures.moments
