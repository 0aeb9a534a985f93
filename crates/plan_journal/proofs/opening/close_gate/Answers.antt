use Rattle.plan_journal.proofs.ClosingSteps.{none-moments, shut-moments}
use Rattle.plan_journal.proofs.opening.close_gate.Goals as goal

pub returns-then-gate-eq0-clause-moments : goal.returns-then-gate-eq0-clause-moments
returns-then-gate-eq0-clause-moments g c =
    none-moments g.D.Disk.clock g.D.Disk.images_since g.D.Disk.images g.met.D.Disk.only_now
    (g.D.Disk.now c.args.disk.now) c.args.at c.args.gate c.args.disk.now c.requires.read c.if-gate-eq0.true

pub returns-clause-moments : goal.returns-clause-moments
returns-clause-moments g c =
    shut-moments g.D.Disk.clock g.D.Disk.images_since g.D.Disk.images g.met.D.Disk.only_now
    (g.D.Disk.now c.args.disk.now) c.args.at c.args.gate c.args.disk.now c.write_synced.new.disk c.requires.read
    c.if-gate-eq0.false c.write_synced.ensures.moments
