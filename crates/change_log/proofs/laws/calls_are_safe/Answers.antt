use Rattle.change_log.proofs.CrashLaws.{calls-safe}
use Rattle.change_log.proofs.laws.calls_are_safe.Goals as goal

pub returns : goal.returns
returns g c =
    calls-safe g.D.Disk.now g.D.Disk.images g.D.Disk.clock g.D.Disk.images_since g.met.D.Disk.reads g.D.Disk.faults
    g.D.Disk.asked
