use Rattle.change_log.proofs.CrashLaws.{opening-safe-now}
use Rattle.change_log.proofs.laws.opening_is_safe_now.Goals as goal

pub returns : goal.returns
returns g c =
    opening-safe-now g.D.Disk.now g.D.Disk.images g.D.Disk.clock g.D.Disk.images_since g.met.D.Disk.reads
    g.met.D.Disk.counts_now
