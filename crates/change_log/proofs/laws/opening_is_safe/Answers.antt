use Rattle.change_log.proofs.CrashLaws.{opening-safe}
use Rattle.change_log.proofs.laws.opening_is_safe.Goals as goal

pub returns : goal.returns
returns g c = opening-safe g.D.Disk.now g.D.Disk.images g.D.Disk.clock g.D.Disk.images_since g.met.D.Disk.reads
