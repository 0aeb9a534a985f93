use Rattle.change_log.proofs.CrashLaws.{held-read}
use Rattle.change_log.proofs.laws.held_is_read.Goals as goal

pub returns : goal.returns
returns g c = held-read g.D.Disk.now g.D.Disk.images g.D.Disk.clock g.D.Disk.images_since
