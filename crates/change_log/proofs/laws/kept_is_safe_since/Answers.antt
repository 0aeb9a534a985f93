use Rattle.change_log.proofs.CrashLaws.{kept-safe-since}
use Rattle.change_log.proofs.laws.kept_is_safe_since.Goals as goal

pub returns : goal.returns
returns g c = kept-safe-since g.D.Disk.now g.D.Disk.images g.D.Disk.clock g.D.Disk.images_since
