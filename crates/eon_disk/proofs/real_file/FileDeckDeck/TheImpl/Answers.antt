use Rattle.std.proofs.Common.{refl}
use Rattle.eon_disk.proofs.Untold.{untold_unchanged, untold_time}
use Rattle.eon_disk.proofs.real_file.FileDeckDeck.TheImpl.Goals as goal

pub attach-tells : goal.attach-tells
attach-tells g c = record {
  now = refl;
  crash = untold_unchanged;
  time = untold_time;
  counts = c.ensures.counts;
  asked = c.ensures.asked;
}
