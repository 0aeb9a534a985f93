use Rattle.std.proofs.Common.{refl, length}
use Rattle.eon_disk.proofs.Untold.{untold_unchanged, untold_time, untold_write, untold_cut, at_ok, at_err}
use Rattle.eon_disk.proofs.real_file.FileDeckDisk.TheImpl.Goals as goal

pub len-tells : goal.len-tells
len-tells g c = record {
  bytes = tt;
  now = refl;
  crash = untold_unchanged;
  time = untold_time;
  counts = c.ensures.counts;
  asked = c.ensures.asked;
}

pub read_at-tells : goal.read_at-tells
read_at-tells g c = record {
  bytes = c.ensures.bound;
  now = refl;
  crash = untold_unchanged;
  time = untold_time;
  counts = c.ensures.counts;
  asked = c.ensures.asked;
}

pub write_at-tells : goal.write_at-tells
write_at-tells g c = record {
  now = at_ok c.result _ refl;
  told = refl;
  crash = untold_write c.args.at (length c.args.piece.now);
  none_lost = λ c h. tt;
  time = untold_time;
  counts = c.ensures.counts;
  asked = c.ensures.asked;
}

pub cut-tells : goal.cut-tells
cut-tells g c = record {
  now = at_ok c.result _ refl;
  told = refl;
  crash = untold_cut c.args.len;
  none_lost = λ c h. tt;
  time = untold_time;
  counts = c.ensures.counts;
  asked = c.ensures.asked;
}

pub sync-tells : goal.sync-tells
sync-tells g c = record {
  durable = at_ok c.result _ tt;
  now = refl;
  none_new = λ c h. tt;
  failed = at_err c.result _ untold_unchanged;
  time = untold_time;
  counts = c.ensures.counts;
  asked = c.ensures.asked;
}
