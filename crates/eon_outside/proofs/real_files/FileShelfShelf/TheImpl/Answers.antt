use Rattle.std.proofs.Common.{refl, false}
use Rattle.std.specs.Prelude.{IsTrue}
use Rattle.eon_outside.proofs.Untold.{untold_open, untold_read}
use Rattle.eon_outside.proofs.real_files.FileShelfShelf.TheImpl.Goals as goal

-- no real shelf is calm
never : IsTrue false → ⊥
never h = cc

pub open-tells : goal.open-tells
open-tells g c = record {
  bytes = tt;
  none_open = untold_open c.result;
  files = refl;
  opened = c.ensures.opened;
  counts = c.ensures.counts;
  calm = λ calm. absurd (never calm);
}

pub read-tells : goal.read-tells
read-tells g c = record {
  bound = c.ensures.bound;
  bytes = untold_read c.result c.new.buf.now;
  files = refl;
  opened = c.ensures.opened;
  counts = c.ensures.counts;
  calm = λ calm. absurd (never calm);
}
