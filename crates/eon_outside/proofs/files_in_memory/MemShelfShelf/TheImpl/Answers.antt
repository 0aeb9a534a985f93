use Rattle.std.proofs.Common.{◌≡◌, List, ℕ, [], Some, Ok, Err, Result, OnErr, ap}
use Rattle.eon_outside.specs.Reading.{NamedFiles, Opens}
use Rattle.eon_outside.proofs.files_in_memory.MemShelfShelf.TheImpl.Goals as goal

none_open : {T E : Type 0} (files : NamedFiles) (name left : List ℕ) (result : Result T E) → Opens (Some files) name (Some left) result → OnErr result (left ≡ [])
none_open files name left (Ok _) h = tt
none_open files name left (Err _) h = cc

pub open-tells : goal.open-tells
open-tells c = record {
  bytes = c.ensures.bytes;
  none_open = none_open c.args.self.now.files c.args.name.now c.new.self.now.left c.result c.ensures.bytes;
  files = ap Some c.ensures.files;
  opened = c.ensures.opened;
  counts = c.ensures.counts;
  calm = c.ensures.calm;
}
