use Rattle.std.proofs.Common.{subst}
use Rattle.eon_model.specs.DiskImages.{IsImage}
use Rattle.eon_disk.specs.HeldDisk.{HeldDisk}
use Rattle.eon_disk.proofs.RangeLaws.{filled-image}
use Rattle.eon_disk.proofs.disk_in_memory.MemDisk.crash.Goals as goal

pub returns-clause-image : goal.returns-clause-image
returns-clause-image c =
    let held = c.self.inside.medium.held in
    subst (λ (d : HeldDisk). IsImage d.held.pending c.into_filled.result.items) c.self.view_is
    (filled-image c.in-Byte.byte held.pending held.bytes c.into_filled.result.items c.self.invariant.0 c.into_filled.ensures)
