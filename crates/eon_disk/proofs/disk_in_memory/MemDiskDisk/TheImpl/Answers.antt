use Rattle.std.proofs.Common.{◌≡◌, refl, ap, Some, take, List, ℕ}
use Rattle.eon_model.specs.Disk.{Cut, Follows, Unchanged, Only}
use Rattle.eon_disk.specs.HeldBytes.{MayLeave, cut_to, synced}
use Rattle.eon_disk.proofs.HeldLaws.{unchanged, no_time, not_cut, time_goes, cut-kept, cut-follows, synced-only, synced-none_new}
use Rattle.eon_disk.proofs.DiskTells.{write-torn, write-kept, write-time, write-asked, write-counts, write-now, step-asked, step-counts, step-held, step-ok, step-err, Goes}
use Rattle.eon_disk.proofs.disk_in_memory.MemDiskDisk.TheImpl.Goals as goal

pub write_at-tells : goal.write_at-tells
write_at-tells c =
    let d = c.args.self.now in
    let new = c.new.self.now in
    let at = c.args.at in
    let piece = c.args.piece.now in
    let is = c.ensures.is in record {
      now = write-now d at piece c.result new is c.ensures.when;
      told = refl;
      crash = write-torn d at piece c.result new is c.ensures.image c.requires.within;
      none_lost = write-kept d at piece c.result new is c.ensures.image c.requires.within;
      time = write-time d at piece c.result new is c.ensures.image;
      counts = write-counts d at piece c.result new is;
      asked = write-asked d at piece c.result new is;
    }

pub cut-tells : goal.cut-tells
cut-tells c =
    let d = c.args.self.now in
    let new = c.new.self.now in
    let len = c.args.len in
    let cut = cut_to len d.held in
    let is = c.ensures.is in
    let sound = c.ensures.image in record {
      now = step-ok c.result d new cut is (λ held. Some held.bytes ≡ Some (take len d.held.bytes)) refl;
      told = refl;
      crash = step-held c.result d new cut is (λ held. Follows (Cut len) (MayLeave d.held) (MayLeave held))
          (not_cut d.held len) (cut-follows d.held len sound c.requires.within);
      none_lost = step-held c.result d new cut is (λ held. (c : List ℕ) → MayLeave d.held c → MayLeave held c)
          (λ c h. h) (cut-kept d.held len sound c.requires.within);
      time = step-held c.result d new cut is (Goes d.held) (no_time d.held) (time_goes d.held cut.bytes cut.pending sound);
      counts = step-counts c.result d new cut is;
      asked = step-asked c.result d new cut is;
    }

pub sync-tells : goal.sync-tells
sync-tells c =
    let d = c.args.self.now in
    let new = c.new.self.now in
    let now = synced d.held in
    let is = c.ensures.is in
    let sound = c.ensures.image in record {
      durable = step-ok c.result d new now is (λ held. Only d.held.bytes (MayLeave held)) (synced-only d.held sound);
      now = ap Some (step-held c.result d new now is (λ held. held.bytes ≡ d.held.bytes) refl refl);
      none_new = step-held c.result d new now is (λ held. (c : List ℕ) → MayLeave held c → MayLeave d.held c)
          (λ c h. h) (synced-none_new d.held sound);
      failed = step-err c.result d new now is (λ held. Unchanged (MayLeave d.held) (MayLeave held)) (unchanged d.held);
      time = step-held c.result d new now is (Goes d.held) (no_time d.held) (time_goes d.held now.bytes now.pending sound);
      counts = step-counts c.result d new now is;
      asked = step-asked c.result d new now is;
    }
