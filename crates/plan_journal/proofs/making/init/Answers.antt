use Rattle.std.proofs.Common.{◌≡◌, ℕ, length, subst, rules}
use Rattle.eon_model.specs.Disk.{LeavesOnly}
use Rattle.plan_journal.specs.Moments.{IsTornFrom}
use Rattle.plan_journal.proofs.MomentLaws.{then_torn}
use Rattle.plan_journal.proofs.making.init.Goals as goal

pub returns-in-Ok-write_synced-clause-moments : goal.returns-in-Ok-write_synced-clause-moments
returns-in-Ok-write_synced-clause-moments g c =
    let long : length c.fresh_journal.result ≡ 41 = search rules in
    then_torn g.D.Disk.clock g.D.Disk.images_since g.D.Disk.images g.met.D.Disk.only_now c.args.disk.now c.len.new.self
    c.write_synced.new.disk 0 41 c.len.ensures.time c.len.ensures.crash.none_new
    (subst (λ (n : ℕ). LeavesOnly g.D.Disk.clock g.D.Disk.images_since c.len.new.self c.write_synced.new.disk
    (IsTornFrom (g.D.Disk.images c.len.new.self) 0 n)) long c.write_synced.ensures.moments)

pub returns-in-Err-write_synced-clause-moments : goal.returns-in-Err-write_synced-clause-moments
returns-in-Err-write_synced-clause-moments g c =
    let long : length c.fresh_journal.result ≡ 41 = search rules in
    then_torn g.D.Disk.clock g.D.Disk.images_since g.D.Disk.images g.met.D.Disk.only_now c.args.disk.now c.len.new.self
    c.write_synced.new.disk 0 41 c.len.ensures.time c.len.ensures.crash.none_new
    (subst (λ (n : ℕ). LeavesOnly g.D.Disk.clock g.D.Disk.images_since c.len.new.self c.write_synced.new.disk
    (IsTornFrom (g.D.Disk.images c.len.new.self) 0 n)) long c.write_synced.ensures.moments)
