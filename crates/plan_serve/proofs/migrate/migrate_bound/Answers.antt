use Rattle.std.proofs.Common.{subst, inl}
use Rattle.std.specs.Prelude.{IfSome}
use Rattle.eon_model.specs.Legal.{Setup}
use Rattle.eon_model.specs.Disk.{LeavesOnly}
use Rattle.eon_model.specs.Wider.{Widens}
use Rattle.plan_serve.specs.MigrateEnds.{IsLeftSafely}
use Rattle.plan_serve.proofs.MigrateModeLaws.{left_alone}
use Rattle.plan_serve.proofs.migrate.migrate_bound.Goals as goal

pub returns-in-Ok-clause-moments : goal.returns-in-Ok-clause-moments
returns-in-Ok-clause-moments g c =
    let disk = c.args.disk.now in
    subst (λ (s : Setup). (wider : Setup) → Widens s wider → IfSome (g.D.Disk.now disk)
    (λ bytes. LeavesOnly g.D.Disk.clock g.D.Disk.images_since disk c.migrate_over.new.disk
    (IsLeftSafely s wider c.args.network.digest c.args.next.now bytes (g.D.Disk.images disk)))) c.in-Ok.ensures.setup
    c.migrate_over.ensures.moments

pub returns-in-Err-clause-moments : goal.returns-in-Err-clause-moments
returns-in-Err-clause-moments g c = λ wider w.
    let disk = c.args.disk.now in
    left_alone g.D.Disk.clock g.D.Disk.images_since g.D.Disk.images g.met.D.Disk.only_now disk (g.D.Disk.now disk)
    (λ bytes. IsLeftSafely c.args.network.setup wider c.args.network.digest c.args.next.now bytes (g.D.Disk.images disk))
    (λ bytes c left. inl left)
