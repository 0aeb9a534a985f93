use Rattle.std.proofs.Common.{refl, inl, None}
use Rattle.plan_serve.specs.MigrateEnds.{MayBeBoundFrom}
use Rattle.plan_serve.specs.Outside.{outside}
use Rattle.plan_serve.proofs.MigrateModeLaws.{left_alone, left_from, next_said}
use Rattle.plan_serve.proofs.migrate.migrate_from.Goals as goal

pub returns-in-Ok-clause-moments : goal.returns-in-Ok-clause-moments
returns-in-Ok-clause-moments g c =
    let wider = c.in-Ok.ensures.network.1 in
    left_from g.D.Disk.clock g.D.Disk.images_since g.D.Disk.images c.args.disk.now c.migrate_bound.new.disk
    (g.D.Disk.now c.args.disk.now) c.args.network.setup wider c.args.network.digest c.in-Ok.digest
    (g.H.Shelf.files c.args.shelf.now) c.args.next.now c.in-Ok.ensures.network.2 c.in-Ok.ensures.network.3
    (c.migrate_bound.ensures.moments wider c.in-Ok.ensures.network.3)

pub returns-in-Err-clause-ends : goal.returns-in-Err-clause-ends
returns-in-Err-clause-ends g c =
    let old = c.args.shelf.now in
    let new = c.read_wider.new.shelf in
    inl (
      (refl, refl, refl),
      next_said c.args.network.setup c.args.next.now
          (outside (g.H.Shelf.files old) (g.H.Shelf.opened old) None (g.H.Shelf.faults old)
          (g.K.Sink.given c.args.out.now) (g.K.Sink.standing c.args.out.now))
          (outside (g.H.Shelf.files new) (g.H.Shelf.opened new) None (g.H.Shelf.faults new)
          (g.K.Sink.given c.refuse.new.out) (g.K.Sink.standing c.refuse.new.out)) c.in-Err.status c.refuse.result
          c.refuse.ensures.status c.in-Err.ensures.opened c.in-Err.ensures.network c.refuse.ensures.given,
    )

pub returns-in-Err-clause-moments : goal.returns-in-Err-clause-moments
returns-in-Err-clause-moments g c =
    let disk = c.args.disk.now in
    left_alone g.D.Disk.clock g.D.Disk.images_since g.D.Disk.images g.met.D.Disk.only_now disk (g.D.Disk.now disk)
    (λ bytes. MayBeBoundFrom c.args.network.setup c.args.network.digest (g.H.Shelf.files c.args.shelf.now) c.args.next.now bytes
    (g.D.Disk.images disk)) (λ bytes c left. inl left)
