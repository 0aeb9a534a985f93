use Rattle.std.proofs.Common.{refl, inl, inr}
use Rattle.plan_serve.specs.MigrateEnds.{MayBeBound}
use Rattle.plan_serve.specs.Outside.{outside, disk_seen}
use Rattle.plan_serve.proofs.TopLaws.{network_said}
use Rattle.plan_serve.proofs.MigrateModeLaws.{left_alone, left_start, behind_ends}
use Rattle.plan_serve.proofs.migrate.migrate.Goals as goal

pub returns-in-Ok-clause-ends : goal.returns-in-Ok-clause-ends
returns-in-Ok-clause-ends g c =
    let old = c.args.shelf.now in
    let mid = c.read_bound_network.new.shelf in
    let new = c.migrate_from.new.shelf in
    let disk = c.args.disk.now in
    let later = c.migrate_from.new.disk in
    inr (
      c.in-Ok.network.setup,
      c.in-Ok.network.digest,
      c.in-Ok.ensures.network.1,
      behind_ends c.in-Ok.network.setup c.in-Ok.network.digest c.args.net.now c.args.next.now c.args.journal.now
          (outside (g.H.Shelf.files old) (g.H.Shelf.opened old) (g.H.Shelf.left old) (g.H.Shelf.faults old)
          (g.K.Sink.given c.args.out.now) (g.K.Sink.standing c.args.out.now))
          (outside (g.H.Shelf.files new) (g.H.Shelf.opened new) (g.H.Shelf.left new) (g.H.Shelf.faults new)
          (g.K.Sink.given c.migrate_from.new.out) (g.K.Sink.standing c.migrate_from.new.out))
          (g.H.Shelf.files mid) (g.H.Shelf.opened mid) (g.H.Shelf.faults mid)
          (disk_seen (g.D.Disk.now disk) (g.D.Disk.images disk) (g.D.Disk.asked disk) (g.D.Disk.faults disk))
          (disk_seen (g.D.Disk.now later) (g.D.Disk.images later) (g.D.Disk.asked later) (g.D.Disk.faults later))
          c.migrate_from.result c.in-Ok.ensures.files c.in-Ok.ensures.opened c.in-Ok.ensures.network.0
          c.migrate_from.ensures.ends,
    )

pub returns-in-Ok-clause-moments : goal.returns-in-Ok-clause-moments
returns-in-Ok-clause-moments g c =
    left_start g.D.Disk.clock g.D.Disk.images_since g.D.Disk.images c.args.disk.now c.migrate_from.new.disk
    (g.D.Disk.now c.args.disk.now) c.in-Ok.network.setup c.in-Ok.network.digest (g.H.Shelf.files c.args.shelf.now)
    (g.H.Shelf.files c.read_bound_network.new.shelf) c.args.net.now c.args.next.now c.in-Ok.ensures.files
    c.in-Ok.ensures.network.1 c.migrate_from.ensures.moments

pub returns-in-Err-clause-ends : goal.returns-in-Err-clause-ends
returns-in-Err-clause-ends g c =
    let old = c.args.shelf.now in
    let new = c.read_bound_network.new.shelf in
    inl (
      (refl, refl, refl),
      network_said c.args.net.now
          (outside (g.H.Shelf.files old) (g.H.Shelf.opened old) (g.H.Shelf.left old) (g.H.Shelf.faults old)
          (g.K.Sink.given c.args.out.now) (g.K.Sink.standing c.args.out.now))
          (outside (g.H.Shelf.files new) (g.H.Shelf.opened new) (g.H.Shelf.left new) (g.H.Shelf.faults new)
          (g.K.Sink.given c.refuse.new.out) (g.K.Sink.standing c.refuse.new.out)) c.in-Err.status c.refuse.result
          c.refuse.ensures.status c.in-Err.ensures.opened c.in-Err.ensures.network c.refuse.ensures.given,
    )

pub returns-in-Err-clause-moments : goal.returns-in-Err-clause-moments
returns-in-Err-clause-moments g c =
    let disk = c.args.disk.now in
    left_alone g.D.Disk.clock g.D.Disk.images_since g.D.Disk.images g.met.D.Disk.only_now disk (g.D.Disk.now disk)
    (λ bytes. MayBeBound (g.H.Shelf.files c.args.shelf.now) c.args.net.now c.args.next.now bytes (g.D.Disk.images disk))
    (λ bytes c left. inl left)
