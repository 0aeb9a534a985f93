use Rattle.std.proofs.Common.{ℕ, List, subst}
use Rattle.plan_serve.specs.JournalEnds.{Tells}
use Rattle.plan_serve.specs.Outside.{output, disk_seen}
use Rattle.plan_serve.proofs.BindingSteps.{digest-good}
use Rattle.plan_serve.proofs.MigrateModeLaws.{bound_ends, refused_ends, left_safely}
use Rattle.plan_serve.proofs.migrate.migrate_over.Goals as goal

pub returns-in-Ok-clause-ends : goal.returns-in-Ok-clause-ends
returns-in-Ok-clause-ends g c = λ wider w.
    let old = c.args.disk.now in
    let new = c.bind.new.disk in
    let before = output (g.K.Sink.given c.args.out.now) (g.K.Sink.standing c.args.out.now) in
    let now = output (g.K.Sink.given c.give.new.out) (g.K.Sink.standing c.give.new.out) in
    bound_ends c.args.core.now.setup wider c.args.own.now c.args.next.now c.args.journal.now w before now
    (disk_seen (g.D.Disk.now old) (g.D.Disk.images old) (g.D.Disk.asked old) (g.D.Disk.faults old))
    (disk_seen (g.D.Disk.now new) (g.D.Disk.images new) (g.D.Disk.asked new) (g.D.Disk.faults new)) c.give.result
    (c.in-Ok.ensures.asked, c.in-Ok.ensures.counts) c.in-Ok.ensures.told
    (subst (λ (v : List ℕ). Tells v before now c.give.result) c.as_bytes.ensures.value c.give.ensures.told)

pub returns-in-Err-clause-ends : goal.returns-in-Err-clause-ends
returns-in-Err-clause-ends g c = λ wider w.
    let old = c.args.disk.now in
    let new = c.bind.new.disk in
    refused_ends c.args.core.now.setup wider c.args.own.now c.args.next.now c.args.journal.now w
    (output (g.K.Sink.given c.args.out.now) (g.K.Sink.standing c.args.out.now))
    (output (g.K.Sink.given c.refuse.new.out) (g.K.Sink.standing c.refuse.new.out))
    (disk_seen (g.D.Disk.now old) (g.D.Disk.images old) (g.D.Disk.asked old) (g.D.Disk.faults old))
    (disk_seen (g.D.Disk.now new) (g.D.Disk.images new) (g.D.Disk.asked new) (g.D.Disk.faults new)) c.in-Err.status
    c.refuse.result c.refuse.ensures.status c.in-Err.ensures.fault c.in-Err.ensures.asked c.in-Err.ensures.counts
    c.in-Err.ensures.told c.refuse.ensures.given

pub returns-in-Ok-clause-moments : goal.returns-in-Ok-clause-moments
returns-in-Ok-clause-moments g c = λ wider w.
    left_safely g.D.Disk.clock g.D.Disk.images_since g.D.Disk.images c.args.disk.now c.bind.new.disk
    (g.D.Disk.now c.args.disk.now) c.args.core.now.setup wider c.args.own.now c.args.next.now w
    (digest-good c.args.next.now c.told-next c.fits-next) c.in-Ok.ensures.moments

pub returns-in-Err-clause-moments : goal.returns-in-Err-clause-moments
returns-in-Err-clause-moments g c = λ wider w.
    left_safely g.D.Disk.clock g.D.Disk.images_since g.D.Disk.images c.args.disk.now c.bind.new.disk
    (g.D.Disk.now c.args.disk.now) c.args.core.now.setup wider c.args.own.now c.args.next.now w
    (digest-good c.args.next.now c.told-next c.fits-next) c.in-Err.ensures.moments
