use Rattle.std.proofs.Common.{subst}
use Rattle.eon_model.specs.Legal.{Setup, Legal}
use Rattle.plan_serve.specs.JournalEnds.{TellsCount}
use Rattle.plan_serve.specs.Outside.{output, disk_seen}
use Rattle.plan_serve.proofs.JournalModeLaws.{leads_to, told_ends}
use Rattle.plan_serve.proofs.journal.tell_over.Goals as goal

pub returns-in-Ok-clause-ends : goal.returns-in-Ok-clause-ends
returns-in-Ok-clause-ends g c =
    let core = c.follow.new.core in
    let setup = c.args.core.now.setup in
    let digest = c.args.digest.now in
    let old = c.args.disk.now in
    let new = c.follow.new.disk in
    let before = output (g.K.Sink.given c.args.out.now) (g.K.Sink.standing c.args.out.now) in
    let now = output (g.K.Sink.given c.tell.new.out) (g.K.Sink.standing c.tell.new.out) in
    let same = c.in-Ok.ensures.setup in
    told_ends setup digest c.args.journal.now before now
    (disk_seen (g.D.Disk.now old) (g.D.Disk.images old) (g.D.Disk.asked old) (g.D.Disk.faults old))
    (disk_seen (g.D.Disk.now new) (g.D.Disk.images new) (g.D.Disk.asked new) (g.D.Disk.faults new)) core.state c.in-Ok.count
    (c.in-Ok.ensures.asked, c.in-Ok.ensures.counts)
    (leads_to setup digest (g.D.Disk.now old) core.state c.in-Ok.count
    (subst (λ (s : Setup). Legal s core.state) same c.tell.ensures.legal) c.in-Ok.ensures.told) c.tell.result
    (subst (λ (s : Setup). TellsCount s core.state c.in-Ok.count before now c.tell.result) same c.tell.ensures.told)
