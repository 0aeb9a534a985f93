use Rattle.std.proofs.Common.{refl, sym, subst, Option}
use Rattle.eon_model.specs.Modes.{Task}
use Rattle.eon_model.specs.Modes.Task.{Dry, Init, Replay, Migrate, Drive, Live}
use Rattle.eon_model.specs.Disk.{LeavesOnly}
use Rattle.plan_words.specs.declared.words.Words.TheVariants as word
use Rattle.plan_serve.specs.Outside.{outside, disk_seen}
use Rattle.plan_serve.specs.Top.{NeedsNoDisk, IsToldFor, MayBeLeft}
use Rattle.plan_serve.proofs.CallLaws.{task_is, ends_as, completes, calm_ends, there, none_made, bind_left}
use Rattle.plan_serve.proofs.top.plan_main.Goals as goal

-- ---- Dry

pub returns-in-Ok-Dry-clause-completeness : goal.returns-in-Ok-Dry-clause-completeness
returns-in-Ok-Dry-clause-completeness g c = λ may no_read no_write no_disk.
    let task = Dry c.in-Ok-Dry.net.now c.in-Ok-Dry.commands.now in
    let is = task_is _ (word.Dry c.in-Ok-Dry.net c.in-Ok-Dry.commands) _ c.in-Ok-Dry.ensures.task
    c.in-Ok-Dry.field-0-is in
    let shelf = c.args.shelf.now in
    let later = c.dry.new.shelf in
    let disk = c.args.disk.now in
    let kept = c.args.disk.now in
    let before = outside (g.H.Shelf.files shelf) (g.H.Shelf.opened shelf) (g.H.Shelf.left shelf) (g.H.Shelf.faults shelf)
    (g.K.Sink.given c.args.out.now) (g.K.Sink.standing c.args.out.now) in
    let now = outside (g.H.Shelf.files later) (g.H.Shelf.opened later) (g.H.Shelf.left later) (g.H.Shelf.faults later)
    (g.K.Sink.given c.dry.new.out) (g.K.Sink.standing c.dry.new.out) in
    let old = disk_seen (g.D.Disk.now disk) (g.D.Disk.images disk) (g.D.Disk.asked disk) (g.D.Disk.faults disk) in
    let new = disk_seen (g.D.Disk.now kept) (g.D.Disk.images kept) (g.D.Disk.asked kept) (g.D.Disk.faults kept) in
    let ends = ends_as _ task before now old new c.dry.result is c.dry.ensures.ends in
    completes _ before now old new c.dry.result ends may no_read no_write no_disk

pub returns-in-Ok-Dry-clause-calm : goal.returns-in-Ok-Dry-clause-calm
returns-in-Ok-Dry-clause-calm g c = λ may calm roomy no_disk.
    let task = Dry c.in-Ok-Dry.net.now c.in-Ok-Dry.commands.now in
    let is = task_is _ (word.Dry c.in-Ok-Dry.net c.in-Ok-Dry.commands) _ c.in-Ok-Dry.ensures.task
    c.in-Ok-Dry.field-0-is in
    let shelf = c.args.shelf.now in
    let later = c.dry.new.shelf in
    let disk = c.args.disk.now in
    let kept = c.args.disk.now in
    let before = outside (g.H.Shelf.files shelf) (g.H.Shelf.opened shelf) (g.H.Shelf.left shelf) (g.H.Shelf.faults shelf)
    (g.K.Sink.given c.args.out.now) (g.K.Sink.standing c.args.out.now) in
    let now = outside (g.H.Shelf.files later) (g.H.Shelf.opened later) (g.H.Shelf.left later) (g.H.Shelf.faults later)
    (g.K.Sink.given c.dry.new.out) (g.K.Sink.standing c.dry.new.out) in
    let old = disk_seen (g.D.Disk.now disk) (g.D.Disk.images disk) (g.D.Disk.asked disk) (g.D.Disk.faults disk) in
    let new = disk_seen (g.D.Disk.now kept) (g.D.Disk.images kept) (g.D.Disk.asked kept) (g.D.Disk.faults kept) in
    let ends = ends_as _ task before now old new c.dry.result is c.dry.ensures.ends in
    let files = there _ task (g.H.Shelf.files shelf) (g.D.Disk.now disk) is may in
    calm_ends _ before now old new (g.K.Sink.standing c.args.out.now) (g.K.Sink.standing c.dry.new.out) c.dry.result ends
    may roomy (c.dry.ensures.calm calm files.0 files.1) c.dry.ensures.room refl
    (g.met.K.Sink.sure c.dry.new.out) no_disk

pub returns-in-Ok-Dry-clause-moments : goal.returns-in-Ok-Dry-clause-moments
returns-in-Ok-Dry-clause-moments g c = λ told.
    none_made g.D.Disk.clock g.D.Disk.images_since g.D.Disk.images g.met.D.Disk.only_now c.args.disk.now _ c.dry.result _ _

-- ---- Init

pub returns-in-Ok-Init-clause-completeness : goal.returns-in-Ok-Init-clause-completeness
returns-in-Ok-Init-clause-completeness g c = λ may no_read no_write no_disk.
    let task = Init c.in-Ok-Init.net.now c.in-Ok-Init.journal.now in
    let is = task_is _ (word.Init c.in-Ok-Init.net c.in-Ok-Init.journal) _ c.in-Ok-Init.ensures.task
    c.in-Ok-Init.field-0-is in
    let shelf = c.args.shelf.now in
    let later = c.make_journal.new.shelf in
    let disk = c.args.disk.now in
    let kept = c.make_journal.new.disk in
    let before = outside (g.H.Shelf.files shelf) (g.H.Shelf.opened shelf) (g.H.Shelf.left shelf) (g.H.Shelf.faults shelf)
    (g.K.Sink.given c.args.out.now) (g.K.Sink.standing c.args.out.now) in
    let now = outside (g.H.Shelf.files later) (g.H.Shelf.opened later) (g.H.Shelf.left later) (g.H.Shelf.faults later)
    (g.K.Sink.given c.make_journal.new.out) (g.K.Sink.standing c.make_journal.new.out) in
    let old = disk_seen (g.D.Disk.now disk) (g.D.Disk.images disk) (g.D.Disk.asked disk) (g.D.Disk.faults disk) in
    let new = disk_seen (g.D.Disk.now kept) (g.D.Disk.images kept) (g.D.Disk.asked kept) (g.D.Disk.faults kept) in
    let ends = ends_as _ task before now old new c.make_journal.result is c.make_journal.ensures.ends in
    completes _ before now old new c.make_journal.result ends may no_read no_write no_disk

pub returns-in-Ok-Init-clause-calm : goal.returns-in-Ok-Init-clause-calm
returns-in-Ok-Init-clause-calm g c = λ may calm roomy no_disk.
    let task = Init c.in-Ok-Init.net.now c.in-Ok-Init.journal.now in
    let is = task_is _ (word.Init c.in-Ok-Init.net c.in-Ok-Init.journal) _ c.in-Ok-Init.ensures.task
    c.in-Ok-Init.field-0-is in
    let shelf = c.args.shelf.now in
    let later = c.make_journal.new.shelf in
    let disk = c.args.disk.now in
    let kept = c.make_journal.new.disk in
    let before = outside (g.H.Shelf.files shelf) (g.H.Shelf.opened shelf) (g.H.Shelf.left shelf) (g.H.Shelf.faults shelf)
    (g.K.Sink.given c.args.out.now) (g.K.Sink.standing c.args.out.now) in
    let now = outside (g.H.Shelf.files later) (g.H.Shelf.opened later) (g.H.Shelf.left later) (g.H.Shelf.faults later)
    (g.K.Sink.given c.make_journal.new.out) (g.K.Sink.standing c.make_journal.new.out) in
    let old = disk_seen (g.D.Disk.now disk) (g.D.Disk.images disk) (g.D.Disk.asked disk) (g.D.Disk.faults disk) in
    let new = disk_seen (g.D.Disk.now kept) (g.D.Disk.images kept) (g.D.Disk.asked kept) (g.D.Disk.faults kept) in
    let ends = ends_as _ task before now old new c.make_journal.result is c.make_journal.ensures.ends in
    let files = there _ task (g.H.Shelf.files shelf) (g.D.Disk.now disk) is may in
    calm_ends _ before now old new (g.K.Sink.standing c.args.out.now) (g.K.Sink.standing c.make_journal.new.out) c.make_journal.result ends
    may roomy (c.make_journal.ensures.calm calm files) c.make_journal.ensures.room refl
    (g.met.K.Sink.sure c.make_journal.new.out) no_disk

pub returns-in-Ok-Init-clause-untouched : goal.returns-in-Ok-Init-clause-untouched
returns-in-Ok-Init-clause-untouched g c = λ early.
    let task = Init c.in-Ok-Init.net.now c.in-Ok-Init.journal.now in
    let is = task_is _ (word.Init c.in-Ok-Init.net c.in-Ok-Init.journal) _ c.in-Ok-Init.ensures.task
    c.in-Ok-Init.field-0-is in
    c.make_journal.ensures.untouched (subst (λ (v : Option Task). NeedsNoDisk v c.make_journal.result) is early)

pub returns-in-Ok-Init-clause-moments : goal.returns-in-Ok-Init-clause-moments
returns-in-Ok-Init-clause-moments g c = λ told.
    let task = Init c.in-Ok-Init.net.now c.in-Ok-Init.journal.now in
    let is = task_is _ (word.Init c.in-Ok-Init.net c.in-Ok-Init.journal) _ c.in-Ok-Init.ensures.task
    c.in-Ok-Init.field-0-is in
    subst (λ (v : Option Task). LeavesOnly g.D.Disk.clock g.D.Disk.images_since c.args.disk.now c.make_journal.new.disk
    (MayBeLeft v c.make_journal.result (g.H.Shelf.files c.args.shelf.now) (g.D.Disk.now c.args.disk.now) (g.D.Disk.images c.args.disk.now)))
    (sym is) c.make_journal.ensures.moments

-- ---- Replay

pub returns-in-Ok-Replay-clause-completeness : goal.returns-in-Ok-Replay-clause-completeness
returns-in-Ok-Replay-clause-completeness g c = λ may no_read no_write no_disk.
    let task = Replay c.in-Ok-Replay.net.now c.in-Ok-Replay.journal.now in
    let is = task_is _ (word.Replay c.in-Ok-Replay.net c.in-Ok-Replay.journal) _ c.in-Ok-Replay.ensures.task
    c.in-Ok-Replay.field-0-is in
    let shelf = c.args.shelf.now in
    let later = c.tell_journal.new.shelf in
    let disk = c.args.disk.now in
    let kept = c.tell_journal.new.disk in
    let before = outside (g.H.Shelf.files shelf) (g.H.Shelf.opened shelf) (g.H.Shelf.left shelf) (g.H.Shelf.faults shelf)
    (g.K.Sink.given c.args.out.now) (g.K.Sink.standing c.args.out.now) in
    let now = outside (g.H.Shelf.files later) (g.H.Shelf.opened later) (g.H.Shelf.left later) (g.H.Shelf.faults later)
    (g.K.Sink.given c.tell_journal.new.out) (g.K.Sink.standing c.tell_journal.new.out) in
    let old = disk_seen (g.D.Disk.now disk) (g.D.Disk.images disk) (g.D.Disk.asked disk) (g.D.Disk.faults disk) in
    let new = disk_seen (g.D.Disk.now kept) (g.D.Disk.images kept) (g.D.Disk.asked kept) (g.D.Disk.faults kept) in
    let ends = ends_as _ task before now old new c.tell_journal.result is c.tell_journal.ensures.ends in
    completes _ before now old new c.tell_journal.result ends may no_read no_write no_disk

pub returns-in-Ok-Replay-clause-calm : goal.returns-in-Ok-Replay-clause-calm
returns-in-Ok-Replay-clause-calm g c = λ may calm roomy no_disk.
    let task = Replay c.in-Ok-Replay.net.now c.in-Ok-Replay.journal.now in
    let is = task_is _ (word.Replay c.in-Ok-Replay.net c.in-Ok-Replay.journal) _ c.in-Ok-Replay.ensures.task
    c.in-Ok-Replay.field-0-is in
    let shelf = c.args.shelf.now in
    let later = c.tell_journal.new.shelf in
    let disk = c.args.disk.now in
    let kept = c.tell_journal.new.disk in
    let before = outside (g.H.Shelf.files shelf) (g.H.Shelf.opened shelf) (g.H.Shelf.left shelf) (g.H.Shelf.faults shelf)
    (g.K.Sink.given c.args.out.now) (g.K.Sink.standing c.args.out.now) in
    let now = outside (g.H.Shelf.files later) (g.H.Shelf.opened later) (g.H.Shelf.left later) (g.H.Shelf.faults later)
    (g.K.Sink.given c.tell_journal.new.out) (g.K.Sink.standing c.tell_journal.new.out) in
    let old = disk_seen (g.D.Disk.now disk) (g.D.Disk.images disk) (g.D.Disk.asked disk) (g.D.Disk.faults disk) in
    let new = disk_seen (g.D.Disk.now kept) (g.D.Disk.images kept) (g.D.Disk.asked kept) (g.D.Disk.faults kept) in
    let ends = ends_as _ task before now old new c.tell_journal.result is c.tell_journal.ensures.ends in
    let files = there _ task (g.H.Shelf.files shelf) (g.D.Disk.now disk) is may in
    calm_ends _ before now old new (g.K.Sink.standing c.args.out.now) (g.K.Sink.standing c.tell_journal.new.out) c.tell_journal.result ends
    may roomy (c.tell_journal.ensures.calm calm files) c.tell_journal.ensures.room refl
    (g.met.K.Sink.sure c.tell_journal.new.out) no_disk

pub returns-in-Ok-Replay-clause-untouched : goal.returns-in-Ok-Replay-clause-untouched
returns-in-Ok-Replay-clause-untouched g c = λ early.
    let task = Replay c.in-Ok-Replay.net.now c.in-Ok-Replay.journal.now in
    let is = task_is _ (word.Replay c.in-Ok-Replay.net c.in-Ok-Replay.journal) _ c.in-Ok-Replay.ensures.task
    c.in-Ok-Replay.field-0-is in
    c.tell_journal.ensures.untouched (subst (λ (v : Option Task). NeedsNoDisk v c.tell_journal.result) is early)

pub returns-in-Ok-Replay-clause-moments : goal.returns-in-Ok-Replay-clause-moments
returns-in-Ok-Replay-clause-moments g c = λ told.
    let task = Replay c.in-Ok-Replay.net.now c.in-Ok-Replay.journal.now in
    let is = task_is _ (word.Replay c.in-Ok-Replay.net c.in-Ok-Replay.journal) _ c.in-Ok-Replay.ensures.task
    c.in-Ok-Replay.field-0-is in
    subst (λ (v : Option Task). LeavesOnly g.D.Disk.clock g.D.Disk.images_since c.args.disk.now c.tell_journal.new.disk
    (MayBeLeft v c.tell_journal.result (g.H.Shelf.files c.args.shelf.now) (g.D.Disk.now c.args.disk.now) (g.D.Disk.images c.args.disk.now)))
    (sym is) c.tell_journal.ensures.moments

-- ---- Migrate

pub returns-in-Ok-Migrate-clause-completeness : goal.returns-in-Ok-Migrate-clause-completeness
returns-in-Ok-Migrate-clause-completeness g c = λ may no_read no_write no_disk.
    let task = Migrate c.in-Ok-Migrate.net.now c.in-Ok-Migrate.next.now c.in-Ok-Migrate.journal.now in
    let is = task_is _ (word.Migrate c.in-Ok-Migrate.net c.in-Ok-Migrate.next c.in-Ok-Migrate.journal) _ c.in-Ok-Migrate.ensures.task
    c.in-Ok-Migrate.field-0-is in
    let shelf = c.args.shelf.now in
    let later = c.migrate.new.shelf in
    let disk = c.args.disk.now in
    let kept = c.migrate.new.disk in
    let before = outside (g.H.Shelf.files shelf) (g.H.Shelf.opened shelf) (g.H.Shelf.left shelf) (g.H.Shelf.faults shelf)
    (g.K.Sink.given c.args.out.now) (g.K.Sink.standing c.args.out.now) in
    let now = outside (g.H.Shelf.files later) (g.H.Shelf.opened later) (g.H.Shelf.left later) (g.H.Shelf.faults later)
    (g.K.Sink.given c.migrate.new.out) (g.K.Sink.standing c.migrate.new.out) in
    let old = disk_seen (g.D.Disk.now disk) (g.D.Disk.images disk) (g.D.Disk.asked disk) (g.D.Disk.faults disk) in
    let new = disk_seen (g.D.Disk.now kept) (g.D.Disk.images kept) (g.D.Disk.asked kept) (g.D.Disk.faults kept) in
    let ends = ends_as _ task before now old new c.migrate.result is c.migrate.ensures.ends in
    completes _ before now old new c.migrate.result ends may no_read no_write no_disk

pub returns-in-Ok-Migrate-clause-calm : goal.returns-in-Ok-Migrate-clause-calm
returns-in-Ok-Migrate-clause-calm g c = λ may calm roomy no_disk.
    let task = Migrate c.in-Ok-Migrate.net.now c.in-Ok-Migrate.next.now c.in-Ok-Migrate.journal.now in
    let is = task_is _ (word.Migrate c.in-Ok-Migrate.net c.in-Ok-Migrate.next c.in-Ok-Migrate.journal) _ c.in-Ok-Migrate.ensures.task
    c.in-Ok-Migrate.field-0-is in
    let shelf = c.args.shelf.now in
    let later = c.migrate.new.shelf in
    let disk = c.args.disk.now in
    let kept = c.migrate.new.disk in
    let before = outside (g.H.Shelf.files shelf) (g.H.Shelf.opened shelf) (g.H.Shelf.left shelf) (g.H.Shelf.faults shelf)
    (g.K.Sink.given c.args.out.now) (g.K.Sink.standing c.args.out.now) in
    let now = outside (g.H.Shelf.files later) (g.H.Shelf.opened later) (g.H.Shelf.left later) (g.H.Shelf.faults later)
    (g.K.Sink.given c.migrate.new.out) (g.K.Sink.standing c.migrate.new.out) in
    let old = disk_seen (g.D.Disk.now disk) (g.D.Disk.images disk) (g.D.Disk.asked disk) (g.D.Disk.faults disk) in
    let new = disk_seen (g.D.Disk.now kept) (g.D.Disk.images kept) (g.D.Disk.asked kept) (g.D.Disk.faults kept) in
    let ends = ends_as _ task before now old new c.migrate.result is c.migrate.ensures.ends in
    let files = there _ task (g.H.Shelf.files shelf) (g.D.Disk.now disk) is may in
    calm_ends _ before now old new (g.K.Sink.standing c.args.out.now) (g.K.Sink.standing c.migrate.new.out) c.migrate.result ends
    may roomy (c.migrate.ensures.calm calm files.0 files.1) c.migrate.ensures.room refl
    (g.met.K.Sink.sure c.migrate.new.out) no_disk

pub returns-in-Ok-Migrate-clause-untouched : goal.returns-in-Ok-Migrate-clause-untouched
returns-in-Ok-Migrate-clause-untouched g c = λ early.
    let task = Migrate c.in-Ok-Migrate.net.now c.in-Ok-Migrate.next.now c.in-Ok-Migrate.journal.now in
    let is = task_is _ (word.Migrate c.in-Ok-Migrate.net c.in-Ok-Migrate.next c.in-Ok-Migrate.journal) _ c.in-Ok-Migrate.ensures.task
    c.in-Ok-Migrate.field-0-is in
    c.migrate.ensures.untouched (subst (λ (v : Option Task). NeedsNoDisk v c.migrate.result) is early)

pub returns-in-Ok-Migrate-clause-moments : goal.returns-in-Ok-Migrate-clause-moments
returns-in-Ok-Migrate-clause-moments g c = λ told.
    let disk = c.args.disk.now in
    let task = Migrate c.in-Ok-Migrate.net.now c.in-Ok-Migrate.next.now c.in-Ok-Migrate.journal.now in
    let is = task_is _ (word.Migrate c.in-Ok-Migrate.net c.in-Ok-Migrate.next c.in-Ok-Migrate.journal) _
    c.in-Ok-Migrate.ensures.task c.in-Ok-Migrate.field-0-is in
    subst (λ (v : Option Task). LeavesOnly g.D.Disk.clock g.D.Disk.images_since disk c.migrate.new.disk
    (MayBeLeft v c.migrate.result (g.H.Shelf.files c.args.shelf.now) (g.D.Disk.now disk) (g.D.Disk.images disk))) (sym is)
    (bind_left g.D.Disk.clock g.D.Disk.images_since g.D.Disk.images disk c.migrate.new.disk (g.D.Disk.now disk)
    c.in-Ok-Migrate.net.now c.in-Ok-Migrate.next.now c.in-Ok-Migrate.journal.now c.migrate.result
    (g.H.Shelf.files c.args.shelf.now)
    (subst (λ (v : Option Task). IsToldFor v (g.D.Disk.now disk)) is told) c.migrate.ensures.moments)

-- ---- Drive

pub returns-in-Ok-Drive-clause-completeness : goal.returns-in-Ok-Drive-clause-completeness
returns-in-Ok-Drive-clause-completeness g c = λ may no_read no_write no_disk.
    let task = Drive c.in-Ok-Drive.net.now c.in-Ok-Drive.seed c.in-Ok-Drive.count in
    let is = task_is _ (word.Drive c.in-Ok-Drive.net c.in-Ok-Drive.seed c.in-Ok-Drive.count) _ c.in-Ok-Drive.ensures.task
    c.in-Ok-Drive.field-0-is in
    let shelf = c.args.shelf.now in
    let later = c.drive.new.shelf in
    let disk = c.args.disk.now in
    let kept = c.args.disk.now in
    let before = outside (g.H.Shelf.files shelf) (g.H.Shelf.opened shelf) (g.H.Shelf.left shelf) (g.H.Shelf.faults shelf)
    (g.K.Sink.given c.args.out.now) (g.K.Sink.standing c.args.out.now) in
    let now = outside (g.H.Shelf.files later) (g.H.Shelf.opened later) (g.H.Shelf.left later) (g.H.Shelf.faults later)
    (g.K.Sink.given c.drive.new.out) (g.K.Sink.standing c.drive.new.out) in
    let old = disk_seen (g.D.Disk.now disk) (g.D.Disk.images disk) (g.D.Disk.asked disk) (g.D.Disk.faults disk) in
    let new = disk_seen (g.D.Disk.now kept) (g.D.Disk.images kept) (g.D.Disk.asked kept) (g.D.Disk.faults kept) in
    let ends = ends_as _ task before now old new c.drive.result is c.drive.ensures.ends in
    completes _ before now old new c.drive.result ends may no_read no_write no_disk

pub returns-in-Ok-Drive-clause-calm : goal.returns-in-Ok-Drive-clause-calm
returns-in-Ok-Drive-clause-calm g c = λ may calm roomy no_disk.
    let task = Drive c.in-Ok-Drive.net.now c.in-Ok-Drive.seed c.in-Ok-Drive.count in
    let is = task_is _ (word.Drive c.in-Ok-Drive.net c.in-Ok-Drive.seed c.in-Ok-Drive.count) _ c.in-Ok-Drive.ensures.task
    c.in-Ok-Drive.field-0-is in
    let shelf = c.args.shelf.now in
    let later = c.drive.new.shelf in
    let disk = c.args.disk.now in
    let kept = c.args.disk.now in
    let before = outside (g.H.Shelf.files shelf) (g.H.Shelf.opened shelf) (g.H.Shelf.left shelf) (g.H.Shelf.faults shelf)
    (g.K.Sink.given c.args.out.now) (g.K.Sink.standing c.args.out.now) in
    let now = outside (g.H.Shelf.files later) (g.H.Shelf.opened later) (g.H.Shelf.left later) (g.H.Shelf.faults later)
    (g.K.Sink.given c.drive.new.out) (g.K.Sink.standing c.drive.new.out) in
    let old = disk_seen (g.D.Disk.now disk) (g.D.Disk.images disk) (g.D.Disk.asked disk) (g.D.Disk.faults disk) in
    let new = disk_seen (g.D.Disk.now kept) (g.D.Disk.images kept) (g.D.Disk.asked kept) (g.D.Disk.faults kept) in
    let ends = ends_as _ task before now old new c.drive.result is c.drive.ensures.ends in
    let files = there _ task (g.H.Shelf.files shelf) (g.D.Disk.now disk) is may in
    calm_ends _ before now old new (g.K.Sink.standing c.args.out.now) (g.K.Sink.standing c.drive.new.out) c.drive.result ends
    may roomy (c.drive.ensures.calm calm files) c.drive.ensures.room refl
    (g.met.K.Sink.sure c.drive.new.out) no_disk

pub returns-in-Ok-Drive-clause-moments : goal.returns-in-Ok-Drive-clause-moments
returns-in-Ok-Drive-clause-moments g c = λ told.
    none_made g.D.Disk.clock g.D.Disk.images_since g.D.Disk.images g.met.D.Disk.only_now c.args.disk.now _ c.drive.result _ _

-- ---- Live

pub returns-in-Ok-Live-clause-completeness : goal.returns-in-Ok-Live-clause-completeness
returns-in-Ok-Live-clause-completeness g c = λ may no_read no_write no_disk.
    let task = Live c.in-Ok-Live.net.now c.in-Ok-Live.journal.now c.in-Ok-Live.commands.now in
    let is = task_is _ (word.Live c.in-Ok-Live.net c.in-Ok-Live.journal c.in-Ok-Live.commands) _ c.in-Ok-Live.ensures.task
    c.in-Ok-Live.field-0-is in
    let shelf = c.args.shelf.now in
    let later = c.live.new.shelf in
    let disk = c.args.disk.now in
    let kept = c.live.new.disk in
    let before = outside (g.H.Shelf.files shelf) (g.H.Shelf.opened shelf) (g.H.Shelf.left shelf) (g.H.Shelf.faults shelf)
    (g.K.Sink.given c.args.out.now) (g.K.Sink.standing c.args.out.now) in
    let now = outside (g.H.Shelf.files later) (g.H.Shelf.opened later) (g.H.Shelf.left later) (g.H.Shelf.faults later)
    (g.K.Sink.given c.live.new.out) (g.K.Sink.standing c.live.new.out) in
    let old = disk_seen (g.D.Disk.now disk) (g.D.Disk.images disk) (g.D.Disk.asked disk) (g.D.Disk.faults disk) in
    let new = disk_seen (g.D.Disk.now kept) (g.D.Disk.images kept) (g.D.Disk.asked kept) (g.D.Disk.faults kept) in
    let ends = ends_as _ task before now old new c.live.result is c.live.ensures.ends in
    completes _ before now old new c.live.result ends may no_read no_write no_disk

pub returns-in-Ok-Live-clause-calm : goal.returns-in-Ok-Live-clause-calm
returns-in-Ok-Live-clause-calm g c = λ may calm roomy no_disk.
    let task = Live c.in-Ok-Live.net.now c.in-Ok-Live.journal.now c.in-Ok-Live.commands.now in
    let is = task_is _ (word.Live c.in-Ok-Live.net c.in-Ok-Live.journal c.in-Ok-Live.commands) _ c.in-Ok-Live.ensures.task
    c.in-Ok-Live.field-0-is in
    let shelf = c.args.shelf.now in
    let later = c.live.new.shelf in
    let disk = c.args.disk.now in
    let kept = c.live.new.disk in
    let before = outside (g.H.Shelf.files shelf) (g.H.Shelf.opened shelf) (g.H.Shelf.left shelf) (g.H.Shelf.faults shelf)
    (g.K.Sink.given c.args.out.now) (g.K.Sink.standing c.args.out.now) in
    let now = outside (g.H.Shelf.files later) (g.H.Shelf.opened later) (g.H.Shelf.left later) (g.H.Shelf.faults later)
    (g.K.Sink.given c.live.new.out) (g.K.Sink.standing c.live.new.out) in
    let old = disk_seen (g.D.Disk.now disk) (g.D.Disk.images disk) (g.D.Disk.asked disk) (g.D.Disk.faults disk) in
    let new = disk_seen (g.D.Disk.now kept) (g.D.Disk.images kept) (g.D.Disk.asked kept) (g.D.Disk.faults kept) in
    let ends = ends_as _ task before now old new c.live.result is c.live.ensures.ends in
    let files = there _ task (g.H.Shelf.files shelf) (g.D.Disk.now disk) is may in
    calm_ends _ before now old new (g.K.Sink.standing c.args.out.now) (g.K.Sink.standing c.live.new.out) c.live.result ends
    may roomy (c.live.ensures.calm calm files.0 files.1) c.live.ensures.room refl
    (g.met.K.Sink.sure c.live.new.out) no_disk

pub returns-in-Ok-Live-clause-untouched : goal.returns-in-Ok-Live-clause-untouched
returns-in-Ok-Live-clause-untouched g c = λ early.
    let task = Live c.in-Ok-Live.net.now c.in-Ok-Live.journal.now c.in-Ok-Live.commands.now in
    let is = task_is _ (word.Live c.in-Ok-Live.net c.in-Ok-Live.journal c.in-Ok-Live.commands) _ c.in-Ok-Live.ensures.task
    c.in-Ok-Live.field-0-is in
    c.live.ensures.untouched (subst (λ (v : Option Task). NeedsNoDisk v c.live.result) is early)

pub returns-in-Ok-Live-clause-moments : goal.returns-in-Ok-Live-clause-moments
returns-in-Ok-Live-clause-moments g c = λ told.
    let task = Live c.in-Ok-Live.net.now c.in-Ok-Live.journal.now c.in-Ok-Live.commands.now in
    let is = task_is _ (word.Live c.in-Ok-Live.net c.in-Ok-Live.journal c.in-Ok-Live.commands) _ c.in-Ok-Live.ensures.task
    c.in-Ok-Live.field-0-is in
    subst (λ (v : Option Task). LeavesOnly g.D.Disk.clock g.D.Disk.images_since c.args.disk.now c.live.new.disk
    (MayBeLeft v c.live.result (g.H.Shelf.files c.args.shelf.now) (g.D.Disk.now c.args.disk.now) (g.D.Disk.images c.args.disk.now)))
    (sym is) c.live.ensures.moments
