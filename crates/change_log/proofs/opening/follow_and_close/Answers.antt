use Rattle.std.proofs.Common.{◌∙◌}
use Rattle.change_log.proofs.OpenSteps.{told-opened, close-moments}
use Rattle.change_log.proofs.opening.follow_and_close.Goals as goal

pub returns-in-Ok-prepare-clause-told : goal.returns-in-Ok-prepare-clause-told
returns-in-Ok-prepare-clause-told g c =
    let disk = g.D.Disk in
    let mid = c.follow_all.new.opening in
    let new = c.prepare.new.self in
    told-opened (disk.now c.args.opening.now.disk.now) (disk.now mid.disk.now) c.in-Ok.ensures.reads.same
    c.args.core.now.setup c.follow_all.new.core.state c.in-Ok.field-0 mid.place new.place c.in-Ok-prepare.ensures.place
    (disk.now new.disk.now) (disk.images new.disk.now) c.in-Ok.ensures.told
    (c.in-Ok.ensures.limit ∙ c.requires.limit) c.in-Ok.ensures.number
    c.in-Ok-prepare.ensures.bytes c.in-Ok-prepare.ensures.ready

pub returns-in-Ok-prepare-clause-moments : goal.returns-in-Ok-prepare-clause-moments
returns-in-Ok-prepare-clause-moments g c =
    let disk = g.D.Disk in
    let mid = c.follow_all.new.opening in
    close-moments disk.now disk.images disk.clock disk.images_since (disk.now c.args.opening.now.disk.now)
    (disk.now mid.disk.now) c.in-Ok.ensures.reads.same c.args.core.now.setup c.follow_all.new.core.state
    c.in-Ok.field-0 mid.place.at c.args.opening.now.disk.now mid.disk.now c.prepare.new.self.disk.now
    c.in-Ok.ensures.reads c.in-Ok.ensures.told c.prepare.ensures.moments

pub returns-in-Err-prepare-clause-moments : goal.returns-in-Err-prepare-clause-moments
returns-in-Err-prepare-clause-moments g c =
    let disk = g.D.Disk in
    let mid = c.follow_all.new.opening in
    close-moments disk.now disk.images disk.clock disk.images_since (disk.now c.args.opening.now.disk.now)
    (disk.now mid.disk.now) c.in-Ok.ensures.reads.same c.args.core.now.setup c.follow_all.new.core.state
    c.in-Ok.field-0 mid.place.at c.args.opening.now.disk.now mid.disk.now c.prepare.new.self.disk.now
    c.in-Ok.ensures.reads c.in-Ok.ensures.told c.prepare.ensures.moments
