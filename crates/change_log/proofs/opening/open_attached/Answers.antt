use Rattle.std.proofs.Common.{rules, ◌∙◌, ap}
use Rattle.change_log.proofs.OpenSteps.{moments-at, follow-moments}
use Rattle.change_log.proofs.opening.open_attached.Goals as goal

pub returns-clause-moments : goal.returns-clause-moments
returns-clause-moments g c =
    let disk = g.D.Disk in
    let here = c.over-opening.result.disk.now in
    moments-at disk.now disk.images disk.clock disk.images_since (disk.now c.args.disk.now) c.args.core.now.setup
    c.args.own.now c.args.disk.now c.follow_and_close.new.opening.disk.now _ (search rules)
    (follow-moments disk.now disk.images disk.clock disk.images_since (disk.now c.args.disk.now) (disk.now here)
    (ap disk.now c.over-opening.ensures.same ∙ c.in-Ok.ensures.reads.same) c.args.core.now.setup c.limit_of.result
    c.limit_of.ensures.is c.args.own.now c.args.disk.now c.examine.new.disk here
    c.follow_and_close.new.opening.disk.now c.over-opening.ensures.same c.in-Ok.ensures.reads c.in-Ok.ensures.told
    c.follow_and_close.ensures.moments)
