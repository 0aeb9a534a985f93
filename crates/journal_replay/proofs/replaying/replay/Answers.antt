use Rattle.std.proofs.Common.{◌∙◌, ap}
use Rattle.journal_replay.proofs.ToldSteps.{told-whole}
use Rattle.journal_replay.proofs.replaying.replay.Goals as goal

pub returns-clause-told : goal.returns-clause-told
returns-clause-told g c =
    let disk = g.D.Disk in
    told-whole (disk.now c.args.disk.now) (disk.now c.over-opening.result.disk.now)
    (ap disk.now c.over-opening.ensures.same ∙ c.in-Ok.ensures.reads.same) c.args.core.now.setup c.limit_of.result
    c.limit_of.ensures.is c.args.own.now c.follow_all.new.core.state c.follow_all.new.opening.place.at c.follow_all.result
    c.in-Ok.ensures.told c.follow_all.ensures.told
