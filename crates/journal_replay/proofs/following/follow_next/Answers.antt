use Rattle.journal_replay.proofs.ToldSteps.{told-taken, told-shut, told-bad}
use Rattle.journal_replay.proofs.following.follow_next.Goals as goal

pub returns-in-Ok-Some-clause-told : goal.returns-in-Ok-Some-clause-told
returns-in-Ok-Some-clause-told g c =
    let was = c.args.opening.now.place in
    let now = c.next.new.self in
    told-taken c.args.core.now.setup was.limit c.requires.limit c.args.core.now.state was.at was.number
    (g.D.Disk.now c.args.opening.now.disk.now) c.follow_kept.new.core.state now.place.at now.place.number now.gate
    c.in-Ok-Some.field-0 c.in-Ok-Some.kept c.follow_kept.result c.in-Ok-Some.field-0-is c.in-Ok-Some.ensures.told
    c.in-Ok-Some.ensures.behind c.follow_kept.ensures.taken

pub returns-in-Ok-None-clause-told : goal.returns-in-Ok-None-clause-told
returns-in-Ok-None-clause-told g c =
    let was = c.args.opening.now.place in
    let now = c.next.new.self in
    told-shut c.args.core.now.setup was.limit c.requires.limit c.args.core.now.state was.at was.number
    (g.D.Disk.now c.args.opening.now.disk.now) now.place.at now.place.number now.gate c.in-Ok-None.field-0
    c.in-Ok-None.field-0-is c.in-Ok-None.ensures.told c.in-Ok-None.ensures.gate c.in-Ok-None.ensures.behind was.within

pub returns-in-Err-BadRecord-clause-told : goal.returns-in-Err-BadRecord-clause-told
returns-in-Err-BadRecord-clause-told g c =
    let was = c.args.opening.now.place in
    told-bad c.args.core.now.setup was.limit c.requires.limit c.args.core.now.state was.at was.number
    (g.D.Disk.now c.args.opening.now.disk.now) c.next.new.self.gate c.in-Err-BadRecord.field-0 c.in-Err-BadRecord.at
    c.in-Err-BadRecord.field-0-is c.in-Err-BadRecord.ensures.told
