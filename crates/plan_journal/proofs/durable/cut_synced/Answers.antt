use Rattle.std.proofs.Common.{ℕ, List}
use Rattle.plan_journal.specs.Moments.{IsCutFrom}
use Rattle.plan_journal.proofs.MomentLaws.{called, goes_on, not_cut}
use Rattle.plan_journal.proofs.durable.cut_synced.Goals as goal

pub returns-in-Err-clause-moments : goal.returns-in-Err-clause-moments
returns-in-Err-clause-moments g c =
    let P : List ℕ → Type 0 = IsCutFrom (g.D.Disk.images c.args.disk.now) c.args.len in
    called g.D.Disk.clock g.D.Disk.images_since g.D.Disk.images g.met.D.Disk.only_now c.args.disk.now c.cut.new.self P
    c.cut.ensures.time (not_cut (g.D.Disk.images c.args.disk.now) c.args.len) c.cut.ensures.crash

pub returns-in-Ok-clause-moments : goal.returns-in-Ok-clause-moments
returns-in-Ok-clause-moments g c =
    let P : List ℕ → Type 0 = IsCutFrom (g.D.Disk.images c.args.disk.now) c.args.len in
    goes_on g.D.Disk.clock g.D.Disk.images_since c.args.disk.now c.cut.new.self c.sync.new.self P
    (g.D.Disk.images c.sync.new.self)
    (called g.D.Disk.clock g.D.Disk.images_since g.D.Disk.images g.met.D.Disk.only_now c.args.disk.now c.cut.new.self P
    c.cut.ensures.time (not_cut (g.D.Disk.images c.args.disk.now) c.args.len) c.cut.ensures.crash)
    c.sync.ensures.time (λ x left. c.cut.ensures.crash x (c.sync.ensures.none_new x left))
