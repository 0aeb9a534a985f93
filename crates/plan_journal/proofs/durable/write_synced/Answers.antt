use Rattle.std.proofs.Common.{ℕ, List, length}
use Rattle.plan_journal.specs.Moments.{IsTornFrom}
use Rattle.plan_journal.proofs.MomentLaws.{called, goes_on, not_torn}
use Rattle.plan_journal.proofs.durable.write_synced.Goals as goal

pub returns-in-Err-clause-moments : goal.returns-in-Err-clause-moments
returns-in-Err-clause-moments g c =
    let P : List ℕ → Type 0 = IsTornFrom (g.D.Disk.images c.args.disk.now) c.args.at (length c.args.piece.now) in
    called g.D.Disk.clock g.D.Disk.images_since g.D.Disk.images g.met.D.Disk.only_now c.args.disk.now c.write_at.new.self P
    c.write_at.ensures.time (not_torn (g.D.Disk.images c.args.disk.now) c.args.at (length c.args.piece.now)) c.write_at.ensures.crash

pub returns-in-Ok-clause-moments : goal.returns-in-Ok-clause-moments
returns-in-Ok-clause-moments g c =
    let P : List ℕ → Type 0 = IsTornFrom (g.D.Disk.images c.args.disk.now) c.args.at (length c.args.piece.now) in
    goes_on g.D.Disk.clock g.D.Disk.images_since c.args.disk.now c.write_at.new.self c.sync.new.self P
    (g.D.Disk.images c.sync.new.self)
    (called g.D.Disk.clock g.D.Disk.images_since g.D.Disk.images g.met.D.Disk.only_now c.args.disk.now c.write_at.new.self P
    c.write_at.ensures.time (not_torn (g.D.Disk.images c.args.disk.now) c.args.at (length c.args.piece.now)) c.write_at.ensures.crash)
    c.sync.ensures.time (λ x left. c.write_at.ensures.crash x (c.sync.ensures.none_new x left))
