use Rattle.std.proofs.Common.{◌≡◌, ◌∷◌, [], ◌+◌, length}
use Rattle.std.specs.Prelude.{option_map}
use Rattle.eon_model.specs.Disk.{put}
use Rattle.plan_journal.specs.Appended.{with_record}
use Rattle.plan_journal.specs.Moments.{IsDurable, IsReady}
use Rattle.plan_journal.proofs.MomentLaws.{ok_more, ok_both}
use Rattle.plan_journal.proofs.RecordSteps.{bytes-after, ready-after, first-moments, both-moments}
use Rattle.plan_journal.proofs.journal.write_record.Goals as goal

pub returns-in-Ok-clause-bytes : goal.returns-in-Ok-clause-bytes
returns-in-Ok-clause-bytes g c =
    let body = c.requires.gate in
    let now0 = g.D.Disk.now c.args.disk.now in
    let now1 = g.D.Disk.now c.write_synced.new.disk in
    let now2 = g.D.Disk.now c.write_synced-in-Ok.new.disk in
    ok_more c.write_synced-in-Ok.result (now2 ≡ option_map (put c.args.at (1 ∷ [])) now1)
    (now2 ≡ option_map (with_record c.args.at c.args.behind.now) now0)
    (λ e. bytes-after now0 (g.D.Disk.images c.args.disk.now) c.args.at c.args.behind.now body.0 body.1 c.requires.ready
    now1 now2 c.in-Ok.ensures.now e) c.write_synced-in-Ok.ensures.now

pub returns-in-Ok-clause-ready : goal.returns-in-Ok-clause-ready
returns-in-Ok-clause-ready g c =
    let body = c.requires.gate in
    let now0 = g.D.Disk.now c.args.disk.now in
    let now1 = g.D.Disk.now c.write_synced.new.disk in
    let now2 = g.D.Disk.now c.write_synced-in-Ok.new.disk in
    let left = g.D.Disk.images c.write_synced-in-Ok.new.disk in
    ok_both c.write_synced-in-Ok.result (now2 ≡ option_map (put c.args.at (1 ∷ [])) now1) (IsDurable now2 left)
    (IsReady now2 left (c.args.at + length c.args.behind.now))
    (λ e d. ready-after now0 (g.D.Disk.images c.args.disk.now) c.args.at c.args.behind.now body.0 body.1 c.requires.ready
    now2 left (bytes-after now0 (g.D.Disk.images c.args.disk.now) c.args.at c.args.behind.now body.0 body.1
    c.requires.ready now1 now2 c.in-Ok.ensures.now e) d) c.write_synced-in-Ok.ensures.now
    c.write_synced-in-Ok.ensures.durable

pub returns-in-Err-clause-moments : goal.returns-in-Err-clause-moments
returns-in-Err-clause-moments g c =
    first-moments g.D.Disk.clock g.D.Disk.images_since (g.D.Disk.now c.args.disk.now) (g.D.Disk.images c.args.disk.now)
    c.args.at c.args.behind.now c.args.disk.now c.write_synced.new.disk c.requires.ready c.write_synced.ensures.moments

pub returns-in-Ok-clause-moments : goal.returns-in-Ok-clause-moments
returns-in-Ok-clause-moments g c =
    both-moments g.D.Disk.clock g.D.Disk.images_since (g.D.Disk.now c.args.disk.now) (g.D.Disk.images c.args.disk.now)
    c.args.at c.args.behind.now c.args.disk.now c.write_synced.new.disk c.write_synced-in-Ok.new.disk
    (g.D.Disk.now c.write_synced.new.disk) (g.D.Disk.images c.write_synced.new.disk) c.requires.ready
    c.write_synced.ensures.moments c.in-Ok.ensures.now c.in-Ok.ensures.durable c.write_synced-in-Ok.ensures.moments
