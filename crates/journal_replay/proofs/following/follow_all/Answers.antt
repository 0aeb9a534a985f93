use Rattle.std.proofs.Common.{◌∙◌, refl, sym, ap, Ok, Err, arith}
use Rattle.eon_model.specs.Legal.{Setup}
use Rattle.plan_journal.proofs.MomentLaws.{reads_none, reads_then}
use Rattle.journal_replay.proofs.ToldSteps.{told-first, told-step, told-more, told-no-more}
use Rattle.journal_replay.proofs.following.follow_all.Goals as goal

pub loop-more-init : goal.loop-more-init
loop-more-init g c =
    let disk = g.D.Disk in
    let was = c.args.opening.now in
    record {
      same_reference = refl;
      setup = refl;
      limit = refl;
      journal = c.requires.limit;
      some = let n = c.requires.number in omega arith;
      leads = told-first (disk.now was.disk.now) c.args.core.now.setup c.args.core.now.state was.place.at
          was.place.number c.requires.no_service c.requires.at c.requires.number;
      durable = λ d. d;
      reads = reads_none disk.now disk.images disk.clock disk.images_since g.met.D.Disk.only_now was.disk.now;
      counts = refl;
      asked = refl;
    }

pub returns-in-Err-clause-told : goal.returns-in-Err-clause-told
returns-in-Err-clause-told g c =
    let so_far = c.loop-more.invariant in
    let was = c.loop-more.opening in
    let now = c.follow_next.new.opening.place in
    told-step (g.D.Disk.now c.args.opening.now.disk.now) (g.D.Disk.now was.disk.now) so_far.reads.same
    c.args.core.now.setup c.loop-more.core.setup so_far.setup c.loop-more.core.state c.follow_next.new.core.state
    was.place.at was.place.number now.at now.number (Err c.in-Err.fault) so_far.leads c.in-Err.ensures.told

pub returns-then-not-more-clause-told : goal.returns-then-not-more-clause-told
returns-then-not-more-clause-told g c =
    let so_far = c.loop-more.invariant in
    let was = c.loop-more.opening in
    let now = c.follow_next.new.opening.place in
    let o = g.D.Disk.now c.args.opening.now.disk.now in
    told-no-more o c.args.core.now.setup c.follow_next.new.core.state now.at now.number c.in-Ok.more c.if-not-more.true
    (told-step o (g.D.Disk.now was.disk.now) so_far.reads.same
    c.args.core.now.setup c.loop-more.core.setup so_far.setup c.loop-more.core.state c.follow_next.new.core.state
    was.place.at was.place.number now.at now.number (Ok c.in-Ok.more) so_far.leads c.in-Ok.ensures.told)

pub loop-more-preserved : goal.loop-more-preserved
loop-more-preserved g c =
    let so_far = c.loop-more.invariant in
    let disk = g.D.Disk in
    let first = c.args.opening.now in
    let was = c.loop-more.opening in
    let now = c.follow_next.new.opening in
    let o = disk.now first.disk.now in
    let step = c.in-Ok.ensures in
    record {
      same_reference = step.same_reference ∙ so_far.same_reference;
      setup = step.setup ∙ so_far.setup;
      limit = step.limit ∙ so_far.limit;
      journal = step.limit ∙ so_far.journal ∙ ap (λ (s : Setup). s.journal) (sym step.setup);
      some = let a = so_far.some in let b = step.numbered in omega arith;
      leads = told-more o c.args.core.now.setup c.follow_next.new.core.state now.place.at now.place.number c.in-Ok.more
          c.if-not-more.false
          (told-step o (disk.now was.disk.now) so_far.reads.same c.args.core.now.setup c.loop-more.core.setup so_far.setup
          c.loop-more.core.state c.follow_next.new.core.state was.place.at was.place.number now.place.at now.place.number
          (Ok c.in-Ok.more) so_far.leads step.told);
      durable = λ d. step.durable (so_far.durable d);
      reads = reads_then disk.now disk.images disk.clock disk.images_since first.disk.now was.disk.now now.disk.now
          so_far.reads step.reads;
      counts = step.counts ∙ so_far.counts;
      asked = step.asked ∙ so_far.asked;
    }
