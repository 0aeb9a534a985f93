use Rattle.std.proofs.Common.{◌∙◌, refl}
use Rattle.plan_journal.specs.declared.walk.Walked.TheVariants.{Record, Gate, Bad}
use Rattle.plan_journal.proofs.MomentLaws.{reads_none, reads_then}
use Rattle.plan_journal.proofs.HeadReads.{walk-begins, goes-on, ends-shut, ends-bad, stands-at}
use Rattle.plan_journal.proofs.head.bound_to.Goals as goal

pub loop-walked-init : goal.loop-walked-init
loop-walked-init g c = record {
  limit = c.first-place.ensures.limit;
  counts = refl;
  asked = refl;
  reads = reads_none g.D.Disk.now g.D.Disk.images g.D.Disk.clock g.D.Disk.images_since g.met.D.Disk.only_now c.args.disk.now;
  walked = walk-begins (g.D.Disk.now c.args.disk.now) c.args.limit c.first-place.result.at c.first-place.result.number
      c.args.kept c.first-place.ensures.at c.first-place.ensures.number;
}

pub loop-walked-preserved : goal.loop-walked-preserved
loop-walked-preserved g c =
    let was = c.loop-walked.invariant in
    let place = c.loop-walked.place in
    let o = g.D.Disk.now c.args.disk.now in
    let stands = stands-at o (g.D.Disk.now c.loop-walked.disk) was.reads.same place.limit c.args.limit was.limit place.at
    place.number c.in-Ok.walked (Record c.in-Record.event c.in-Record.taken) c.in-Record.is c.in-Ok.ensures.told in
    record {
      limit = c.after-place.ensures.limit ∙ was.limit;
      counts = c.in-Ok.ensures.counts ∙ was.counts;
      asked = c.in-Ok.ensures.asked ∙ was.asked;
      reads = reads_then g.D.Disk.now g.D.Disk.images g.D.Disk.clock g.D.Disk.images_since c.args.disk.now
          c.loop-walked.disk c.walk_record.new.disk was.reads c.in-Ok.ensures.reads;
      walked = goes-on c.args.limit c.args.kept place.at place.number c.loop-walked.bound o c.in-Record.event
          c.in-Record.taken c.after-place.result.at c.after-place.result.number c.bind.new.bound was.walked stands
          c.after-place.ensures.at c.after-place.ensures.number c.bind.ensures;
    }

pub returns-in-Gate : goal.returns-in-Gate
returns-in-Gate g c =
    let was = c.loop-walked.invariant in
    let place = c.loop-walked.place in
    let o = g.D.Disk.now c.args.disk.now in
    let stands = stands-at o (g.D.Disk.now c.loop-walked.disk) was.reads.same place.limit c.args.limit was.limit place.at
    place.number c.in-Ok.walked (Gate c.in-Gate.gate) c.in-Gate.is c.in-Ok.ensures.told in
    record {
      told = ends-shut c.args.limit c.args.kept place.at place.number c.loop-walked.bound o c.in-Gate.gate was.walked stands;
      reads = reads_then g.D.Disk.now g.D.Disk.images g.D.Disk.clock g.D.Disk.images_since c.args.disk.now
          c.loop-walked.disk c.walk_record.new.disk was.reads c.in-Ok.ensures.reads;
      counts = c.in-Ok.ensures.counts ∙ was.counts;
      asked = c.in-Ok.ensures.asked ∙ was.asked;
    }

pub returns-in-Bad : goal.returns-in-Bad
returns-in-Bad g c =
    let was = c.loop-walked.invariant in
    let place = c.loop-walked.place in
    let o = g.D.Disk.now c.args.disk.now in
    let stands = stands-at o (g.D.Disk.now c.loop-walked.disk) was.reads.same place.limit c.args.limit was.limit place.at
    place.number c.in-Ok.walked Bad c.in-Bad.is c.in-Ok.ensures.told in
    record {
      told = ends-bad c.args.limit c.args.kept place.at place.number c.loop-walked.bound o was.walked stands;
      reads = reads_then g.D.Disk.now g.D.Disk.images g.D.Disk.clock g.D.Disk.images_since c.args.disk.now
          c.loop-walked.disk c.walk_record.new.disk was.reads c.in-Ok.ensures.reads;
      counts = c.in-Ok.ensures.counts ∙ was.counts;
      asked = c.in-Ok.ensures.asked ∙ was.asked;
    }
