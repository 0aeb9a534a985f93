use Rattle.std.proofs.Common.{arith}
use Rattle.eon_model.specs.Candidates.{sized, candidates_over}
use Rattle.pair_list.specs.Runs.{runs_over, most_behind}
use Rattle.pair_list.proofs.PutLaws.{put-step, over-joins}
use Rattle.pair_list.proofs.RunLaws.{runs-join, count-step, most-step}
use Rattle.pair_list.proofs.demand.put_works.Goals as goal

pub loop-i-preserved : goal.loop-i-preserved
loop-i-preserved g c =
    let setup = c.args.setup.now in
    let d = c.args.demand in
    let inv = c.loop-i.invariant in
    record {
      pairs = put-step (candidates_over setup d.s d.t d.rate d.class) (over-joins setup d.s d.t d.rate d.class)
          (sized setup d.rate) c.args.works.now c.loop-i.i c.args.pairs.now.items c.loop-i.pairs.items
          c.put_work.new.pairs.items c.in_ok-work.work (omega arith) inv.pairs c.in_ok-work.ensures
          c.in_ok-put_work.ensures.pairs;
      runs = count-step (runs_over setup d.s d.t d.class) (runs-join setup d.s d.t d.class) (sized setup d.rate)
          c.args.works.now c.loop-i.i c.args.steps.now c.loop-i.steps c.put_work.new.steps c.in_ok-work.work
          (omega arith) inv.runs c.in_ok-work.ensures c.in_ok-put_work.ensures.runs;
      most = most-step c.loop-i.i (most_behind setup d.class) c.args.steps.now c.loop-i.steps
          c.put_work.new.steps inv.most c.in_ok-put_work.ensures.most;
    }
