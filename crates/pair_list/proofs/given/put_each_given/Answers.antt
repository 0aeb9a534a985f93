use Rattle.std.proofs.Common.{arith}
use Rattle.eon_model.specs.Candidates.{sized, candidates_over}
use Rattle.pair_list.proofs.PutLaws.{put-step, over-joins}
use Rattle.pair_list.proofs.given.put_each_given.Goals as goal

pub loop-i-preserved : goal.loop-i-preserved
loop-i-preserved c =
    let setup = c.args.setup.now in
    let d = c.args.demand in
    put-step (candidates_over setup d.s d.t d.rate d.class) (over-joins setup d.s d.t d.rate d.class)
    (sized setup d.rate) c.args.works.now c.loop-i.i c.args.pairs.now.items c.loop-i.pairs.items
    c.put_given.new.pairs.items c.in_ok-work.work (omega arith) c.loop-i.invariant c.in_ok-work.ensures
    c.in_ok-put_given.ensures
