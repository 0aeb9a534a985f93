use Rattle.std.proofs.Common.{map, arith}
use Rattle.eon_model.specs.Candidates.{sized, with_backup}
use Rattle.pair_list.proofs.PutLaws.{put-step}
use Rattle.pair_list.proofs.demand.put_backups.Goals as goal
use Rattle.std.proofs.lemmas.List.{map-append}

pub loop-i-preserved : goal.loop-i-preserved
loop-i-preserved c =
    let f = with_backup c.args.work.now in
    put-step (map f) (map-append f) (sized c.args.setup.now c.args.demand.rate) c.args.backups.now c.loop-i.i
    c.args.pairs.now.items c.loop-i.pairs.items c.put_backup.new.pairs.items c.in_ok-back.back (omega arith)
    c.loop-i.invariant c.in_ok-back.ensures c.in_ok-put_backup.ensures
