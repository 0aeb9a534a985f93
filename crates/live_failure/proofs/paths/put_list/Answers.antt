use Rattle.reply_text.proofs.WordLaws.{none_listed, next_fibre}
use Rattle.live_failure.proofs.paths.put_list.Goals as goal

pub loop-i-init : goal.loop-i-init
loop-i-init g c = none_listed c.args.net.now.fibres c.args.fibres.now _

pub loop-i-preserved : goal.loop-i-preserved
loop-i-preserved g c = next_fibre c.args.net.now.fibres c.args.fibres.now c.loop-i.i _ _ _
    c.loop-i-test.true c.loop-i.invariant c.put_fibre.ensures
