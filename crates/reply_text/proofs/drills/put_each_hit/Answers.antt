use Rattle.std.proofs.Common.{ap, subst}
use Rattle.eon_model.specs.Network.{Network}
use Rattle.eon_model.specs.Legal.{Setup}
use Rattle.eon_model.specs.ReplyText.{hit_line}
use Rattle.line_writer.specs.Sent.{Takes}
use Rattle.reply_text.proofs.ListingLaws.{next_text, switched_at}
use Rattle.reply_text.proofs.drills.put_each_hit.Goals as goal

pub put_hit-requires : goal.put_hit-requires
put_hit-requires g c =
    let found = switched_at c.args.setup.now c.args.hits.now c.loop-i.i c.at.result.now c.requires c.at.ensures.hit in
    rw (← c.setup.view_is) at found

pub loop-i-preserved : goal.loop-i-preserved
loop-i-preserved g c =
    let net = ap (λ (v : Setup). v.network) c.setup.view_is in
    let more = subst (λ (v : Network). Takes (g.W.TextSink.sent c.loop-i.out) (g.W.TextSink.sent c.put_hit.new.out)
    (hit_line v c.at.result.now)) net c.put_hit.ensures in
    next_text (hit_line c.args.setup.now.network) c.args.hits.now c.loop-i.i c.at.result.now _ _ _
    c.at.ensures.hit c.loop-i.invariant more
