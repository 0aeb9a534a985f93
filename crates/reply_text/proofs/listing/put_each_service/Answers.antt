use Rattle.std.proofs.Common.{ap, subst}
use Rattle.eon_model.specs.Network.{Network}
use Rattle.eon_model.specs.Legal.{Setup}
use Rattle.eon_model.specs.ReplyText.{service_line}
use Rattle.line_writer.specs.Sent.{Takes}
use Rattle.plan_report.proofs.InRangeLaws.{service_at-on}
use Rattle.reply_text.proofs.ListingLaws.{next_text}
use Rattle.reply_text.proofs.listing.put_each_service.Goals as goal

pub put_service-requires : goal.put_service-requires
put_service-requires g c =
    let found = service_at-on c.args.setup.now c.args.services.now.list c.loop-i.i c.at.result.now c.requires.setup
    c.requires.legal c.at.ensures.service in
    rw (← c.setup.view_is) at found

pub loop-i-preserved : goal.loop-i-preserved
loop-i-preserved g c =
    let net = ap (λ (v : Setup). v.network) c.setup.view_is in
    let more = subst (λ (v : Network). Takes (g.W.TextSink.sent c.loop-i.out) (g.W.TextSink.sent c.put_service.new.out)
    (service_line v c.at.result.now)) net c.put_service.ensures in
    next_text (service_line c.args.setup.now.network) c.args.services.now.list c.loop-i.i c.at.result.now _ _ _
    c.at.ensures.service c.loop-i.invariant more
