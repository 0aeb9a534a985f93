use Rattle.std.proofs.Common.{ap, subst, ◌∙◌, ◌≤◌, length, arith}
use Rattle.std.specs.List.{flat_map}
use Rattle.std.proofs.lemmas.List.{take_all}
use Rattle.eon_model.specs.Legal.{Setup}
use Rattle.eon_model.specs.LiveFailure.{lit_by_service}
use Rattle.eon_model.specs.LiveReplies.{light_line}
use Rattle.eon_model.specs.Network.{Network}
use Rattle.line_writer.specs.Sent.{Takes}
use Rattle.line_writer.proofs.TakesLaws.{takes-same}
use Rattle.plan_report.proofs.InRangeLaws.{service_at-on}
use Rattle.reply_text.proofs.ListingLaws.{next_text}
use Rattle.live_failure.proofs.TextLaws.{light-lines}
use Rattle.live_failure.proofs.lighting.put_services.Goals as goal

pub put_service-requires : goal.put_service-requires
put_service-requires g c =
    let found = service_at-on c.args.setup.now c.args.services.now.list c.loop-i.i c.at.result.now c.requires.setup
    c.requires.legal c.at.ensures.service in
    rw (← c.setup.view_is) at found

pub loop-i-preserved : goal.loop-i-preserved
loop-i-preserved g c =
    let net = ap (λ (v : Setup). v.network) c.setup.view_is in
    let more = subst (λ (v : Network). Takes (g.W.TextSink.sent c.loop-i.out) (g.W.TextSink.sent c.put_service.new.out)
    (flat_map (light_line v) (lit_by_service c.args.failed.now c.at.result.now))) net c.put_service.ensures in
    next_text (λ s. flat_map (light_line c.args.setup.now.network) (lit_by_service c.args.failed.now s)) c.args.services.now.list
    c.loop-i.i c.at.result.now _ _ _ c.at.ensures.service c.loop-i.invariant more

pub returns : goal.returns
returns g c =
    let past : length c.args.services.now.list ≤ c.loop-i.i = omega arith in
    takes-same _ _ _ _
    (ap (flat_map (λ s. flat_map (light_line c.args.setup.now.network) (lit_by_service c.args.failed.now s)))
    (take_all c.loop-i.i c.args.services.now.list past)
    ∙ light-lines c.args.setup.now.network c.args.failed.now c.args.services.now.list) c.loop-i.invariant
