use Rattle.std.proofs.Common.{ap, subst, ◌∙◌, ◌≤◌, length, arith}
use Rattle.std.specs.List.{flat_map}
use Rattle.std.proofs.lemmas.List.{take_all}
use Rattle.eon_model.specs.Legal.{Setup}
use Rattle.eon_model.specs.LiveReplies.{fate_line}
use Rattle.eon_model.specs.Network.{Network}
use Rattle.line_writer.specs.Sent.{Takes}
use Rattle.line_writer.proofs.TakesLaws.{takes-same}
use Rattle.plan_report.proofs.InRangeLaws.{service_at-on}
use Rattle.reply_text.proofs.ListingLaws.{next_text}
use Rattle.live_failure.specs.Parts.{fates_by}
use Rattle.live_failure.proofs.TextLaws.{fate-lines}
use Rattle.live_failure.proofs.fates.put_hits.Goals as goal

pub put_hit-requires : goal.put_hit-requires
put_hit-requires g c =
    let found = service_at-on c.args.setup.now c.args.services.now.list c.loop-i.i c.at.result.now c.requires.setup
    c.requires.legal c.at.ensures.service in
    rw (← c.setup.view_is) at found

pub loop-i-preserved : goal.loop-i-preserved
loop-i-preserved g c =
    let net = ap (λ (v : Setup). v.network) c.setup.view_is in
    let more = subst (λ (v : Network). Takes (g.W.TextSink.sent c.loop-i.out) (g.W.TextSink.sent c.put_hit.new.out)
    (flat_map (fate_line v) (fates_by c.args.group c.at.result.now))) net c.put_hit.ensures in
    next_text (λ s. flat_map (fate_line c.args.setup.now.network) (fates_by c.args.group s)) c.args.services.now.list
    c.loop-i.i c.at.result.now _ _ _ c.at.ensures.service c.loop-i.invariant more

pub returns : goal.returns
returns g c =
    let past : length c.args.services.now.list ≤ c.loop-i.i = omega arith in
    takes-same _ _ _ _
    (ap (flat_map (λ s. flat_map (fate_line c.args.setup.now.network) (fates_by c.args.group s)))
    (take_all c.loop-i.i c.args.services.now.list past)
    ∙ fate-lines c.args.setup.now.network c.args.group c.args.services.now.list) c.loop-i.invariant
