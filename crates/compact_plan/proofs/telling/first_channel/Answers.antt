use Rattle.std.proofs.Common.{◌≤◌, ◌∙◌, sym, length, get_or, Some, arith}
use Rattle.eon_model.specs.Plan.{Channel, target_place, touches_from_below}
use Rattle.compact_plan.specs.Sweeps.{centre_at}
use Rattle.compact_plan.specs.Told.{channels, place_at}
use Rattle.compact_plan.proofs.TellLaws.{channel_here, channels_long, first_here, first_past, first_end}
use Rattle.compact_plan.proofs.telling.first_channel.Goals as goal

pub returns-then-channel_right_below : goal.returns-then-channel_right_below
returns-then-channel_right_below c =
    let s = c.at-service.result.now in
    (λ i. Some (c.service.view_is i).name)
    ∙ sym (first_here (λ (d : Channel). touches_from_below (target_place d) (place_at c.args.begin c.args.above.now))
    (channels c.args.services.now.list c.args.lows.now) c.loop-i.i
    (record { service = s; target = centre_at (get_or c.args.lows.now c.loop-i.i 0) s.leg.work }) c.loop-i.invariant
    (channel_here c.args.services.now.list c.args.lows.now c.loop-i.i s c.requires.long c.at-service.ensures.service)
    (sym c.channel_right_below.ensures ∙ c.if-channel_right_below.true))

pub loop-i-preserved : goal.loop-i-preserved
loop-i-preserved c =
    let s = c.at-service.result.now in
    first_past (λ (d : Channel). touches_from_below (target_place d) (place_at c.args.begin c.args.above.now))
    (channels c.args.services.now.list c.args.lows.now) c.loop-i.i
    (record { service = s; target = centre_at (get_or c.args.lows.now c.loop-i.i 0) s.leg.work }) c.loop-i.invariant
    (channel_here c.args.services.now.list c.args.lows.now c.loop-i.i s c.requires.long c.at-service.ensures.service)
    (sym c.channel_right_below.ensures ∙ c.if-channel_right_below.false)

pub returns : goal.returns
returns c =
    let long = channels_long c.args.services.now.list c.args.lows.now c.requires.long in
    let count = c.len-i-end.ensures.count in
    let test = c.loop-i-test.false in
    let past : length (channels c.args.services.now.list c.args.lows.now) ≤ c.loop-i.i = omega arith in
    first_end (λ (d : Channel). touches_from_below (target_place d) (place_at c.args.begin c.args.above.now))
    (channels c.args.services.now.list c.args.lows.now) c.loop-i.i c.loop-i.invariant past
