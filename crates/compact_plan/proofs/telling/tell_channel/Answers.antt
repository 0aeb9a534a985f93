use Rattle.std.proofs.Common.{◌∙◌, sym, get_or, w16, None}
use Rattle.std.proofs.lemmas.Int.{to_z-of_z}
use Rattle.compact_plan.specs.Sweeps.{centre_at}
use Rattle.compact_plan.specs.Told.{channels}
use Rattle.compact_plan.proofs.TellLaws.{channel_here, told_stays, told_moves}
use Rattle.compact_plan.proofs.telling.tell_channel.Goals as goal

pub returns-then-stays : goal.returns-then-stays
returns-then-stays c =
    let s = c.at-service.result.now in
    told_stays c.args.moves.now.items c.args.band.now (channels c.args.services.now.list c.args.lows.now) c.args.i
    (record { service = s; target = centre_at (get_or c.args.lows.now c.args.i 0) s.leg.work })
    (channel_here c.args.services.now.list c.args.lows.now c.args.i s c.requires.long c.at-service.ensures.service)
    (sym c.stays.ensures ∙ c.if-stays.true)

pub returns : goal.returns
returns c =
    let s = c.at-service.result.now in
    let low = get_or c.args.lows.now c.args.i 0 in
    told_moves c.args.moves.now.items c.push.new.self.items _ c.args.band.now
    (channels c.args.services.now.list c.args.lows.now) c.args.i
    (record { service = s; target = centre_at low s.leg.work })
    (channel_here c.args.services.now.list c.args.lows.now c.args.i s c.requires.long c.at-service.ensures.service)
    (sym c.stays.ensures ∙ c.if-stays.false) c.in_ok-push.ensures.items
    (λ i. record {
      batch = 1;
      name = c.name_of.ensures i;
      from = (to_z-of_z w16 c.present_centre.result (record { sfits = c.present_centre.type_inv })
          ∙ c.present_centre.ensures) i;
      to = (to_z-of_z w16 c.service_centre.result (record { sfits = c.service_centre.type_inv })
          ∙ c.service_centre.ensures) i;
      rest = c.service_rest.ensures i;
      after = None;
    })
