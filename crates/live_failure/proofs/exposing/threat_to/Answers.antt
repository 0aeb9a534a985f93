use Rattle.std.proofs.Common.{sym}
use Rattle.std.specs.Option.{option_to_list}
use Rattle.live_failure.proofs.RivalLaws.{threat-found}
use Rattle.live_failure.proofs.exposing.threat_to.Goals as goal

pub returns : goal.returns
returns c =
    let found = rw c.deref.ensures.value at c.first_threat.ensures in
    threat-found c.args.services.now.list c.args.own.now c.in_ok-places.places.items c.in_ok-places.ensures c.args.order.now
    (option_to_list c.args.failed) c.first_threat.result (sym c.if-is_dark_now.ensures) found
