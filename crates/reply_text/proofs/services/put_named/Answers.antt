use Rattle.std.proofs.Common.{sym}
use Rattle.plan_report.proofs.InRangeLaws.{found-on}
use Rattle.reply_text.proofs.services.put_named.Goals as goal

pub put_service-requires : goal.put_service-requires
put_service-requires g c =
    let found = found-on c.args.setup.now c.args.services.now.list c.args.name.now c.in-Some.service.now c.requires.setup
    c.requires.legal (sym c.in-Some.ensures) in
    rw (← c.setup.view_is) at found
