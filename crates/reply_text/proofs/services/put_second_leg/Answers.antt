use Rattle.std.proofs.Common.{sym, ap}
use Rattle.std.specs.Option.{option_and_then}
use Rattle.eon_model.specs.ReplyText.{leg_words}
use Rattle.eon_model.specs.Services.{Service}
use Rattle.reply_text.proofs.WordLaws.{no_words}
use Rattle.plan_report.proofs.InRangeLaws.{found-on}
use Rattle.reply_text.proofs.services.put_second_leg.Goals as goal

pub put_second-requires : goal.put_second-requires
put_second-requires g c =
    let found = found-on c.args.setup.now c.args.services.now.list c.args.name.now c.in-Some.service.now c.requires.setup
    c.requires.legal (sym c.in-Some.ensures) in
    let here = rw (← c.setup.view_is, ← c.service.view_is) at found in
    here.second

pub returns-in_default : goal.returns-in_default
returns-in_default g c = no_words (leg_words c.args.setup.now.network) _ _
    (ap (option_and_then (λ (s : Service). s.next)) c.in_default.ensures)
