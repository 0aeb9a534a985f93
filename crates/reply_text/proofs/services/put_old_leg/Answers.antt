use Rattle.std.proofs.Common.{sym}
use Rattle.eon_model.specs.ReplyText.{leg_words}
use Rattle.reply_text.proofs.WordLaws.{no_words}
use Rattle.plan_report.proofs.InRangeLaws.{found-on}
use Rattle.reply_text.proofs.services.put_old_leg.Goals as goal

pub put_leg-requires : goal.put_leg-requires
put_leg-requires g c =
    let found = found-on c.args.setup.now c.args.services.now.list c.args.name.now c.in-Some.service.now c.requires.setup
    c.requires.legal (sym c.in-Some.ensures) in
    let here = rw (← c.setup.view_is, ← c.service.view_is) at found in
    here.carried

pub returns-in_default : goal.returns-in_default
returns-in_default g c = no_words (λ s. leg_words c.args.setup.now.network s.leg) _ _ c.in_default.ensures
