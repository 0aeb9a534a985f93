use Rattle.std.proofs.Common.{◌∙◌, sym}
use Rattle.eon_model.specs.Events as events
use Rattle.journal_record.specs.Told as told
use Rattle.plan_core.specs.Following.{path_suits}
use Rattle.plan_core.proofs.ToldLegLaws.{back_apart, back_shares, back_unfit}
use Rattle.plan_core.proofs.told_leg.told_backup.Goals as goal

pub returns : goal.returns
returns c = back_apart (path_suits c.args.setup.now c.args.traffic.src c.args.traffic.dst c.args.traffic.rate)
    c.args.work.now.route (events.path_told c.args.setup.now.network (told.path_told c.args.text.now)) c.in-Some.back
    (sym c.in-Some.is ∙ c.in_ok-back.ensures) (sym c.share_group.ensures ∙ c.if-share_group.false)

pub returns-then-share_group : goal.returns-then-share_group
returns-then-share_group c = back_shares
    (path_suits c.args.setup.now c.args.traffic.src c.args.traffic.dst c.args.traffic.rate)
    c.args.work.now.route (events.path_told c.args.setup.now.network (told.path_told c.args.text.now)) c.in-Some.back
    (sym c.in-Some.is ∙ c.in_ok-back.ensures) (sym c.share_group.ensures ∙ c.if-share_group.true)

pub returns-in_default : goal.returns-in_default
returns-in_default c = back_unfit
    (path_suits c.args.setup.now c.args.traffic.src c.args.traffic.dst c.args.traffic.rate)
    c.args.work.now.route (events.path_told c.args.setup.now.network (told.path_told c.args.text.now))
    (sym c.in_default.is ∙ c.in_ok-back.ensures)
