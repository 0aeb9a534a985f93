use Rattle.std.proofs.Common.{◌∙◌, sym, ap}
use Rattle.std.specs.Bool.{then_some}
use Rattle.eon_model.specs.CommandText.{is_rate}
use Rattle.eon_model.specs.Events.{leg_told}
use Rattle.journal_record.specs.Told as told
use Rattle.plan_core.specs.declared.told_leg.Traffic.{Traffic}
use Rattle.plan_core.specs.Following.{leg_suits}
use Rattle.plan_core.proofs.FollowLegLaws.{enter_taken, enter_unfit, enter_blocked, enter_made, enter-range}
use Rattle.plan_core.proofs.follow_leg.entering.Goals as goal

pub told_leg-requires-clause-rate : goal.told_leg-requires-clause-rate
told_leg-requires-clause-rate c = ap (λ (t : Traffic). is_rate t.rate) c.traffic_told.ensures
    ∙ (enter-range (told.enter_told c.args.text.now) c.requires.in_range).0

pub told_leg-requires-clause-backup : goal.told_leg-requires-clause-backup
told_leg-requires-clause-backup c = (enter-range (told.enter_told c.args.text.now) c.requires.in_range).1

pub returns-in_default : goal.returns-in_default
returns-in_default c =
    let leg = leg_told c.args.setup.now.network (told.leg_told c.args.text.now.leg) in
    enter_unfit c.args.setup.now c.args.services.now.list c.requires.legal (told.enter_told c.args.text.now)
    (sym c.in_default.is ∙ c.in_ok-leg.ensures
    ∙ ap (λ (t : Traffic). then_some (leg_suits c.args.setup.now t.src t.dst t.rate c.args.text.now.class leg) leg)
    c.traffic_told.ensures)

pub returns-then-is_blocked : goal.returns-then-is_blocked
returns-then-is_blocked c =
    let leg = leg_told c.args.setup.now.network (told.leg_told c.args.text.now.leg) in
    enter_blocked c.args.setup.now c.args.services.now.list c.requires.legal (told.enter_told c.args.text.now)
    c.in-Some.leg (sym c.in-Some.is ∙ c.in_ok-leg.ensures
    ∙ ap (λ (t : Traffic). then_some (leg_suits c.args.setup.now t.src t.dst t.rate c.args.text.now.class leg) leg)
    c.traffic_told.ensures) (sym c.is_blocked.ensures ∙ c.if-is_blocked.true)

pub returns : goal.returns
returns c =
    let leg = leg_told c.args.setup.now.network (told.leg_told c.args.text.now.leg) in
    enter_made c.args.setup.now c.args.services.now.list c.requires.legal (told.enter_told c.args.text.now)
    c.in-Some.leg (sym c.in-Some.is ∙ c.in_ok-leg.ensures
    ∙ ap (λ (t : Traffic). then_some (leg_suits c.args.setup.now t.src t.dst t.rate c.args.text.now.class leg) leg)
    c.traffic_told.ensures) (sym c.may_join.ensures ∙ c.if-not-may_join.false)
    (sym c.is_blocked.ensures ∙ c.if-is_blocked.false) c.service_on.result c.service_on.ensures

pub returns-then-not-may_join : goal.returns-then-not-may_join
returns-then-not-may_join c =
    enter_taken c.args.setup.now c.args.services.now.list c.requires.legal (told.enter_told c.args.text.now)
    (sym c.may_join.ensures ∙ c.if-not-may_join.true)
