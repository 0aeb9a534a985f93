use Rattle.std.proofs.Common.{◌∙◌, sym, ap}
use Rattle.std.specs.Bool.{then_some}
use Rattle.std.specs.Option.{option_copied}
use Rattle.eon_model.specs.CommandText.{is_rate}
use Rattle.eon_model.specs.Events.{leg_told}
use Rattle.journal_record.specs.Told as told
use Rattle.plan_core.specs.declared.told_leg.Traffic.{Traffic}
use Rattle.plan_core.specs.Following.{leg_suits}
use Rattle.plan_core.proofs.FollowLegLaws.{make_busy, make_unfit, make_blocked, make_made, make-range, live-rate}
use Rattle.plan_core.proofs.follow_leg.making.Goals as goal

pub told_leg-requires-clause-rate : goal.told_leg-requires-clause-rate
told_leg-requires-clause-rate c = ap (λ (t : Traffic). is_rate t.rate) c.traffic_of.ensures
    ∙ live-rate c.args.services.now.list c.args.name.now c.in-Some.service.now c.requires.named
    (sym c.find.ensures ∙ ap option_copied c.in-Some.is)

pub told_leg-requires-clause-backup : goal.told_leg-requires-clause-backup
told_leg-requires-clause-backup c =
    make-range c.args.name.now c.args.class (told.leg_told c.args.text.now) c.requires.in_range

pub returns-then-not-may_begin : goal.returns-then-not-may_begin
returns-then-not-may_begin c =
    make_busy c.args.setup.now c.args.services.now.list c.args.name.now c.in-Some.service.now c.requires.legal
    (sym c.find.ensures ∙ ap option_copied c.in-Some.is) c.args.class (told.leg_told c.args.text.now)
    (sym c.may_begin.ensures ∙ c.if-not-may_begin.true)

pub returns-in_default-2 : goal.returns-in_default-2
returns-in_default-2 c =
    let leg = leg_told c.args.setup.now.network (told.leg_told c.args.text.now) in
    make_unfit c.args.setup.now c.args.services.now.list c.args.name.now c.in-Some.service.now c.requires.legal
    (sym c.find.ensures ∙ ap option_copied c.in-Some.is) c.args.class (told.leg_told c.args.text.now)
    (sym c.in_default-2.is ∙ c.in_ok-leg.ensures
    ∙ ap (λ (t : Traffic). then_some (leg_suits c.args.setup.now t.src t.dst t.rate c.args.class leg) leg) c.traffic_of.ensures)

pub returns-then-not-may_stand : goal.returns-then-not-may_stand
returns-then-not-may_stand c =
    let leg = leg_told c.args.setup.now.network (told.leg_told c.args.text.now) in
    make_blocked c.args.setup.now c.args.services.now.list c.args.name.now c.in-Some.service.now c.requires.legal
    (sym c.find.ensures ∙ ap option_copied c.in-Some.is) c.args.class (told.leg_told c.args.text.now)
    c.in-Some-2.leg (sym c.in-Some-2.is ∙ c.in_ok-leg.ensures
    ∙ ap (λ (t : Traffic). then_some (leg_suits c.args.setup.now t.src t.dst t.rate c.args.class leg) leg) c.traffic_of.ensures)
    (sym c.may_stand.ensures ∙ c.if-not-may_stand.true)

pub returns : goal.returns
returns c =
    let leg = leg_told c.args.setup.now.network (told.leg_told c.args.text.now) in
    make_made c.args.setup.now c.args.services.now.list c.args.name.now c.in-Some.service.now c.requires.legal
    (sym c.find.ensures ∙ ap option_copied c.in-Some.is) c.args.class (told.leg_told c.args.text.now)
    c.in-Some-2.leg (sym c.in-Some-2.is ∙ c.in_ok-leg.ensures
    ∙ ap (λ (t : Traffic). then_some (leg_suits c.args.setup.now t.src t.dst t.rate c.args.class leg) leg) c.traffic_of.ensures)
    (sym c.may_begin.ensures ∙ c.if-not-may_begin.false) (sym c.may_stand.ensures ∙ c.if-not-may_stand.false)
