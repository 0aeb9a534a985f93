use Rattle.std.proofs.Common.{◌≡◌, ◌∙◌, sym, ap, subst, Option, Some}
use Rattle.std.specs.Prelude.{IfErr, OnOk}
use Rattle.std.specs.Option.{option_map}
use Rattle.eon_model.specs.Services.{State}
use Rattle.eon_model.specs.Legal.{Setup}
use Rattle.eon_model.specs.PlanReadings.{ListOf, knows_names, service_entered, entered, with_entered}
use Rattle.journal_record.specs.Told as told
use Rattle.plan_texts.specs.ServiceTold as texts
use Rattle.plan_check.specs.declared.list.ListWhy.TheVariants.{NotLegal}
use Rattle.plan_check.specs.Lists.{IsFaultOf}
use Rattle.plan_check.specs.Numbered.{service_if_told}
use Rattle.plan_check.proofs.EnterSteps.{entered-unknown, entered-untold, told-in-range, told-entered, none-enters}
use Rattle.plan_check.proofs.ListSteps.{told-fault}
use Rattle.plan_check.proofs.entering.enter.Goals as goal

pub returns-then-not-knows_names-clause-refused : goal.returns-then-not-knows_names-clause-refused
returns-then-not-knows_names-clause-refused c =
    let setup = c.args.core.now.setup in
    let state = c.args.core.now.state in
    let s = texts.service_told c.args.service.now in
    let unknown = ap (λ (v : Setup). knows_names v.network s) (sym (c.behind-core.view_is ∙ c.setup.ensures.setup))
    ∙ sym c.knows_names.ensures ∙ c.if-not-knows_names.true in
    told-fault (with_entered c.args.line (entered setup state s) ListOf) c.not_legal.result c.args.line NotLegal c.not_legal.ensures
    (none-enters c.args.line (entered setup state s) (entered-unknown setup state s unknown))

pub follow-requires : goal.follow-requires
follow-requires c =
    let setup = c.args.core.now.setup in
    let state = c.args.core.now.state in
    let s = texts.service_told c.args.service.now in
    let known = ap (λ (v : Setup). knows_names v.network s) (sym (c.behind-core.view_is ∙ c.setup.ensures.setup))
    ∙ sym c.knows_names.ensures ∙ c.if-not-knows_names.false in
    let is = ap (option_map told.enter_told) (sym c.in-Some.is) ∙ c.in_ok-text.ensures
    ∙ ap (λ (v : Setup). service_if_told (service_entered v.network s)) c.setup-2.ensures.setup in
    told-in-range setup state s known (told.enter_told c.in-Some.text) is

pub returns-in-Some-clause-entered : goal.returns-in-Some-clause-entered
returns-in-Some-clause-entered c =
    let setup = c.args.core.now.setup in
    let state = c.args.core.now.state in
    let s = texts.service_told c.args.service.now in
    let known = ap (λ (v : Setup). knows_names v.network s) (sym (c.behind-core.view_is ∙ c.setup.ensures.setup))
    ∙ sym c.knows_names.ensures ∙ c.if-not-knows_names.false in
    let is = ap (option_map told.enter_told) (sym c.in-Some.is) ∙ c.in_ok-text.ensures
    ∙ ap (λ (v : Setup). service_if_told (service_entered v.network s)) c.setup-2.ensures.setup in
    subst (λ (o : Option State). OnOk c.follow.result (o ≡ Some c.follow.new.core.state))
    (told-entered setup state s known (told.enter_told c.in-Some.text) is) c.follow.ensures.entered

pub returns-in-Some-clause-refused : goal.returns-in-Some-clause-refused
returns-in-Some-clause-refused c =
    let setup = c.args.core.now.setup in
    let state = c.args.core.now.state in
    let s = texts.service_told c.args.service.now in
    let known = ap (λ (v : Setup). knows_names v.network s) (sym (c.behind-core.view_is ∙ c.setup.ensures.setup))
    ∙ sym c.knows_names.ensures ∙ c.if-not-knows_names.false in
    let is = ap (option_map told.enter_told) (sym c.in-Some.is) ∙ c.in_ok-text.ensures
    ∙ ap (λ (v : Setup). service_if_told (service_entered v.network s)) c.setup-2.ensures.setup in
    subst (λ (o : Option State). IfErr c.follow.result (λ e. IsFaultOf (with_entered c.args.line o ListOf) e))
    (told-entered setup state s known (told.enter_told c.in-Some.text) is) c.follow.ensures.refused

pub returns-in-None-clause-refused : goal.returns-in-None-clause-refused
returns-in-None-clause-refused c =
    let setup = c.args.core.now.setup in
    let state = c.args.core.now.state in
    let s = texts.service_told c.args.service.now in
    let is = ap (option_map told.enter_told) (sym c.in-None.is) ∙ c.in_ok-text.ensures
    ∙ ap (λ (v : Setup). service_if_told (service_entered v.network s)) c.setup-2.ensures.setup in
    told-fault (with_entered c.args.line (entered setup state s) ListOf) c.not_legal-in-None.result c.args.line NotLegal
    c.not_legal-in-None.ensures
    (none-enters c.args.line (entered setup state s) (entered-untold setup state s c.setup.ensures.in_range c.requires is))
