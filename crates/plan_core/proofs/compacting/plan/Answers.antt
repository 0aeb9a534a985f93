use Rattle.std.proofs.Common.{sym, ap, subst}
use Rattle.eon_model.specs.Legal.{Setup}
use Rattle.compact_plan.specs.declared.answers.Compact.{Compact}
use Rattle.compact_plan.specs.Told.{IsCompact, plan_told}
use Rattle.compact_plan.proofs.TellLaws.{at_rest, first_none}
use Rattle.plan_batches.proofs.PlanSteps.{live-targets}
use Rattle.plan_core.proofs.CompactSteps.{busy-Gives, plan-Gives}
use Rattle.plan_core.proofs.compacting.plan.Goals as goal

pub batches-requires : goal.batches-requires
batches-requires c =
    let state = c.args.services.now.list in
    let band = ap (λ (v : Setup). v.band) c.setup.view_is in
    let told = subst (λ (x : Compact). IsCompact c.setup.inside.band state x) c.in-Lowest.is c.in_ok-name.ensures in
    live-targets c.args.setup.now state c.requires.legal c.in-Lowest.targets.moves.list.items
    (told.1 c.args.setup.now c.requires.in_range (sym band) c.requires.legal)

pub returns-in-Busy : goal.returns-in-Busy
returns-in-Busy c =
    let state = c.args.services.now.list in
    busy-Gives c.args.setup.now state c.in-Busy.name
    (subst (λ (x : Compact). IsCompact c.setup.inside.band state x) c.in-Busy.is c.in_ok-name.ensures)

pub returns-in_ok-plan-in-Lowest : goal.returns-in_ok-plan-in-Lowest
returns-in_ok-plan-in-Lowest c =
    let state = c.args.services.now.list in
    let band = ap (λ (v : Setup). v.band) c.setup.view_is in
    let told = subst (λ (x : Compact). IsCompact c.setup.inside.band state x) c.in-Lowest.is c.in_ok-name.ensures in
    plan-Gives c.args.setup.now state (plan_told c.in_ok-plan-in-Lowest.plan) told.0
    (c.in_ok-plan-in-Lowest.ensures c.args.setup.now c.requires.legal (at_rest state (first_none state told.0))
    (told.1 c.args.setup.now c.requires.in_range (sym band) c.requires.legal))
