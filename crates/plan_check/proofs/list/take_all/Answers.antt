use Rattle.std.proofs.Common.{◌∙◌, sym, ap, subst, ◌+◌, ◌-◌, List, ℕ, Result}
use Rattle.std.specs.Prelude.{IfErr}
use Rattle.std.proofs.lemmas.Result.{err_from_is_err_and}
use Rattle.eon_model.specs.Legal.{Setup}
use Rattle.eon_model.specs.PlanTexts.{service_told}
use Rattle.eon_model.specs.PlanReadings.{ListOf, list_reading, with_service_line, services_from}
use Rattle.net_file.specs.Readings.{first_read}
use Rattle.plan_check.specs.declared.list.ListRefusal.{ListRefusal}
use Rattle.plan_check.specs.Lists.{IsFaultOf}
use Rattle.plan_check.proofs.ListSteps.{goes-on, stops-at}
use Rattle.plan_check.proofs.list.take_all.Goals as goal

pub returns-in_err-take_next-clause-refused : goal.returns-in_err-take_next-clause-refused
returns-in_err-take_next-clause-refused c =
    let setup = c.args.core.now.setup in
    let all = list_reading setup c.args.bytes.now in
    let lines = c.loop-i.lines in
    let p = err_from_is_err_and c.from_residual.result c.from_residual.ensures.1 in
    let told = subst (λ (s : Setup). IsFaultOf (with_service_line s (c.loop-i.i + 2) c.loop-i.core.state (first_read service_told lines.0) ListOf) c.in_err-take_next.field-0.0)
    c.loop-i.invariant.setup c.in_err-take_next.ensures.refused in
    let fault = stops-at setup all c.loop-i.i c.in-Some.count c.loop-i.core.state lines.0 lines.1 c.loop-i.invariant.so_far
    c.loop-i-test.true c.in_err-take_next.field-0.0 told in
    subst (λ (r : Result (Unit {0}) ListRefusal). IfErr r (λ e. IsFaultOf all e)) (sym p.1)
    (subst (λ (e : ListRefusal). IsFaultOf all e) (sym p.2) fault)

pub loop-i-preserved : goal.loop-i-preserved
loop-i-preserved c =
    let setup = c.args.core.now.setup in
    let all = list_reading setup c.args.bytes.now in
    let lines = c.loop-i.lines in
    let next = c.take_next.new.core.state in
    let taken = ap (λ (s : Setup). with_service_line s (c.loop-i.i + 2) c.loop-i.core.state (first_read service_told lines.0) ListOf) (sym c.loop-i.invariant.setup)
    ∙ c.in_ok-take_next.ensures.taken in
    record {
      setup = c.take_next.ensures.setup ∙ c.loop-i.invariant.setup;
      waiting = c.in_ok-take_next.ensures.waiting;
      so_far = goes-on setup all c.loop-i.i c.in-Some.count c.loop-i.core.state lines.0 lines.1 c.loop-i.invariant.so_far
          c.loop-i-test.true next taken
          ∙ ap (λ (ls : List (List ℕ) × List ℕ). services_from setup (c.loop-i.i + 1 + 2) (c.in-Some.count - (c.loop-i.i + 1)) next ls.0 ls.1)
          (sym c.take_next.ensures.after);
    }
