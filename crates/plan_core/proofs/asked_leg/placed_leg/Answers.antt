use Rattle.std.proofs.Common.{◌∙◌, ap, Some}
use Rattle.std.specs.Prelude.{Result}
use Rattle.std.specs.Option.{option_map}
use Rattle.std.specs.Result.{result_err}
use Rattle.std.proofs.lemmas.Result.{err_from_is_err_and}
use Rattle.reply_text.specs.declared.reply.Reply.{Reply}
use Rattle.reply_text.specs.Replied.{reply_told}
use Rattle.eon_model.specs.Services.{Leg}
use Rattle.plan_core.specs.Placing.{band_fault_of}
use Rattle.plan_core.proofs.FaultSteps.{first-work, first-back}
use Rattle.plan_core.proofs.asked_leg.placed_leg.Goals as goal

pub returns-in_err-work-clause-fault : goal.returns-in_err-work-clause-fault
returns-in_err-work-clause-fault c =
    let p = err_from_is_err_and c.from_residual.result c.from_residual.ensures.1 in
    ap (λ (r : Result Leg Reply). option_map reply_told (result_err r)) p.1
    ∙ ap (λ (e : Reply). Some (reply_told e)) p.2
    ∙ first-work (band_fault_of c.args.band.now) c.args.paths.work c.args.paths.back
    (reply_told c.in_err-work.field-0.0) c.in_err-work.ensures.fault

pub returns-in_err-back-clause-fault : goal.returns-in_err-back-clause-fault
returns-in_err-back-clause-fault c =
    let p = err_from_is_err_and c.from_residual-in_err-back.result c.from_residual-in_err-back.ensures.1 in
    ap (λ (r : Result Leg Reply). option_map reply_told (result_err r)) p.1
    ∙ ap (λ (e : Reply). Some (reply_told e)) p.2
    ∙ first-back (band_fault_of c.args.band.now) c.args.paths.work c.args.paths.back
    (Some (reply_told c.in_err-back.field-0.0)) c.in_ok-work.ensures.fault c.in_err-back.ensures.fault

pub returns-clause-fault : goal.returns-clause-fault
returns-clause-fault c =
    first-back (band_fault_of c.args.band.now) c.args.paths.work c.args.paths.back
    _ c.in_ok-work.ensures.fault c.in_ok-back.ensures.fault
