use Rattle.std.proofs.Common.{◌∙◌, ap, Some}
use Rattle.eon_model.specs.Replies.{Reply}
use Rattle.eon_model.specs.Services.{Path}
use Rattle.eon_model.specs.Step.{AskedPath}
use Rattle.plan_core.proofs.FaultSteps.{band-some, band-none}
use Rattle.plan_core.proofs.asked_leg.placed_path.Goals as goal

pub returns-in-Some-clause-fault : goal.returns-in-Some-clause-fault
returns-in-Some-clause-fault c =
    (band-some c.args.band.now c.args.sized c.slot_of-slot.result c.in-Some.slot c.slot_of-slot.ensures c.in-Some.is).0

pub returns-in-Some-clause-path : goal.returns-in-Some-clause-path
returns-in-Some-clause-path c =
    ap (λ (p : AskedPath). let q : Path = record { route = p.route; slot = c.in-Some.slot } in q) c.path.view_is
    ∙ (band-some c.args.band.now c.args.sized c.slot_of-slot.result c.in-Some.slot c.slot_of-slot.ensures c.in-Some.is).1

pub returns-in-None-clause-fault : goal.returns-in-None-clause-fault
returns-in-None-clause-fault c =
    ap (λ (p : AskedPath). Some (Reply.Band p.part)) c.path.view_is
    ∙ band-none c.args.band.now c.args.sized c.slot_of-slot.result c.slot_of-slot.ensures c.in-None.is
