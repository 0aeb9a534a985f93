use Rattle.std.proofs.Common.{◌≤ℤ◌, ◌∙◌, sym, ap, subst, pos, ℤ, w32}
use Rattle.std.proofs.lemmas.Int.{to_z-of_z}
use Rattle.eon_model.specs.Grid.{Units, is_slot, hull}
use Rattle.eon_model.specs.Services.{Path}
use Rattle.plan_batches.proofs.MeetLaws.{hull_low}
use Rattle.plan_batches.proofs.mover.reach.Goals as goal

pub height-requires : goal.height-requires
height-requires c =
    let s = c.args.path.now.slot in
    let valid = ap (λ (p : Path). is_slot p.slot) (sym c.path.view_is) ∙ c.m.ensures.valid in
    let lo = to_z-of_z w32 c.lo.result (record { sfits = c.lo.type_inv }) ∙ c.lo.ensures ∙ ap (λ (u : Units). u.lo) c.hull.ensures
    ∙ ap (λ (u : Units). (hull u c.around.result).lo) c.path_span.ensures.units in
    subst (λ (z : ℤ). z ≤ℤ pos 4095) (sym lo) (hull_low s c.around.result.lo valid)
