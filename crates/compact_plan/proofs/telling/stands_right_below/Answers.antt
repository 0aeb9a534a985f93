use Rattle.std.proofs.Common.{◌∙◌, ap, sym, ℕ}
use Rattle.eon_model.specs.Grid.{is_slot}
use Rattle.eon_model.specs.Plan.{touches_from_below}
use Rattle.eon_model.specs.Services.{Path, Holding}
use Rattle.compact_plan.specs.Told.{place_at}
use Rattle.compact_plan.proofs.TellLaws.{stands}
use Rattle.compact_plan.proofs.telling.stands_right_below.Goals as goal

pub returns : goal.returns
returns c =
    let above = place_at c.args.begin c.args.above.now in
    c.is_right_below.ensures
    ∙ ap (λ (h : ℕ). touches_from_below (place_at h c.args.path.now) above) c.path_height.ensures.value
    ∙ ap (λ (h : Holding). touches_from_below h above)
    (stands c.args.path.now (ap (λ (p : Path). is_slot p.slot) (sym c.path.view_is) ∙ c.m.ensures.valid))
