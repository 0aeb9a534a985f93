use Rattle.std.proofs.Common.{◌∙◌, sym, ap}
use Rattle.eon_model.specs.Grid.{units_of}
use Rattle.eon_model.specs.Services.{Path}
use Rattle.make_room.proofs.HeightLaws.{base_at}
use Rattle.make_room.proofs.heights.base.Goals as goal

pub returns-in-Some-clause-value : goal.returns-in-Some-clause-value
returns-in-Some-clause-value c =
    c.begin.ensures.value
    ∙ base_at c.args.from c.args.band.now c.args.path.now c.units-units.result c.in-Some.part
    (c.units-units.ensures.value ∙ ap (λ (p : Path). units_of p.slot) c.path.view_is)
    (sym c.part_of.ensures ∙ c.in-Some.is)
