use Rattle.std.proofs.Common.{◌∙◌}
use Rattle.layer_view.proofs.MarkLaws.{some_marked}
use Rattle.layer_view.proofs.marks.is_some_marked.Goals as goal

pub returns : goal.returns
returns c test marks =
    c.is_some.ensures
    ∙ some_marked c.args.band.now c.args.row.now.words test marks c.args.units.now c.requires
    c.places_of-places.result.first c.places_of-places.result.end c.places_of-places.ensures c.highest.result
    c.highest.ensures
