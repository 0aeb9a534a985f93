use Rattle.layer_view.proofs.OverLaws.{all_fibres, begins_equal}
use Rattle.layer_view.proofs.layer.Layer.over.Goals as goal

pub returns-clause-fibres : goal.returns-clause-fibres
returns-clause-fibres g c =
    all_fibres (g.V.Occupied.band c.args.base.now) (g.V.Occupied.fibres c.args.base.now) c.args.rows.now c.requires.band
    c.requires.fibres

pub returns-clause-equal : goal.returns-clause-equal
returns-clause-equal g c = begins_equal (g.V.Occupied.rows c.args.base.now) c.args.rows.now 256
