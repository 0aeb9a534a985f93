use Rattle.row_events.proofs.RowEventLaws.{may-make, is-making}
use Rattle.row_events.proofs.legs.make.Goals as goal

pub enter-requires : goal.enter-requires
enter-requires c =
    may-make _ c.args.service.now c.service.view_is c.args.leg.now c.args.rows.now c.requires

pub returns : goal.returns
returns c =
    is-making _ c.args.service.now c.service.view_is c.args.leg.now c.args.rows.now c.enter.new.self
    c.enter.ensures
