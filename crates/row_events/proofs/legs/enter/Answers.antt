use Rattle.row_events.proofs.RowEventLaws.{may-enter, has-entered}
use Rattle.row_events.proofs.legs.enter.Goals as goal

pub enter-requires : goal.enter-requires
enter-requires c = may-enter _ c.args.service.now c.service.view_is c.args.rows.now c.requires

pub returns : goal.returns
returns c = has-entered _ c.args.service.now c.service.view_is c.args.rows.now c.enter.new.self c.enter.ensures
