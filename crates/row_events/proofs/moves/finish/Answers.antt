use Rattle.row_events.proofs.RowEventLaws.{turn-finish, turn-finish_making, may-change, has-changed}
use Rattle.row_events.proofs.moves.finish.Goals as goal

pub leave-requires : goal.leave-requires
leave-requires c =
    may-change _ c.args.service.now _ (turn-finish_making _ c.args.service.now c.service.view_is _ c.in-Some.is)
    c.args.rows.now c.requires

pub move_channel-requires : goal.move_channel-requires
move_channel-requires c =
    may-change _ c.args.service.now _ (turn-finish _ c.args.service.now c.service.view_is c.in-None.is _ c.target_span.ensures) c.args.rows.now
    c.requires

pub returns-in-Some : goal.returns-in-Some
returns-in-Some c =
    has-changed _ c.args.service.now _ (turn-finish_making _ c.args.service.now c.service.view_is _ c.in-Some.is)
    c.args.rows.now c.leave.new.self c.leave.ensures

pub returns-in-None : goal.returns-in-None
returns-in-None c =
    has-changed _ c.args.service.now _ (turn-finish _ c.args.service.now c.service.view_is c.in-None.is _ c.target_span.ensures) c.args.rows.now
    c.move_channel.new.self c.move_channel.ensures
