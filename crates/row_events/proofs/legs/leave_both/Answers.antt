use Rattle.row_events.proofs.LeaveBothLaws.{may-leave_first, may-leave_second, has-left_both}
use Rattle.row_events.proofs.legs.leave_both.Goals as goal

pub leave-requires : goal.leave-requires
leave-requires c =
    may-leave_first _ c.args.service.now c.service.view_is c.args.new.now c.requires.new c.args.rows.now
    c.requires.leaves

pub leave-requires-2 : goal.leave-requires-2
leave-requires-2 c =
    may-leave_second _ c.args.service.now c.service.view_is c.args.new.now c.requires.new c.args.rows.now
    c.leave.new.self c.requires.leaves c.leave.ensures

pub returns : goal.returns
returns c =
    has-left_both _ c.args.service.now c.service.view_is c.args.new.now c.requires.new c.args.rows.now
    c.leave.new.self c.leave-2.new.self c.leave.ensures c.leave-2.ensures
