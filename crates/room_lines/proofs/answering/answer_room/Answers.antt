use Rattle.eon_outside.specs.declared.reading.Failed.{Failed}
use Rattle.room_lines.proofs.SettingSteps.{gives_whole, gives_part}
use Rattle.room_lines.proofs.answering.answer_room.Goals as goal

pub returns-in-Ok-clause-told : goal.returns-in-Ok-clause-told
returns-in-Ok-clause-told g c =
    gives_whole {E = Failed} c.args.rooms.now c.args.line.now _ _ c.reply_to-reply.result c.flow_behind.result c.reply_to-reply.ensures
    (c.in-Ok.ensures.bytes c.args.rooms.now.setup c.args.rooms.now.state) c.flow_behind.ensures

pub returns-clause-told : goal.returns-clause-told
returns-clause-told g c =
    gives_part c.args.rooms.now c.args.line.now _ _ c.reply_to-reply.result c.in-Err.field-0 c.reply_to-reply.ensures
    (c.in-Err.ensures.part c.args.rooms.now.setup c.args.rooms.now.state)
