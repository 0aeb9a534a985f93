use Rattle.room_lines.specs.Told.{command_told}
use Rattle.room_lines.proofs.LineLaws.{command-found, command-refused}
use Rattle.room_lines.proofs.reading.read_room.Goals as goal

pub returns-in-Ok-clause-ok : goal.returns-in-Ok-clause-ok
returns-in-Ok-clause-ok c = command-found c.args.line.now (command_told c.in-Ok.command) c.in-Ok.ensures

pub overflow_sub-result : goal.overflow_sub-result
overflow_sub-result c = (command-refused c.args.line.now c.in-Err.stuck.left c.in-Err.ensures).few

pub returns-in-Err-clause-err : goal.returns-in-Err-clause-err
returns-in-Err-clause-err c = let r = command-refused c.args.line.now c.in-Err.stuck.left c.in-Err.ensures in
    (r.no_line, r.place)
