use Rattle.std.proofs.Common.{refl}
use Rattle.room_lines.proofs.SettingSteps.{command_decides, memory_decides}
use Rattle.room_lines.proofs.answering.reply_to_command.Goals as goal

pub returns-in-Ok : goal.returns-in-Ok
returns-in-Ok c = rw c.in-Room.is (command_decides _ _ _ c.in-Ok.ensures)

pub returns-in-Err : goal.returns-in-Err
returns-in-Err c = rw c.in-Room.is (memory_decides _ _ refl)

pub returns-in-Quit : goal.returns-in-Quit
returns-in-Quit c = rw c.in-Quit.is (command_decides _ _ _ refl)
