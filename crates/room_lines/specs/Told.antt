-- The commands of the code as commands of the planner's definitions.
use Rattle.eon_model.specs.RoomCommands as asked
use Rattle.room_lines.specs.declared.command.Question.{Question}
use Rattle.room_lines.specs.declared.command.RoomCommand.{RoomCommand}
use Rattle.room_lines.specs.declared.command.RoomCommand.TheVariants as command

-- the question that it is
abbrev pub question_told : Question → asked.Question
question_told q = record { src = q.src; dst = q.dst; rate = q.rate; work = record { fibres = q.fibres; n = q.n } }

-- the command that it is
abbrev pub command_told : RoomCommand → asked.RoomCommand
command_told (command.Room q) = asked.RoomCommand.Room (question_told q)
command_told command.Quit = asked.RoomCommand.Quit
