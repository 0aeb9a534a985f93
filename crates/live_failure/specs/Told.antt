-- The commands of the code as commands of the planner's definitions.
use Rattle.eon_model.specs.LiveCommands as asked
use Rattle.live_failure.specs.declared.command.LiveCommand.{LiveCommand}
use Rattle.live_failure.specs.declared.command.LiveCommand.TheVariants as command

-- the command that it is
abbrev pub command_told : LiveCommand → asked.LiveCommand
command_told (command.Fail group) = asked.LiveCommand.Fail group
command_told command.Repair = asked.LiveCommand.Repair
command_told command.Lights = asked.LiveCommand.Lights
command_told command.Exposed = asked.LiveCommand.Exposed
command_told (command.Audit name) = asked.LiveCommand.Audit name
command_told command.Quit = asked.LiveCommand.Quit
