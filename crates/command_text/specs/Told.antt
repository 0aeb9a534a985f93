-- The commands of the code as commands of the planner's definitions.
use Rattle.std.specs.Prelude.{Option}
use Rattle.std.specs.Option.{option_map}
use Rattle.eon_model.specs.Commands as asked
use Rattle.command_text.specs.declared.command.Command.{Command}
use Rattle.command_text.specs.declared.command.Command.TheVariants as command
use Rattle.command_text.specs.declared.command.BackWords.{BackWords}

abbrev pub told_path : BackWords → asked.PathWords
told_path path = record { fibres = path.fibres; n = path.n }

abbrev pub told_backs : Option BackWords → Option asked.PathWords
told_backs back = option_map told_path back

-- the command that it is
abbrev pub told : Command → asked.Command
told (command.Place name src dst rate class work n back) =
    asked.Command.Place (record { name = name; src = src; dst = dst; rate = rate; class = class })
    (record { fibres = work; n = n }) (told_backs back)
told (command.Admit name src dst rate class) =
    asked.Command.Admit (record { name = name; src = src; dst = dst; rate = rate; class = class })
told (command.Release name) = asked.Command.Release name
told (command.Push name n) = asked.Command.Push name n
told (command.Make name avoid) = asked.Command.Make name avoid
told (command.Finish name) = asked.Command.Finish name
told (command.Back name) = asked.Command.Back name
told (command.Refit name) = asked.Command.Refit name
told command.Compact = asked.Command.Compact
told (command.Drill group) = asked.Command.Drill group
told (command.Routes src dst) = asked.Command.Routes src dst
told (command.Show name) = asked.Command.Show name
told command.List = asked.Command.List
told (command.Map fibre) = asked.Command.Map fibre
told command.Stats = asked.Command.Stats
told command.Report = asked.Command.Report
told command.Quit = asked.Command.Quit
