-- Which words ask for something, and for what.
use Rattle.std.specs.Prelude.{◌≡◌, List, [], Some}
use Rattle.clap.specs.Walk.{Text}
use Rattle.clap.specs.Simple.{matches_of}
use Rattle.clap.specs.Faults.{fault_of}
use Rattle.eon_model.specs.Modes.{Task, task_of_values}
use Rattle.plan_words.specs.declared.words.Words.{Words}
use Rattle.plan_words.specs.declared.words.Words.TheVariants.{Dry, Init, Serve, Replay, Drive, Migrate, Live, Room}
use Rattle.plan_words.specs.CommandLine.{eonplan_app, values_found}

-- what is asked for, with the names' bytes
abbrev pub task_asked : Words → Task
task_asked (Dry net commands) = Task.Dry net.now commands.now
task_asked (Init net journal) = Task.Init net.now journal.now
task_asked (Serve net journal commands) = Task.Serve net.now journal.now commands.now
task_asked (Replay net journal) = Task.Replay net.now journal.now
task_asked (Drive net seed count) = Task.Drive net.now seed count
task_asked (Migrate net next journal) = Task.Migrate net.now next.now journal.now
task_asked (Live net journal commands) = Task.Live net.now journal.now commands.now
task_asked (Room net journal commands) = Task.Room net.now journal.now commands.now

-- clap takes the words, and the mode and the names that it finds are those of this task
pub record AskFor (texts : List Text) (task : Task) : Type 0 where
  pub taken : fault_of eonplan_app texts ≡ []
  pub said : task_of_values (values_found (matches_of eonplan_app texts)) ≡ Some task

-- the texts are these words
abbrev pub AreWords : List Text → Words → Type 0
AreWords texts words = AskFor texts (task_asked words)
