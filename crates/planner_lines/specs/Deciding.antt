-- What is decided on a line.
use Rattle.std.specs.Prelude.{◌≡◌, ℕ, ◌≤◌, ⊤, IsTrue, MatchBool, Bool, List, length, Option}
use Rattle.eon_model.specs.Services.{State}
use Rattle.eon_model.specs.Legal.{Setup}
use Rattle.eon_model.specs.Commands.{Command}
use Rattle.eon_model.specs.CommandText.{IsLineOf}
use Rattle.eon_model.specs.Events as changes
use Rattle.eon_model.specs.Replies as model
use Rattle.eon_model.specs.Step as step
use Rattle.eon_model.specs.Answers.{Answers, said}
use Rattle.journal_record.specs.Told.{event_told}
use Rattle.reply_text.specs.Replied.{reply_told}
use Rattle.reply_text.specs.Tellable.{can_tell}
use Rattle.plan_core.specs.declared.decision.Decision.{Decision}
use Rattle.plan_core.specs.declared.decision.Decision.TheVariants.{Say, Change}
use Rattle.planner_lines.specs.Answering.{TakesMemory}

-- The line has this reply, however many bytes are left of the journal. A missed line is one for which there was no memory: its
-- command takes some.
pub record Says (setup : Setup) (state : State) (line : List ℕ) (r : model.Reply) : Type 0 where
  pub missed : Bool
  pub is : (left : Option ℕ) → Answers setup state left line missed (said r)
  pub only : MatchBool missed (TakesMemory line) ⊤
  pub can_tell : IsTrue (can_tell setup state r)

-- The line is that of a command that comes to this change and its reply, which can be told where the change is made.
pub record Changes (setup : Setup) (state : State) (line : List ℕ) (e : changes.Event) (r : model.Reply) : Type 0 where
  pub command : Command
  pub short : length line ≤ 4096
  pub of : IsLineOf line command
  pub comes : step.outcome_of setup state command ≡ step.Change e r
  pub can_tell : IsTrue (can_tell setup (changes.apply setup.network state e) r)

-- what is decided
abbrev pub Decided : Setup → State → List ℕ → Decision → Type 0
Decided setup state line (Say reply) = Says setup state line (reply_told reply)
Decided setup state line (Change e reply) = Changes setup state line (event_told e) (reply_told reply)
