-- How the planner answers lines over a log.
use Rattle.std.specs.Prelude.{◌≡◌, ℕ, IsTrue, Bool, false, ◌&&◌, List, Option, None, IfSome, is_some}
use Rattle.std.specs.Option.{option_and_then}
use Rattle.eon_model.specs.Legal.{Setup, Legal}
use Rattle.eon_model.specs.NetworkText.{is_setup}
use Rattle.eon_model.specs.Commands.{Command}
use Rattle.eon_model.specs.CommandText.{IsLineOf}
use Rattle.eon_model.specs.Events.{Event}
use Rattle.eon_model.specs.Answers.{Answer, Answers, takes_memory}
use Rattle.eon_model.specs.Run.{Situation, planner, changes_of}
use Rattle.line_session.specs.Answering as lines

-- What stays while it answers: the setup, whether replies are given before each change is kept, and the references to the machine
-- and to the log.
pub record Setting : Type 0 where
  pub setup : Setup
  pub acknowledges : Bool
  pub core : ℕ
  pub log : ℕ

-- the line is that of a command that takes memory
abbrev pub TakesMemory : List ℕ → Type 0
TakesMemory line = (c : Command) × IsLineOf line c × IsTrue (takes_memory c)

-- It answers as the planner does. Where replies are given before each change, the answers with a change tell of one.
abbrev pub answering : Setting → lines.Answering Situation Answer
answering s = record {
  machine = planner Answers s.setup;
  MayMiss = TakesMemory;
  is_change = λ a. s.acknowledges && is_some a.event;
}

-- the change of an answer that is in doubt
abbrev pub change_in : Option Answer → Option Event
change_in doubt = option_and_then (λ a. a.event) doubt

-- The changes of these answers were kept, and the one in doubt, which has a change, was kept or not.
abbrev pub WentBy : (List Event → Option Event → Type 0) → List Answer → Option Answer → Type 0
WentBy Keeps answers doubt = Keeps (changes_of answers) (change_in doubt) × IfSome doubt (λ a. IsTrue (is_some a.event))

-- its setup is in range, and the state is legal
abbrev pub StandsWell : Setting → Situation → Type 0
StandsWell s place = IsTrue (is_setup s.setup) × Legal s.setup place.state

-- It stands well, the log is open, and where replies are given in large pieces it counts no bytes.
pub record IsReady (setup : Setup) (place : Situation) (acknowledges : Bool) (IsOpen : Type 0) : Type 0 where
  pub open_log : IsOpen
  pub in_range : IsTrue (is_setup setup)
  pub legal : Legal setup place.state
  pub uncounted : acknowledges ≡ false → place.left ≡ None
