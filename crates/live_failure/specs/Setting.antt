-- How the lines of a stream are answered over a live state.
use Rattle.std.specs.Prelude.{ℕ, IsTrue, false, List, Option}
use Rattle.eon_model.specs.Network.{Network}
use Rattle.eon_model.specs.Services.{State}
use Rattle.eon_model.specs.LiveCommands.{LiveCommand, IsLiveLineOf, live_takes_memory}
use Rattle.eon_model.specs.LiveRun.{live}
use Rattle.eon_model.specs.LiveStep.{LiveAnswer}
use Rattle.line_session.specs.Answering.{Answering}

-- A network, and the services that are live on it.
pub record LiveSetting : Type 0 where
  pub network : Network
  pub state : State

-- the line is that of a command that takes memory
abbrev pub TakesMemory : List ℕ → Type 0
TakesMemory line = (c : LiveCommand) × IsLiveLineOf line c × IsTrue (live_takes_memory c)

-- The live mode answers. Only lines of commands that take memory are missed, and no answer tells of a change.
abbrev pub live_by : LiveSetting → Answering (Option ℕ) LiveAnswer
live_by s = record {
  machine = live s.network s.state;
  MayMiss = TakesMemory;
  is_change = λ a. false;
}
