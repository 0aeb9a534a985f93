-- What is told of a journal that is replayed.
use Rattle.std.specs.Prelude.{◌≡◌, ◌≢◌, ⊤, ℕ, Bool, true, false, List, length, Some, Result, Ok, Err}
use Rattle.eon_model.specs.Services.{State}
use Rattle.eon_model.specs.Legal.{Setup}
use Rattle.eon_model.specs.Events.{Event}
use Rattle.eon_model.specs.Journal.{Stands}
use Rattle.eon_model.specs.JournalFault.{IsKept, IsRefusedAt}
use Rattle.eon_model.specs.Replay.{replay}
use Rattle.eon_model.specs.TopLines as model
use Rattle.journal_replay.specs.declared.fault.JournalWhy.{JournalWhy}
use Rattle.journal_replay.specs.declared.fault.JournalWhy.TheVariants.{Head, Record, Event as OfEvent}
use Rattle.journal_replay.specs.declared.fault.ReplayFault.{ReplayFault}
use Rattle.journal_replay.specs.declared.fault.ReplayFault.TheVariants.{Refused, Other, Disk, Memory}
use Rattle.plan_journal.specs.declared.fault.OpenFault.{OpenFault}
use Rattle.plan_journal.specs.declared.fault.OpenFault.TheVariants as opens

-- what is wrong, in the planner's definitions
abbrev pub why_told : JournalWhy → model.JournalWhy
why_told Head = model.JournalWhy.Head
why_told Record = model.JournalWhy.Record
why_told OfEvent = model.JournalWhy.Event

-- So many events stand in the journal, which is bound to the network of this digest, with the last gate at p. They
-- replay, and lead to this state.
pub record StandsFor (setup : Setup) (bytes digest : List ℕ) (state : State) (p count : ℕ) : Type 0 where
  pub events : List Event
  pub stands : Stands bytes digest setup.journal events p
  pub replays : replay setup events ≡ Some state
  pub counted : count ≡ length events

-- it stands for a state, with the last gate at p; it is refused; or it is another network's
abbrev pub IsReplayed : Setup → List ℕ → List ℕ → State → ℕ → Result ℕ ReplayFault → Type 0
IsReplayed setup bytes own state p (Ok count) = StandsFor setup bytes own state p count
IsReplayed setup bytes own state p (Err (Refused at why)) = IsRefusedAt setup bytes own at (why_told why)
IsReplayed setup bytes own state p (Err (Other kept mine)) = IsKept bytes setup.journal kept × (kept ≢ own) × (mine ≡ own)
IsReplayed setup bytes own state p (Err Disk) = ⊤
IsReplayed setup bytes own state p (Err Memory) = ⊤

-- whether a call of the disk failed
abbrev pub replay_failed : {T : Type 0} → Result T ReplayFault → Bool
replay_failed (Err Disk) = true
replay_failed (Err (Refused at why)) = false
replay_failed (Err (Other kept own)) = false
replay_failed (Err Memory) = false
replay_failed (Ok x) = false

-- what a fault of the head is, as one of the replay
abbrev pub replay_fault : OpenFault → ReplayFault
replay_fault (opens.BadHead at) = Refused at Head
replay_fault (opens.Other kept own) = Other kept own
replay_fault opens.Disk = Disk
