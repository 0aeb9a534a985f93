-- The events of a journal that were followed so far.
use Rattle.std.specs.Prelude.{◌≡◌, ⊤, ℕ, ◌+◌, ◌-◌, Bool, true, false, not, List, length, Some, Result, Ok, Err}
use Rattle.eon_model.specs.Services.{State}
use Rattle.eon_model.specs.Legal.{Setup}
use Rattle.eon_model.specs.Events.{Event, apply}
use Rattle.eon_model.specs.JournalFault.{HasRecords}
use Rattle.eon_model.specs.Replay.{can_follow, replay}
use Rattle.journal_record.specs.Told.{event_told}
use Rattle.plan_journal.specs.declared.walk.Kept.{Kept}
use Rattle.journal_replay.specs.declared.fault.JournalWhy.TheVariants as why
use Rattle.journal_replay.specs.declared.fault.ReplayFault.{ReplayFault}
use Rattle.journal_replay.specs.declared.fault.ReplayFault.TheVariants.{Refused, Other, Disk, Memory}
use Rattle.journal_replay.specs.Replayed.{StandsFor, IsReplayed}

-- Some events come before p, behind which the record of this number is next. They replay, and lead to this state.
pub record LeadTo (setup : Setup) (bytes : List ℕ) (state : State) (p number : ℕ) : Type 0 where
  pub events : List Event
  pub has : HasRecords bytes setup.journal events p
  pub numbered : number ≡ length events + 1
  pub replays : replay setup events ≡ Some state

-- one event more was followed, or there is none, and the journal stands for the state; else it is not replayed
abbrev pub IsFollowed : Setup → List ℕ → List ℕ → State → ℕ → ℕ → Result Bool ReplayFault → Type 0
IsFollowed setup bytes own state p number (Ok true) = LeadTo setup bytes state p number
IsFollowed setup bytes own state p number (Ok false) = StandsFor setup bytes own state p (number - 1)
IsFollowed setup bytes own state p number (Err fault) = IsReplayed setup bytes own state p (Err fault)

-- the event of a record was followed, or it cannot follow
abbrev pub IsTaken : Setup → State → State → Kept → Result Bool ReplayFault → Type 0
IsTaken setup before after kept (Ok more) =
    (more ≡ true) × (can_follow setup before (event_told kept.event) ≡ true)
    × (after ≡ apply setup.network before (event_told kept.event))
IsTaken setup before after kept (Err (Refused at word)) =
    (at ≡ kept.at) × (word ≡ why.Event) × (can_follow setup before (event_told kept.event) ≡ false)
IsTaken setup before after kept (Err (Other digest own)) = ⊥
IsTaken setup before after kept (Err Disk) = ⊥
IsTaken setup before after kept (Err Memory) = ⊤

-- whether an event was followed, and whether the last gate was read
abbrev pub has_more : Result Bool ReplayFault → Bool
has_more (Ok more) = more
has_more (Err fault) = false

abbrev pub has_ended : Result Bool ReplayFault → Bool
has_ended (Ok more) = not more
has_ended (Err fault) = false
