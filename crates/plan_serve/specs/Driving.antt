-- Commands that are made from a seed: their answers, one after the other, and what `drive` writes of them.
use Rattle.std.specs.Prelude.{◌≡◌, ℕ, ◌+◌, ◌<◌, ◌≤◌, ◌⊎◌, not, List, [], ◌∷◌, ◌++◌, map, IsTrue, None}
use Rattle.std.specs.List.{list_all}
use Rattle.eon_model.specs.Services.{State}
use Rattle.eon_model.specs.Legal.{Setup}
use Rattle.eon_model.specs.Commands.{Command}
use Rattle.eon_model.specs.CommandText.{command_text}
use Rattle.eon_model.specs.Answers.{takes_memory}
use Rattle.eon_model.specs.LineStream.{is_quit}
use Rattle.eon_model.specs.Run.{situation, MissesOnly}
use Rattle.eon_model.specs.LoadGenerator.{next_word, drive_from, drive_lines}
use Rattle.eon_model.specs.DriveSummary.{Drives}
use Rattle.load_summary.specs.declared.tally.Tally.{Tally}
use Rattle.load_summary.specs.Kinds.{IsTally, replies_in}
use Rattle.plan_serve.specs.declared.status.Status.{Status}
use Rattle.plan_serve.specs.declared.status.Status.TheVariants.{Memory}
use Rattle.plan_serve.specs.Session.{AreAnswered}
use Rattle.plan_serve.specs.Outside.{Outside, Output, output_of}
use Rattle.plan_serve.specs.Ends.{OverNetwork, EndsAtNetwork}
use Rattle.plan_serve.specs.JournalEnds.{Tells, ReadsOnly}

-- So many commands were made and answered, from no service on. These come next, and so the list and the counts of replies are.
pub record DrivenTo (setup : Setup) (seed count before word : ℕ) (state : State) (tally : Tally) : Type 0 where
  pub done : List Command
  pub first : (more : ℕ) →
      drive_from setup 0 (next_word seed) 1 (count + more) ≡ done ++ drive_from setup before word (count + 1) more
  pub behind : 0 < before → 1 ≤ count
  pub none_quits : IsTrue (list_all (λ line. not (is_quit line)) (map command_text done))
  pub text : List ℕ
  pub answered : AreAnswered setup (situation [] None) (map command_text done) (situation state None) text
  pub counted : IsTally tally answered.answers
  pub many : replies_in tally ≡ count

-- all of them were
abbrev pub IsDriven : Setup → ℕ → ℕ → State → Tally → Type 0
IsDriven setup seed count state tally = (before : ℕ) × (word : ℕ) × DrivenTo setup seed count before word state tally

-- The summary of a run over these commands was told. Only lines of commands that take memory are missed.
abbrev pub TellsSummary : Setup → ℕ → ℕ → Output → Output → Status → Type 0
TellsSummary setup seed count before now status =
    (missed : List ℕ) × (output : List ℕ) × Drives setup seed count missed output
    × MissesOnly takes_memory missed 1 (drive_lines setup seed count) × Tells output before now status

-- over this network; or there was no memory for the machine, or for the text
abbrev pub DriveOver : Setup → ℕ → ℕ → Output → Output → Status → Type 0
DriveOver setup seed count before now Memory = now ≡ before
DriveOver setup seed count before now status = TellsSummary setup seed count before now status

-- `drive NET SEED COUNT`: it comes no further than the network, or the network is accepted and it ends as it says over
-- that network
abbrev pub DriveEnds : List ℕ → ℕ → ℕ → Outside → Outside → Status → Type 0
DriveEnds net seed count before now status =
    EndsAtNetwork net before now status
    ⊎ (ReadsOnly net before now
    × OverNetwork before.files net (λ setup. DriveOver setup seed count (output_of before) (output_of now) status))
