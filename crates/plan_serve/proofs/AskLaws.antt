-- How the modes end that answer a stream over the state of a journal.
use Rattle.std.proofs.Common.{◌≡◌, ◌≢◌, refl, sym, ◌∙◌, ap, subst, inl, inr, ℕ, true, false, List, [], ◌∷◌, ◌++◌, Option, Some, None, Result, Ok, Err}
use Rattle.std.specs.Prelude.{IfSome}
use Rattle.eon_model.specs.Services.{State}
use Rattle.eon_model.specs.Legal.{Setup, Legal}
use Rattle.eon_model.specs.Events.{Event}
use Rattle.eon_model.specs.Journal.{Stands}
use Rattle.eon_model.specs.Replay.{replay}
use Rattle.eon_outside.specs.Faults.{Standing, counted}
use Rattle.eon_outside.specs.Reading.{NamedFiles, Opens}
use Rattle.eon_outside.specs.WholeFile.{IsFile}
use Rattle.journal_replay.specs.declared.fault.ReplayFault.{ReplayFault}
use Rattle.journal_replay.specs.declared.fault.ReplayFault.TheVariants as replays
use Rattle.journal_replay.specs.Replayed.{StandsFor, IsReplayed, replay_failed}
use Rattle.line_session.specs.Answering.{Answering}
use Rattle.line_session.specs.Ends.{AnswersStream, StopsEarly, CountsReads, StandsAt}
use Rattle.line_session.specs.Lines as session
use Rattle.line_session.specs.declared.session.Outcome.{Outcome}
use Rattle.line_session.specs.declared.session.Outcome.TheVariants as outcome
use Rattle.live_failure.specs.Seen.{LiveSeen}
use Rattle.live_failure.specs.Setting.{LiveSetting, live_by}
use Rattle.plan_journal.specs.Faults.{counted_if}
use Rattle.plan_serve.specs.declared.status.Status.{Status}
use Rattle.plan_serve.specs.declared.status.Status.TheVariants.{Done, NetRefused, NetLong, ReadFault, DiskFault, Memory, WriteFault, InputLong}
use Rattle.plan_serve.specs.AskEnds.{IsNotReached, IsLed, FollowsTo, OpensState, status_behind, OverStream, AsksStream, NoneInDoubt, AskOver, AskEnds, RefusesNetwork, live_on}
use Rattle.plan_serve.specs.Binding.{replay_status}
use Rattle.plan_serve.specs.Files.{IsLeft, IsDigestedFile}
use Rattle.plan_serve.specs.JournalEnds.{AsksFor, Attaches, LeadsTo}
use Rattle.plan_serve.specs.MigrateEnds.{behind}
use Rattle.plan_serve.specs.Outside.{Outside, DiskSeen}
use Rattle.plan_serve.specs.Ends.{Says}
use Rattle.plan_serve.specs.Status.{own_line}
use Rattle.plan_serve.proofs.TopLaws.{opened_is, network_ends}
use Rattle.plan_core.specs.Seen.{CoreSeen}

-- ---- the stream

left_is : (left : Option (List ℕ)) (rest : List ℕ) → session.IsLeft left rest → IsLeft left rest
left_is None rest h = tt
left_is (Some left) rest h = h

pub none_is_left : (left : Option (List ℕ)) → IfSome left (λ bytes. bytes ≡ []) → session.IsLeft left []
none_is_left None h = tt
none_is_left (Some left) h = h

pub stream_is : {T : Type 0} (E : Type 0) (files : Option NamedFiles) (name : List ℕ) (left : Option (List ℕ)) (x : T)
    (stream : List ℕ) → Opens {T = T} {E = E} files name left (Ok x) → session.IsLeft left stream → IsFile files name stream
stream_is E files name left x stream h k = opened_is E files name left x stream h (left_is left stream k)

module _ {S A : Type 0} (by : Answering S A) (Went : List A → Option A → Type 0) (start : S) where
  early_of : (P Q : List ℕ → Type 0) (doubt : Option A) (before now : Option (List ℕ)) →
      ((stream : List ℕ) → P stream → Q stream) → StopsEarly by Went P start doubt before now →
      StopsEarly by Went Q start doubt before now
  early_of P Q doubt before now is h = record {
    stream = h.stream;
    told = is h.stream h.told;
    begins = h.begins;
    early = h.early;
    carries = h.carries;
  }

  -- the stream that is left is the file's
  pub stream_of : (P Q : List ℕ → Type 0) (left before now : Option (List ℕ)) (ended : Outcome) →
      ((stream : List ℕ) → P stream → Q stream) → AnswersStream by Went P start left before now ended →
      AnswersStream by Went Q start left before now ended
  stream_of P Q left before now outcome.Done is h = record {
    read = h.read;
    rest = h.rest;
    told = is (h.read ++ h.rest) h.told;
    unread = h.unread;
    to_end = h.to_end;
    no_further = h.no_further;
    short = h.short;
    serves = h.serves;
  }
  stream_of P Q left before now outcome.ReadFault is h = record {
    read = h.read;
    rest = h.rest;
    told = is (h.read ++ h.rest) h.told;
    unread = h.unread;
    short = h.short;
    no_quit = h.no_quit;
    serves = h.serves;
    begins = h.begins;
  }
  stream_of P Q left before now outcome.WriteFault is h = early_of P Q None before now is h
  stream_of P Q left before now outcome.DiskFault is h = (h.0, early_of P Q (Some h.0) before now is h.1)
  stream_of P Q left before now outcome.InputLong is h =
      record { stream = h.stream; told = is h.stream h.told; long = h.long; serves = h.serves; begins = h.begins }

  -- with what was opened and counted
  pub asked_ends : (commands : List ℕ) (before now : Outside) (old new : Standing) (ended : Outcome) →
      now.opened ≡ before.opened ++ commands ∷ [] → CountsReads ended before.read_faults now.read_faults →
      StandsAt ended old new → old.faults ≡ before.write_faults → new.faults ≡ now.write_faults →
      OverStream by Went start commands before now ended →
      AsksStream by Went start commands before now (status_behind ended)
  asked_ends commands before now old new outcome.Done opened reads stands a b h =
      (opened, (reads, sym b ∙ ap (λ s. s.faults) stands ∙ a), h)
  asked_ends commands before now old new outcome.InputLong opened reads stands a b h =
      (opened, (reads, sym b ∙ ap (λ s. s.faults) stands ∙ a), h)
  asked_ends commands before now old new outcome.DiskFault opened reads stands a b h =
      (opened, (reads, sym b ∙ ap (λ s. s.faults) stands ∙ a), h)
  asked_ends commands before now old new outcome.WriteFault opened reads stands a b h =
      (opened, reads, sym b ∙ ap (λ s. s.faults) stands ∙ ap counted a, h)
  asked_ends commands before now old new outcome.ReadFault opened reads stands a b h =
      (opened, reads, sym b ∙ ap (λ s. s.faults) stands ∙ a, inr h)

  -- the network was not refused by then
  pub asked_later : (commands : List ℕ) (before now : Outside) (status : Status) →
      AsksStream by Went start commands before now status → RefusesNetwork status → ⊥
  asked_later commands before now (NetRefused number why) h refused = h
  asked_later commands before now NetLong h refused = h
  asked_later commands before now _ h refused = refused

pub outcome_room : (old new : Standing) (ended : Outcome) → StandsAt ended old new → new.room ≡ old.room
outcome_room old new outcome.WriteFault h = ap (λ s. s.room) h
outcome_room old new _ h = ap (λ s. s.room) h

-- where the stream did not end by a fault of reading, neither does the call
pub no_read_fault : (ended : Outcome) (status : Status) → status ≡ status_behind ended → (ended ≡ outcome.ReadFault → ⊥) →
    status ≡ ReadFault → ⊥
no_read_fault outcome.ReadFault status is never e = never refl
no_read_fault outcome.Done status is never e = cc
no_read_fault outcome.WriteFault status is never e = cc
no_read_fault outcome.DiskFault status is never e = cc
no_read_fault outcome.InputLong status is never e = cc

-- ---- the journal

led_to : (setup : Setup) (digest : List ℕ) (bytes : Option (List ℕ)) (state : State) (count : ℕ) →
    IfSome bytes (λ b. (place : ℕ) × StandsFor setup b digest state place count) →
    (events : List Event)
    × IfSome bytes (λ b. (p : ℕ) × Stands b digest setup.journal events p × (replay setup events ≡ Some state))
led_to setup digest None state count h = ([], tt)
led_to setup digest (Some bytes) state count h = (h.1.events, (h.0, h.1.stands, h.1.replays))

without_place : (o : Option (List ℕ)) (P : List ℕ → Type 0) → IfSome o (λ bytes. (place : ℕ) × P bytes) → IfSome o P
without_place None P h = tt
without_place (Some bytes) P h = h.1

module _ (setup : Setup) (digest journal : List ℕ) (old new : DiskSeen) (core : CoreSeen) where
  pub led : (T : Type 0) (x : T) (count : ℕ) → core.setup ≡ setup → AsksFor journal false new →
      new.faults ≡ counted_if (replay_failed {T = ℕ} (Ok count)) old.faults →
      IfSome old.bytes (λ bytes. (place : ℕ) × IsReplayed setup bytes digest core.state place (Ok count)) →
      FollowsTo setup digest journal old new core (Ok x)
  led T x count same asked counts told =
      let l = led_to setup digest old.bytes core.state count told in (same, ((asked, counts), l.0, l.1))

  not_reached : (fault : ReplayFault) → AsksFor journal false new →
      new.faults ≡ counted_if (replay_failed {T = ℕ} (Err fault)) old.faults →
      IfSome old.bytes (λ bytes. (place : ℕ) × IsReplayed setup bytes digest core.state place (Err fault)) →
      IsNotReached setup digest journal old new (replay_status fault)
  not_reached (replays.Refused at why) asked counts told = ((asked, counts), without_place old.bytes _ told)
  not_reached (replays.Other kept own) asked counts told = ((asked, counts), without_place old.bytes _ told)
  not_reached replays.Disk asked counts told = (asked, counts)
  not_reached replays.Memory asked counts told = inr (asked, counts)

  pub not_led : (T : Type 0) (fault : ReplayFault) (status : Status) → status ≡ replay_status fault →
      AsksFor journal false new → new.faults ≡ counted_if (replay_failed {T = ℕ} (Err fault)) old.faults →
      IfSome old.bytes (λ bytes. (place : ℕ) × IsReplayed setup bytes digest core.state place (Err fault)) →
      FollowsTo {T = T} setup digest journal old new core (Err status)
  not_led T fault status is asked counts told =
      subst (λ (v : Status). IsNotReached setup digest journal old new v) (sym is) (not_reached fault asked counts told)

-- a status with which a state is not reached is not that of a network
pub reached_later : (setup : Setup) (digest journal : List ℕ) (old new : DiskSeen) (status : Status) →
    IsNotReached setup digest journal old new status → RefusesNetwork status → ⊥
reached_later setup digest journal old new (NetRefused number why) h refused = h
reached_later setup digest journal old new NetLong h refused = h
reached_later setup digest journal old new _ h refused = refused

pub not_by_reading : (setup : Setup) (digest journal : List ℕ) (old new : DiskSeen) (status : Status) →
    IsNotReached setup digest journal old new status → status ≡ ReadFault → ⊥
not_by_reading setup digest journal old new status h is =
    subst (λ (v : Status). IsNotReached setup digest journal old new v) is h

-- ---- the mode

abbrev pub at-moment : Outside → Option NamedFiles → List (List ℕ) → Option (List ℕ) → ℕ → Outside
at-moment before files opened left faults = record {
  files = files;
  opened = opened;
  left = left;
  given = before.given;
  read_faults = faults;
  write_faults = before.write_faults;
}

module _ {S A : Type 0} (by : Setup → State → Answering S A) (start : S) (net journal commands : List ℕ)
    (before now : Outside) (old new : DiskSeen) (same : new.bytes ≡ old.bytes) where
  unopened : (status : Status) → now.opened ≡ before.opened ++ net ∷ [] →
      OpensState net journal before.files before.read_faults now.read_faults old new (Err status) →
      Says (own_line status) before now → AskEnds by start net journal commands before now old new status
  unopened status opened (inl h) said = (same, inl (h.0, network_ends net before now status opened h.1 said))
  unopened status opened (inr h) said =
      (same, inr (h.1.0, h.1.1, h.1.2, inl (opened, h.0, h.1.3, said)))

  -- the state is not reached
  pub ask_refused : (status result : Status) → result ≡ status → now.opened ≡ before.opened ++ net ∷ [] →
      OpensState net journal before.files before.read_faults now.read_faults old new (Err status) →
      Says (own_line status) before now → AskEnds by start net journal commands before now old new result
  ask_refused status result is opened h said =
      subst (λ (v : Status). AskEnds by start net journal commands before now old new v) (sym is)
      (unopened status opened h said)

  -- what was left of the file of the network does not matter
  left_aside : (core : CoreSeen) (files : Option NamedFiles) (opened : List (List ℕ)) (left : Option (List ℕ)) (faults : ℕ)
      (status : Status) →
      AsksStream (by core.setup core.state) NoneInDoubt start commands (at-moment before files opened left faults) now status →
      AsksStream (by core.setup core.state) NoneInDoubt start commands (at-moment before files opened None faults) now status
  left_aside core files opened left faults Done h = h
  left_aside core files opened left faults ReadFault h = h
  left_aside core files opened left faults WriteFault h = h
  left_aside core files opened left faults DiskFault h = h
  left_aside core files opened left faults InputLong h = h
  left_aside core files opened left faults Memory h = h
  left_aside core files opened left faults _ h = absurd h

  moved : (core : CoreSeen) (files : Option NamedFiles) (opened : List (List ℕ)) (left : Option (List ℕ)) (faults : ℕ)
      (status : Status) → files ≡ before.files → opened ≡ before.opened ++ net ∷ [] → faults ≡ before.read_faults →
      AsksStream (by core.setup core.state) NoneInDoubt start commands (at-moment before files opened left faults) now status →
      AsksStream (by core.setup core.state) NoneInDoubt start commands (behind net before) now status
  moved core files opened left faults status f o r h =
      subst (λ (v : Option NamedFiles). AsksStream (by core.setup core.state) NoneInDoubt start commands
      (at-moment before v (before.opened ++ net ∷ []) None before.read_faults) now status) f
      (subst (λ (v : List (List ℕ)). AsksStream (by core.setup core.state) NoneInDoubt start commands
      (at-moment before files v None before.read_faults) now status) o
      (subst (λ (v : ℕ). AsksStream (by core.setup core.state) NoneInDoubt start commands
      (at-moment before files opened None v) now status) r (left_aside core files opened left faults status h)))

  -- the stream was answered over it
  pub ask_ends : (core : CoreSeen) (files : Option NamedFiles) (opened : List (List ℕ)) (left : Option (List ℕ)) (faults : ℕ)
      (status : Status) → files ≡ before.files → opened ≡ before.opened ++ net ∷ [] →
      OpensState net journal before.files before.read_faults faults old new (Ok core) → Legal core.setup core.state →
      AsksStream (by core.setup core.state) NoneInDoubt start commands (at-moment before files opened left faults) now status →
      AskEnds by start net journal commands before now old new status
  ask_ends core files opened left faults status f o h legal asked = (
    same,
    inr (
      core.setup,
      h.1,
      h.2,
      inr (
        h.3.0,
        h.3.1,
        core.state,
        record { legal = legal; stands = h.3.2 },
        moved core files opened left faults status f o h.0 asked,
      ),
    ),
  )

-- ---- `live`

abbrev pub setting_by : LiveSeen → LiveSetting
setting_by s = record { network = s.setup.network; state = s.state }

-- over the setup and the services of a machine, where no group has failed
pub asks_live : (s : LiveSeen) (setup : Setup) (state : State) (commands : List ℕ) (before now : Outside) (status : Status) →
    s.setup ≡ setup → s.state ≡ state → s.failed ≡ None →
    AsksStream (live_by (setting_by s)) NoneInDoubt s.failed commands before now status →
    AsksStream (live_on setup state) NoneInDoubt None commands before now status
asks_live s setup state commands before now status a b c h =
    subst (λ (v : Option ℕ). AsksStream (live_on setup state) NoneInDoubt v commands before now status) c
    (subst (λ (v : State). AsksStream (live_on setup v) NoneInDoubt s.failed commands before now status) b
    (subst (λ (v : Setup). AsksStream (live_on v s.state) NoneInDoubt s.failed commands before now status) a h))
