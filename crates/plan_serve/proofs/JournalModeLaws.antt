-- How the modes over a journal end, from what their steps tell.
use Rattle.std.proofs.Common.{◌≡◌, sym, ap, subst, inr, ℕ, ◌++◌, List, [], length, true, false, Option, Some, None, Result, Ok, Err}
use Rattle.std.specs.Prelude.{IfSome, replicate}
use Rattle.std.specs.Io.KnownBytes.{Keeps}
use Rattle.std.proofs.lemmas.List.{length-replicate}
use Rattle.eon_model.specs.Services.{State}
use Rattle.eon_model.specs.Legal.{Setup, Legal}
use Rattle.eon_model.specs.Events.{Event}
use Rattle.eon_model.specs.Disk.{LeavesOnly}
use Rattle.eon_model.specs.Replies.{Reply}
use Rattle.eon_model.specs.ReplyText.{reply_text}
use Rattle.eon_model.specs.TopLines.{init_line, replay_text}
use Rattle.journal_replay.specs.Replayed.{StandsFor}
use Rattle.plan_journal.specs.declared.fault.InitFault.{InitFault}
use Rattle.plan_journal.specs.declared.fault.InitFault.TheVariants as init
use Rattle.plan_journal.specs.Made.{OnNotEmpty}
use Rattle.plan_journal.specs.Moments.{IsTornFrom}
use Rattle.plan_journal.proofs.MomentLaws.{not_torn}
use Rattle.plan_serve.specs.declared.status.Status.{Status}
use Rattle.plan_serve.specs.declared.status.Status.TheVariants.{Done, NetRefused, NetLong, ReadFault, DiskFault, Memory, WriteFault}
use Rattle.plan_serve.specs.Outside.{Output, DiskSeen}
use Rattle.plan_serve.specs.JournalEnds.{Tells, SaysNothing, Attaches, MakesJournal, MakeEnds, LeadsTo, TellsReplay, TellsCount, count_line, TellEnds, MayBeMade}
use Rattle.plan_serve.specs.Top.{IsEarly}
use Rattle.plan_serve.proofs.TopLaws.{keeps_all}

-- ---- what a crash may leave

pub made_left : (status : Status) (images : List ℕ → Type 0) (c : List ℕ) → images c → MayBeMade status images c
made_left Done images c h = not_torn images 0 41 c h
made_left WriteFault images c h = not_torn images 0 41 c h
made_left DiskFault images c h = not_torn images 0 41 c h
made_left _ images c h = h

pub not_empty : {T : Type 0} (r : Result T InitFault) (P Q : Type 0) → (P → Q) → OnNotEmpty r P → OnNotEmpty r Q
not_empty (Ok x) P Q f h = tt
not_empty (Err (init.NotEmpty len)) P Q f h = f h
not_empty (Err init.Disk) P Q f h = tt

-- ---- a text that is told

pub says_nothing : (before now : Output) → now ≡ before → SaysNothing before now
says_nothing before now same =
    (ap (λ o. o.faults) same, subst (λ (v : Output). Keeps before.given v.given) (sym same) (keeps_all before.given))

-- what holds where a text was told, at `Done` and at `WriteFault`
by_telling : (P : Status → Type 0) (text : List ℕ) (before now : Output) (status : Status) →
    Tells text before now status → P Done → P WriteFault → P status
by_telling P text before now Done h d w = d
by_telling P text before now WriteFault h d w = w
by_telling P text before now _ h d w = absurd h

-- ---- `init`

pub made_ends : (digest journal : List ℕ) (before now : Output) (old new : DiskSeen) (status : Status) →
    Attaches journal true old new → MakesJournal digest old new → Tells init_line before now status →
    MakeEnds digest journal before now old new status
made_ends digest journal before now old new Done a m h = (a, m, h)
made_ends digest journal before now old new WriteFault a m h = (a, m, h)
made_ends digest journal before now old new _ a m h = absurd h

pub made_moments : {D : Type 0} (clock : D → ℕ) (since : D → ℕ → List ℕ → Type 0) (old new : D)
    (images : List ℕ → Type 0) (text : List ℕ) (before now : Output) (status : Status) → Tells text before now status →
    LeavesOnly clock since old new (IsTornFrom images 0 41) → LeavesOnly clock since old new (MayBeMade status images)
made_moments clock since old new images text before now status h run =
    by_telling (λ s. LeavesOnly clock since old new (MayBeMade s images)) text before now status h run run

pub make_not_early : (digest journal : List ℕ) (before now : Output) (old new : DiskSeen) (status : Status) →
    MakeEnds digest journal before now old new status → IsEarly status → ⊥
make_not_early digest journal before now old new (NetRefused number why) h early = h.2
make_not_early digest journal before now old new NetLong h early = h.2
make_not_early digest journal before now old new ReadFault h early = h.2
make_not_early digest journal before now old new _ h early = early

-- ---- `replay`

-- the events that stand in it, or as many others where the disk does not tell
pub record Leads (setup : Setup) (digest : List ℕ) (bytes : Option (List ℕ)) (state : State) (count : ℕ) : Type 0 where
  pub events : List Event
  pub many : length events ≡ count
  pub leads : LeadsTo setup digest bytes events state

pub leads_to : (setup : Setup) (digest : List ℕ) (bytes : Option (List ℕ)) (state : State) (count : ℕ) → Legal setup state →
    IfSome bytes (λ b. (place : ℕ) × StandsFor setup b digest state place count) →
    Leads setup digest bytes state count
leads_to setup digest None state count legal h = record {
  events = replicate count (Event.Leave []);
  many = length-replicate count (Event.Leave []);
  leads = record { legal = legal; stands = tt };
}
leads_to setup digest (Some bytes) state count legal h = record {
  events = h.1.events;
  many = sym h.1.counted;
  leads = record { legal = legal; stands = (h.0, h.1.stands, h.1.replays) };
}

text_is : (setup : Setup) (state : State) (events : List Event) (count : ℕ) → length events ≡ count →
    count_line count ++ reply_text setup state Reply.List ≡ replay_text setup events state
text_is setup state events count many =
    ap (λ (n : ℕ). count_line n ++ reply_text setup state Reply.List) (sym many)

module _ (setup : Setup) (digest journal : List ℕ) (before now : Output) (old new : DiskSeen) (state : State) (count : ℕ)
    (a : Attaches journal false old new) (l : Leads setup digest old.bytes state count) where
  tells_replay : (status : Status) → Tells (count_line count ++ reply_text setup state Reply.List) before now status →
      TellsReplay setup digest old.bytes before now status
  tells_replay status h = (
    l.events,
    state,
    l.leads,
    subst (λ (v : List ℕ). Tells v before now status) (text_is setup state l.events count l.many) h,
  )

  pub told_ends : (status : Status) → TellsCount setup state count before now status →
      TellEnds setup digest journal before now old new status
  told_ends Done h = (a, tells_replay Done h)
  told_ends WriteFault h = (a, tells_replay WriteFault h)
  told_ends Memory h = (inr a, says_nothing before now h)
  told_ends _ h = absurd h

pub tell_not_early : (setup : Setup) (digest journal : List ℕ) (before now : Output) (old new : DiskSeen)
    (status : Status) → TellEnds setup digest journal before now old new status → IsEarly status → ⊥
tell_not_early setup digest journal before now old new (NetRefused number why) h early = h.1.3
tell_not_early setup digest journal before now old new NetLong h early = h.1.3
tell_not_early setup digest journal before now old new ReadFault h early = h.1.3
tell_not_early setup digest journal before now old new _ h early = early
