-- When a call does all that it is asked, by what the words ask for.
use Rattle.std.proofs.Common.{◌≡◌, ◌≢◌, refl, sym, ◌∙◌, ap, subst, ◌⊎◌, inl, inr, ℕ, ◌+◌, ◌<◌, ◌≤◌, false, List, [], ◌∷◌, ◌++◌, length, length-append, take, drop, Option, Some, None, arith}
use Rattle.std.specs.Prelude.{IfSome, IsSomeAnd, IsSome, is_some, ⊤}
use Rattle.std.specs.FinMap.{get}
use Rattle.std.specs.Io.KnownBytes.{Appends}
use Rattle.std.proofs.lemmas.List.{take-append-drop}
use Rattle.std.proofs.lemmas.Bool.{both_ways, false≢true}
use Rattle.eon_model.specs.Legal.{Setup}
use Rattle.eon_model.specs.Services.{State}
use Rattle.eon_model.specs.Events.{Event}
use Rattle.eon_model.specs.NetworkText.{IsNetworkTextOf}
use Rattle.eon_model.specs.Journal.{left_at, Stands}
use Rattle.eon_model.specs.JournalFault.{IsKept, IsRefusedAt}
use Rattle.eon_model.specs.Replay.{replay}
use Rattle.eon_model.specs.TopLines.{init_line, replay_text, migrate_line}
use Rattle.eon_model.specs.Wider.{Widens, first_narrower}
use Rattle.eon_model.proofs.JournalLaws.{Stands-place}
use Rattle.eon_model.proofs.WiderLaws.{narrower_told}
use Rattle.eon_model.proofs.TextNumbers.{some_is}
use Rattle.eon_model.proofs.NetworkUniqueLaws.{network_text-unique}
use Rattle.eon_model.proofs.RefusalLaws.{standing-not_refused, standing-not_other}
use Rattle.eon_model.specs.Modes.{Task, is_long_stream}
use Rattle.eon_model.specs.Modes.Task.{Dry, Init, Serve, Replay, Drive, Migrate, Live, Room}
use Rattle.eon_model.specs.Disk.{LeavesOnly}
use Rattle.plan_words.specs.declared.words.Words as words
use Rattle.plan_words.specs.AreWords.{task_asked}
use Rattle.file_digest.specs.Digest.{digest as digest_of}
use Rattle.eon_outside.specs.Faults.{Standing, counted, IsSure}
use Rattle.eon_outside.specs.Reading.{NamedFiles, IsThere}
use Rattle.eon_outside.specs.WholeFile.{IsFile}
use Rattle.journal_replay.specs.Replayed.{why_told}
use Rattle.line_session.specs.Answering.{Answering}
use Rattle.line_session.specs.Runs as session
use Rattle.plan_journal.proofs.MomentLaws.{started}
use Rattle.plan_serve.specs.declared.status.Status.{Status}
use Rattle.plan_serve.specs.declared.status.Status.TheVariants.{Done, NetRefused, NetLong, NextRefused, NextLong, NotWider, ReadFault, DiskFault, JournalRefused, JournalOther, NotEmpty, JournalFull, Memory, WriteFault, InputLong}
use Rattle.plan_serve.specs.Files.{IsAcceptedFile, IsDigestedFile}
use Rattle.plan_serve.specs.Outside.{Outside, Output, output_of, DiskSeen}
use Rattle.eon_model.specs.Run.{situation}
use Rattle.plan_serve.specs.Ends.{GoesOnBehind, EndsAtNetwork, DryEnds}
use Rattle.plan_serve.specs.Driving.{DriveOver, DriveEnds}
use Rattle.plan_serve.specs.JournalEnds.{Tells, MakeEnds, InitEnds, LeadsTo, TellEnds, ReplayEnds}
use Rattle.plan_serve.specs.AskEnds.{IsNotReached, AsksStream, NoneInDoubt, AskEnds, HasRoomToAsk, live_on}
use Rattle.plan_serve.specs.Binding.{IsFull}
use Rattle.plan_serve.specs.MigrateEnds.{BindEnds, EndsAtNext, MigrateEnds, MayBeBound, behind, at_end}
use Rattle.plan_serve.proofs.JournalModeLaws.{made_left}
use Rattle.plan_serve.proofs.TopLaws.{some_left}
use Rattle.plan_serve.specs.Top.{Ends, MayDrive, MayServe, MayMake, MayTell, MayAsk, MayBind, MayEnd, MayBeLeft, NoDiskFault, HasRoom, IsRoomy}

-- ---- what the words ask for

pub task_is : (w v : words.Words) (task : Option Task) → task ≡ Some (task_asked w) → w ≡ v → task ≡ Some (task_asked v)
task_is w v task asked is = asked ∙ ap (λ u. Some (task_asked u)) is

pub ends_as : (task : Option Task) (t : Task) (before now : Outside) (old new : DiskSeen) (status : Status) →
    task ≡ Some t → Ends (Some t) before now old new status → Ends task before now old new status
ends_as task t before now old new status is h =
    subst (λ (v : Option Task). Ends v before now old new status) (sym is) h

-- the files that a mode reads are there
abbrev pub IsThereFor : Task → Option NamedFiles → Type 0
IsThereFor (Dry net commands) files = IsThere files net × IsThere files commands
IsThereFor (Init net journal) files = IsThere files net
IsThereFor (Replay net journal) files = IsThere files net
IsThereFor (Migrate net next journal) files = IsThere files net × IsThere files next
IsThereFor (Drive net seed count) files = IsThere files net
IsThereFor (Live net journal commands) files = IsThere files net × IsThere files commands
IsThereFor t files = ⊤

-- ---- one file, one network

one_file : (told : NamedFiles) (name x y : List ℕ) → get told name ≡ Some x → get told name ≡ Some y → x ≡ y
one_file told name x y p q = some_is x y (sym p ∙ q)

is_there : (told : NamedFiles) (name bytes : List ℕ) → get told name ≡ Some bytes → IsThere (Some told) name
is_there told name bytes is = ap (λ o. is_some o) is

pub same_file : (told : NamedFiles) (files : Option NamedFiles) (name bytes : List ℕ) → files ≡ Some told →
    IsFile files name bytes → get told name ≡ Some bytes
same_file told files name bytes is h = subst (λ (v : Option NamedFiles). IsFile v name bytes) is h

-- what is accepted is not refused
module _ (told : NamedFiles) (net : List ℕ) (setup : Setup) (good : IsAcceptedFile (Some told) net setup)
    (before now : Outside) (files : before.files ≡ Some told) where
  pub accepted_ends : (status : Status) → EndsAtNetwork net before now status → (status ≡ ReadFault → ⊥) →
      status ≡ Memory
  accepted_ends Memory h no_read = refl
  accepted_ends ReadFault h no_read = absurd (no_read refl)
  accepted_ends (NetRefused number why) h no_read =
      let bad = h.2 in
      absurd (bad.no_text setup (subst (λ (v : List ℕ). IsNetworkTextOf v setup)
      (one_file told net good.0 bad.bytes good.1 (same_file told before.files net bad.bytes files bad.told)) good.2.text))
  accepted_ends NetLong h no_read =
      let bad = h.2 in
      let short = good.2.short in
      let same : length good.0 ≡ length bad.0 =
      ap length (one_file told net good.0 bad.0 good.1 (same_file told before.files net bad.0 files bad.1)) in
      let long = bad.2 in
      absurd (omega arith)
  accepted_ends _ h no_read = absurd h

-- ---- the ends of each mode, where no call failed

dry_done : (told : NamedFiles) (net commands : List ℕ) (before now : Outside) (status : Status) →
    before.files ≡ Some told → DryEnds net commands before now status → MayServe told net commands →
    (status ≡ ReadFault → ⊥) → (status ≡ WriteFault → ⊥) → (status ≡ Done) ⊎ (status ≡ Memory)
dry_done told net commands before now Done files h may no_read no_write = inl refl
dry_done told net commands before now ReadFault files h may no_read no_write = absurd (no_read refl)
dry_done told net commands before now WriteFault files h may no_read no_write = absurd (no_write refl)
dry_done told net commands before now InputLong files h may no_read no_write =
    let long = h.2.2 in
    let same = one_file told commands long.stream may.stream
    (same_file told before.files commands long.stream files long.told) may.file in
    absurd (both_ways (is_long_stream may.stream) may.short (sym (ap is_long_stream same) ∙ long.long))
dry_done told net commands before now Memory files h may no_read no_write = inr refl
dry_done told net commands before now (NetRefused number why) files h may no_read no_write =
    inr (accepted_ends told net may.setup may.network before now files (NetRefused number why) h no_read)
dry_done told net commands before now NetLong files h may no_read no_write =
    inr (accepted_ends told net may.setup may.network before now files NetLong h no_read)
dry_done told net commands before now _ files h may no_read no_write = absurd h

-- the disk tells these bytes
told_bytes : (o : Option (List ℕ)) (bytes : List ℕ) (P : List ℕ → Type 0) → o ≡ Some bytes → IfSome o P → P bytes
told_bytes o bytes P is h = subst (λ (v : Option (List ℕ)). IfSome v P) is h

make_done : (digest journal : List ℕ) (before now : Output) (old new : DiskSeen) (status : Status) → old.bytes ≡ Some [] →
    MakeEnds digest journal before now old new status → (status ≡ WriteFault → ⊥) → (status ≡ DiskFault → ⊥) →
    status ≡ Done
make_done digest journal before now old new Done told h no_write no_disk = refl
make_done digest journal before now old new WriteFault told h no_write no_disk = absurd (no_write refl)
make_done digest journal before now old new DiskFault told h no_write no_disk = absurd (no_disk refl)
make_done digest journal before now old new (NotEmpty len) told h no_write no_disk =
    let k = told_bytes old.bytes [] (λ bytes. (len ≡ length bytes) × (0 < len) × (new.bytes ≡ Some bytes)) told h.1 in
    let a : len ≡ 0 = k.0 in
    let b : 0 < len = k.1 in
    absurd (omega (arith, a, b))
make_done digest journal before now old new _ told h no_write no_disk = absurd h.2

init_done : (told : NamedFiles) (net journal bytes : List ℕ) (before now : Outside) (old new : DiskSeen) (status : Status) →
    before.files ≡ Some told → old.bytes ≡ Some bytes → InitEnds net journal before now old new status →
    MayMake told net bytes → (status ≡ ReadFault → ⊥) → (status ≡ WriteFault → ⊥) → (status ≡ DiskFault → ⊥) →
    (status ≡ Done) ⊎ (status ≡ Memory)
init_done told net journal bytes before now old new status files disk (inl h) may no_read no_write no_disk =
    inr (accepted_ends told net may.setup may.network before now files status h.1 no_read)
init_done told net journal bytes before now old new status files disk (inr h) may no_read no_write no_disk =
    inl (make_done h.1.1 journal (output_of before) (output_of now) old new status (disk ∙ ap (λ v. Some v) may.empty)
    h.1.3 no_write no_disk)

-- the network of a file, and its digest
record IsSame (a b : Setup) (x y : List ℕ) : Type 0 where
  setup : a ≡ b
  digest : x ≡ y

one_network : (told : NamedFiles) (files : Option NamedFiles) (net : List ℕ) (a b : Setup) (x y : List ℕ) →
    files ≡ Some told → IsDigestedFile files net a x → IsDigestedFile (Some told) net b y → IsSame a b x y
one_network told files net a b x y is p q =
    let same = one_file told net p.bytes q.bytes (same_file told files net p.bytes is p.told) q.told in record {
      setup = network_text-unique a b p.accepted.text.in_range q.accepted.text.in_range
          (sym p.accepted.text.is ∙ same ∙ q.accepted.text.is);
      digest = p.digested ∙ ap digest_of same ∙ sym q.digested;
    }

tell_done : (setup : Setup) (digest journal bytes : List ℕ) (before now : Output) (old new : DiskSeen) (status : Status)
    (events : List Event) (place : ℕ) → old.bytes ≡ Some bytes → Stands bytes digest setup.journal events place →
    IsSome (replay setup events) → TellEnds setup digest journal before now old new status →
    (status ≡ WriteFault → ⊥) → (status ≡ DiskFault → ⊥) → (status ≡ Done) ⊎ (status ≡ Memory)
tell_done setup digest journal bytes before now old new Done events place told stands goes h no_write no_disk = inl refl
tell_done setup digest journal bytes before now old new Memory events place told stands goes h no_write no_disk = inr refl
tell_done setup digest journal bytes before now old new WriteFault events place told stands goes h no_write no_disk =
    absurd (no_write refl)
tell_done setup digest journal bytes before now old new DiskFault events place told stands goes h no_write no_disk =
    absurd (no_disk refl)
tell_done setup digest journal bytes before now old new (JournalRefused at why) events place told stands goes h no_write no_disk =
    absurd (standing-not_refused setup bytes digest events place at (why_told why) stands goes
    (told_bytes old.bytes bytes (λ b. IsRefusedAt setup b digest at (why_told why)) told h.1))
tell_done setup digest journal bytes before now old new (JournalOther kept own) events place told stands goes h no_write no_disk =
    let k = told_bytes old.bytes bytes (λ b. IsKept b setup.journal kept × (kept ≢ digest) × (own ≡ digest)) told h.1 in
    absurd (standing-not_other setup bytes digest events place stands (record { kept = kept; keeps = k.0; differs = k.1 }))
tell_done setup digest journal bytes before now old new _ events place told stands goes h no_write no_disk = absurd h.1.3

replay_done : (told : NamedFiles) (net journal bytes : List ℕ) (before now : Outside) (old new : DiskSeen) (status : Status) →
    before.files ≡ Some told → old.bytes ≡ Some bytes → ReplayEnds net journal before now old new status →
    MayTell told net bytes → (status ≡ ReadFault → ⊥) → (status ≡ WriteFault → ⊥) → (status ≡ DiskFault → ⊥) →
    (status ≡ Done) ⊎ (status ≡ Memory)
replay_done told net journal bytes before now old new status files disk h may no_read no_write no_disk = elim h.1 [
  | inl k ↦ inr (accepted_ends told net may.setup (may.network.bytes, may.network.told, may.network.accepted) before now files
      status k.1 no_read)
  | inr k ↦
      let same = one_network told before.files net k.1.0 may.setup k.1.1 may.digest files k.1.2 may.network in
      let stands = subst (λ (d : List ℕ). Stands bytes d k.1.0.journal may.events may.place) (sym same.digest)
      (subst (λ (s : Setup). Stands bytes may.digest s.journal may.events may.place) (sym same.setup) may.stands) in
      let goes = subst (λ (s : Setup). IsSome (replay s may.events)) (sym same.setup) may.replays in
      tell_done k.1.0 k.1.1 journal bytes (output_of before) (output_of now) old new status may.events may.place disk stands
      goes k.1.3 no_write no_disk
]

-- the wider network is not refused
next_done : (told : NamedFiles) (next : List ℕ) (setup wider : Setup) → IsAcceptedFile (Some told) next wider →
    Widens setup wider → (before now : Outside) → before.files ≡ Some told → (status : Status) →
    EndsAtNext setup next before now status → (status ≡ ReadFault → ⊥) → status ≡ Memory
next_done told next setup wider good w before now files Memory h no_read = refl
next_done told next setup wider good w before now files ReadFault h no_read = absurd (no_read refl)
next_done told next setup wider good w before now files (NextRefused number why) h no_read =
    let bad = h.1 in
    absurd (bad.no_text wider (subst (λ (v : List ℕ). IsNetworkTextOf v wider)
    (one_file told next good.0 bad.bytes good.1 (same_file told before.files next bad.bytes files bad.told)) good.2.text))
next_done told next setup wider good w before now files NextLong h no_read =
    let bad = h.1 in
    let short = good.2.short in
    let same : length good.0 ≡ length bad.0 =
    ap length (one_file told next good.0 bad.0 good.1 (same_file told before.files next bad.0 files bad.1)) in
    let long = bad.2 in
    absurd (omega arith)
next_done told next setup wider good w before now files (NotWider what) h no_read =
    let other = h.1.0 in
    let file = h.1.1 in
    let same = one_file told next file.0 good.0 (same_file told before.files next file.0 files file.1) good.1 in
    let one : other ≡ wider =
    network_text-unique other wider file.2.text.in_range good.2.text.in_range (sym file.2.text.is ∙ same ∙ good.2.text.is) in
    absurd (some_none (sym h.1.2 ∙ ap (first_narrower setup) one ∙ (narrower_told setup wider).0 w))
  where
    some_none : {A : Type 0} {x : A} → Some x ≡ None → ⊥
    some_none e = cc
next_done told next setup wider good w before now files _ h no_read = absurd h

bind_done : (net next : Setup) (own digest journal bytes : List ℕ) (before now : Output) (old new : DiskSeen) (status : Status)
    (events : List Event) (place : ℕ) → old.bytes ≡ Some bytes → Stands bytes own net.journal events place →
    IsSome (replay net events) → 40 ≤ left_at net.journal place →
    BindEnds net next own digest journal before now old new status →
    (status ≡ WriteFault → ⊥) → (status ≡ DiskFault → ⊥) → (status ≡ Done) ⊎ (status ≡ Memory)
bind_done net next own digest journal bytes before now old new Done events place told stands goes room h no_write no_disk = inl refl
bind_done net next own digest journal bytes before now old new Memory events place told stands goes room h no_write no_disk = inr refl
bind_done net next own digest journal bytes before now old new WriteFault events place told stands goes room h no_write no_disk =
    absurd (no_write refl)
bind_done net next own digest journal bytes before now old new DiskFault events place told stands goes room h no_write no_disk =
    absurd (no_disk refl)
bind_done net next own digest journal bytes before now old new (JournalRefused at why) events place told stands goes room h no_write no_disk =
    absurd (standing-not_refused net bytes own events place at (why_told why) stands goes
    (told_bytes old.bytes bytes (λ b. IsRefusedAt net b own at (why_told why)) told h.2))
bind_done net next own digest journal bytes before now old new (JournalOther kept mine) events place told stands goes room h no_write no_disk =
    let k = told_bytes old.bytes bytes (λ b. IsKept b net.journal kept × (kept ≢ own) × (mine ≡ own)) told h.2 in
    absurd (standing-not_other net bytes own events place stands (record { kept = kept; keeps = k.0; differs = k.1 }))
bind_done net next own digest journal bytes before now old new (JournalFull needed left) events place told stands goes room h no_write no_disk =
    let full = told_bytes old.bytes bytes (λ b. IsFull net b own needed left new.bytes) told h.1 in
    let few = full.few in
    let is : left ≡ left_at net.journal place =
    full.left_is ∙ ap (left_at net.journal) (Stands-place bytes own own net.journal net.journal full.events events full.place place
    full.replays.stands stands) in
    absurd (omega (arith, few, is, room))
bind_done net next own digest journal bytes before now old new _ events place told stands goes room h no_write no_disk = absurd h.2

migrate_done : (told : NamedFiles) (net next journal bytes : List ℕ) (before now : Outside) (old new : DiskSeen)
    (status : Status) → before.files ≡ Some told → old.bytes ≡ Some bytes →
    MigrateEnds net next journal before now old new status → MayBind told net next bytes → (status ≡ ReadFault → ⊥) →
    (status ≡ WriteFault → ⊥) → (status ≡ DiskFault → ⊥) → (status ≡ Done) ⊎ (status ≡ Memory)
migrate_done told net next journal bytes before now old new status files disk h may no_read no_write no_disk = elim h [
  | inl k ↦ inr (accepted_ends told net may.setup (may.network.bytes, may.network.told, may.network.accepted) before now files
      status k.1 no_read)
  | inr k ↦
      let same = one_network told before.files net k.0 may.setup k.1 may.own files k.2 may.network in
      let stands = subst (λ (d : List ℕ). Stands bytes d k.0.journal may.events may.place) (sym same.digest)
      (subst (λ (s : Setup). Stands bytes may.own s.journal may.events may.place) (sym same.setup) may.stands) in
      let goes = subst (λ (s : Setup). IsSome (replay s may.events)) (sym same.setup) may.replays in
      let room = subst (λ (s : Setup). 40 ≤ left_at s.journal may.place) (sym same.setup) may.room in
      let w = subst (λ (s : Setup). Widens s may.wider) (sym same.setup) may.widens in
      elim k.3 [
        | inl j ↦ inr (next_done told next k.0 may.wider
            (may.next_network.bytes, may.next_network.told, may.next_network.accepted) w (behind net before) (at_end now) files
            status j.1 no_read)
        | inr j ↦ bind_done k.0 j.1.0 k.1 j.1.1 journal bytes (output_of (behind net before)) (output_of (at_end now)) old new
            status may.events may.place disk stands goes room j.1.3.1 no_write no_disk
      ]
]

drive_over_done : (setup : Setup) (seed count : ℕ) (before now : Output) (status : Status) →
    DriveOver setup seed count before now status → (status ≡ WriteFault → ⊥) → (status ≡ Done) ⊎ (status ≡ Memory)
drive_over_done setup seed count before now Done h no_write = inl refl
drive_over_done setup seed count before now Memory h no_write = inr refl
drive_over_done setup seed count before now WriteFault h no_write = absurd (no_write refl)
drive_over_done setup seed count before now _ h no_write = absurd h.4

drive_done : (told : NamedFiles) (net : List ℕ) (seed count : ℕ) (before now : Outside) (status : Status) →
    before.files ≡ Some told → DriveEnds net seed count before now status → MayDrive told net →
    (status ≡ ReadFault → ⊥) → (status ≡ WriteFault → ⊥) → (status ≡ Done) ⊎ (status ≡ Memory)
drive_done told net seed count before now status files (inl h) may no_read no_write =
    inr (accepted_ends told net may.setup may.network before now files status h no_read)
drive_done told net seed count before now status files (inr h) may no_read no_write =
    drive_over_done h.1.0 seed count (output_of before) (output_of now) status h.1.2 no_write

-- ---- the modes that answer a stream over the state of a journal

-- the state is reached, or there was no memory
reached_or : (setup : Setup) (digest journal bytes : List ℕ) (old new : DiskSeen) (status : Status) (events : List Event)
    (place : ℕ) → old.bytes ≡ Some bytes → Stands bytes digest setup.journal events place → IsSome (replay setup events) →
    IsNotReached setup digest journal old new status → (status ≡ DiskFault → ⊥) → status ≡ Memory
reached_or setup digest journal bytes old new Memory events place told stands goes h no_disk = refl
reached_or setup digest journal bytes old new DiskFault events place told stands goes h no_disk = absurd (no_disk refl)
reached_or setup digest journal bytes old new (JournalRefused at why) events place told stands goes h no_disk =
    absurd (standing-not_refused setup bytes digest events place at (why_told why) stands goes
    (told_bytes old.bytes bytes (λ b. IsRefusedAt setup b digest at (why_told why)) told h.1))
reached_or setup digest journal bytes old new (JournalOther kept own) events place told stands goes h no_disk =
    let k = told_bytes old.bytes bytes (λ b. IsKept b setup.journal kept × (kept ≢ digest) × (own ≡ digest)) told h.1 in
    absurd (standing-not_other setup bytes digest events place stands (record { kept = kept; keeps = k.0; differs = k.1 }))
reached_or setup digest journal bytes old new _ events place told stands goes h no_disk = absurd h

none_in_doubt : {A : Type 0} {x : A} → Some x ≡ None → ⊥
none_in_doubt e = cc

module _ {S A : Type 0} (by : Setup → State → Answering S A) (start : S) where
  stream_done : (told : NamedFiles) (setup : Setup) (state : State) (commands stream : List ℕ) (before now : Outside)
      (status : Status) → before.files ≡ Some told → get told commands ≡ Some stream → is_long_stream stream ≡ false →
      AsksStream (by setup state) NoneInDoubt start commands before now status → (status ≡ ReadFault → ⊥) →
      (status ≡ WriteFault → ⊥) → (status ≡ DiskFault → ⊥) → (status ≡ Done) ⊎ (status ≡ Memory)
  stream_done told setup state commands stream before now Done files file short h no_read no_write no_disk = inl refl
  stream_done told setup state commands stream before now Memory files file short h no_read no_write no_disk = inr refl
  stream_done told setup state commands stream before now ReadFault files file short h no_read no_write no_disk =
      absurd (no_read refl)
  stream_done told setup state commands stream before now WriteFault files file short h no_read no_write no_disk =
      absurd (no_write refl)
  stream_done told setup state commands stream before now DiskFault files file short h no_read no_write no_disk =
      absurd (no_disk refl)
  stream_done told setup state commands stream before now InputLong files file short h no_read no_write no_disk =
      let long = h.2 in
      let same = one_file told commands long.stream stream (same_file told before.files commands long.stream files long.told)
      file in
      absurd (both_ways (is_long_stream stream) short (sym (ap is_long_stream same) ∙ long.long))
  stream_done told setup state commands stream before now _ files file short h no_read no_write no_disk = absurd h

  ask_done : (told : NamedFiles) (net journal commands bytes : List ℕ) (before now : Outside) (old new : DiskSeen)
      (status : Status) → before.files ≡ Some told → old.bytes ≡ Some bytes →
      AskEnds by start net journal commands before now old new status → MayAsk told net commands bytes →
      (status ≡ ReadFault → ⊥) → (status ≡ WriteFault → ⊥) → (status ≡ DiskFault → ⊥) → (status ≡ Done) ⊎ (status ≡ Memory)
  ask_done told net journal commands bytes before now old new status files disk h may no_read no_write no_disk = elim h.1 [
    | inl k ↦ inr (accepted_ends told net may.journal.setup
        (may.journal.network.bytes, may.journal.network.told, may.journal.network.accepted) before now files status k.1 no_read)
    | inr k ↦ elim k.3 [
      | inl j ↦
          let same = one_network told before.files net k.0 may.journal.setup k.1 may.journal.digest files k.2
          may.journal.network in
          let stands = subst (λ (d : List ℕ). Stands bytes d k.0.journal may.journal.events may.journal.place) (sym same.digest)
          (subst (λ (s : Setup). Stands bytes may.journal.digest s.journal may.journal.events may.journal.place)
          (sym same.setup) may.journal.stands) in
          let goes = subst (λ (s : Setup). IsSome (replay s may.journal.events)) (sym same.setup) may.journal.replays in
          inr (reached_or k.0 k.1 journal bytes old new status may.journal.events may.journal.place disk stands goes j.2 no_disk)
      | inr j ↦ stream_done told k.0 j.2 commands may.stream (behind net before) now status files may.file may.short j.4
          no_read no_write no_disk
    ]
  ]

  asked_read : (net journal commands : List ℕ) (before now : Outside) (old new : DiskSeen) →
      AskEnds by start net journal commands before now old new ReadFault → now.read_faults ≡ counted before.read_faults
  asked_read net journal commands before now old new h = elim h.1 [
    | inl k ↦ k.1.0
    | inr k ↦ elim k.3 [ inl j ↦ absurd j.2 | inr j ↦ j.4.1 ]
  ]

  asked_write : (net journal commands : List ℕ) (before now : Outside) (old new : DiskSeen) →
      AskEnds by start net journal commands before now old new WriteFault → now.write_faults ≡ counted before.write_faults
  asked_write net journal commands before now old new h = elim h.1 [
    | inl k ↦ absurd k.1
    | inr k ↦ elim k.3 [ inl j ↦ absurd j.2 | inr j ↦ j.4.2 ]
  ]

  asked_disk : (net journal commands : List ℕ) (before now : Outside) (old new : DiskSeen) →
      AskEnds by start net journal commands before now old new DiskFault → new.faults ≡ counted old.faults
  asked_disk net journal commands before now old new h = elim h.1 [
    | inl k ↦ absurd k.1
    | inr k ↦ elim k.3 [ inl j ↦ j.2.1 | inr j ↦ absurd (none_in_doubt j.4.2.1.carries.went) ]
  ]

-- ---- all modes

done : (task : Option Task) (before now : Outside) (old new : DiskSeen) (status : Status) →
    (files : Option NamedFiles) (bytes : Option (List ℕ)) → before.files ≡ files → old.bytes ≡ bytes →
    Ends task before now old new status → MayEnd task files bytes → (status ≡ ReadFault → ⊥) →
    (status ≡ WriteFault → ⊥) → (status ≡ DiskFault → ⊥) → (status ≡ Done) ⊎ (status ≡ Memory)
done (Some (Dry net commands)) before now old new status (Some told) bytes is disk h may no_read no_write no_disk =
    dry_done told net commands before now status is h may no_read no_write
done (Some (Init net journal)) before now old new status (Some told) (Some bytes) is disk h may no_read no_write no_disk =
    init_done told net journal bytes before now old new status is disk h may no_read no_write no_disk
done (Some (Replay net journal)) before now old new status (Some told) (Some bytes) is disk h may no_read no_write no_disk =
    replay_done told net journal bytes before now old new status is disk h may no_read no_write no_disk
done (Some (Dry net commands)) before now old new status None bytes is disk h may no_read no_write no_disk = absurd may
done (Some (Init net journal)) before now old new status None bytes is disk h may no_read no_write no_disk = absurd may
done (Some (Init net journal)) before now old new status (Some told) None is disk h may no_read no_write no_disk = absurd may
done (Some (Replay net journal)) before now old new status None bytes is disk h may no_read no_write no_disk = absurd may
done (Some (Replay net journal)) before now old new status (Some told) None is disk h may no_read no_write no_disk = absurd may
done (Some (Serve net journal commands)) before now old new status files bytes is disk h may no_read no_write no_disk = absurd may
done (Some (Migrate net next journal)) before now old new status (Some told) (Some bytes) is disk h may no_read no_write no_disk =
    migrate_done told net next journal bytes before now old new status is disk h may no_read no_write no_disk
done (Some (Migrate net next journal)) before now old new status None bytes is disk h may no_read no_write no_disk = absurd may
done (Some (Migrate net next journal)) before now old new status (Some told) None is disk h may no_read no_write no_disk = absurd may
done (Some (Drive net seed count)) before now old new status (Some told) bytes is disk h may no_read no_write no_disk =
    drive_done told net seed count before now status is h may no_read no_write
done (Some (Drive net seed count)) before now old new status None bytes is disk h may no_read no_write no_disk = absurd may
done (Some (Live net journal commands)) before now old new status (Some told) (Some bytes) is disk h may no_read no_write no_disk =
    ask_done live_on None told net journal commands bytes before now old new status is disk h may no_read no_write no_disk
done (Some (Live net journal commands)) before now old new status None bytes is disk h may no_read no_write no_disk = absurd may
done (Some (Live net journal commands)) before now old new status (Some told) None is disk h may no_read no_write no_disk = absurd may
done (Some (Room net journal commands)) before now old new status files bytes is disk h may no_read no_write no_disk = absurd may
done None before now old new status files bytes is disk h may no_read no_write no_disk = absurd may

-- ---- no call failed

read_counted : (task : Option Task) (before now : Outside) (old new : DiskSeen) → Ends task before now old new ReadFault →
    now.read_faults ≡ counted before.read_faults
read_counted (Some (Dry net commands)) before now old new h = h.0
read_counted (Some (Init net journal)) before now old new h = elim h [ inl k ↦ k.1.0 | inr k ↦ absurd k.1.3.2 ]
read_counted (Some (Replay net journal)) before now old new h =
    elim h.1 [ inl k ↦ k.1.0 | inr k ↦ absurd k.1.3.1.3 ]
read_counted (Some (Serve net journal commands)) before now old new h = absurd h
read_counted (Some (Migrate net next journal)) before now old new h = elim h [
  | inl k ↦ k.1.0
  | inr k ↦ elim k.3 [ inl j ↦ j.1.1 | inr j ↦ absurd j.1.3.1.2 ]
]
read_counted (Some (Drive net seed count)) before now old new h = elim h [ inl k ↦ k.0 | inr k ↦ absurd k.1.2.4 ]
read_counted (Some (Live net journal commands)) before now old new h =
    asked_read live_on None net journal commands before now old new h
read_counted (Some (Room net journal commands)) before now old new h = absurd h
read_counted None before now old new h = absurd h

write_counted : (task : Option Task) (before now : Outside) (old new : DiskSeen) → Ends task before now old new WriteFault →
    now.write_faults ≡ counted before.write_faults
write_counted (Some (Dry net commands)) before now old new h = h.2
write_counted (Some (Init net journal)) before now old new h = elim h [ inl k ↦ absurd k.1 | inr k ↦ k.1.3.2.1 ]
write_counted (Some (Replay net journal)) before now old new h =
    elim h.1 [ inl k ↦ absurd k.1 | inr k ↦ k.1.3.1.3.1 ]
write_counted (Some (Serve net journal commands)) before now old new h = absurd h
write_counted (Some (Migrate net next journal)) before now old new h = elim h [
  | inl k ↦ absurd k.1
  | inr k ↦ elim k.3 [ inl j ↦ absurd j.1 | inr j ↦ j.1.3.1.2.1 ]
]
write_counted (Some (Drive net seed count)) before now old new h = elim h [ inl k ↦ absurd k | inr k ↦ k.1.2.4.1 ]
write_counted (Some (Live net journal commands)) before now old new h =
    asked_write live_on None net journal commands before now old new h
write_counted (Some (Room net journal commands)) before now old new h = absurd h
write_counted None before now old new h = absurd h

disk_counted : (task : Option Task) (before now : Outside) (old new : DiskSeen) → Ends task before now old new DiskFault →
    NoDiskFault task old.faults new.faults → ⊥
disk_counted (Some (Dry net commands)) before now old new h none = h
disk_counted (Some (Init net journal)) before now old new h none = elim h [ inl k ↦ k.1 | inr k ↦ none k.1.3.0.1 ]
disk_counted (Some (Replay net journal)) before now old new h none =
    elim h.1 [ inl k ↦ k.1 | inr k ↦ none k.1.3.0.1 ]
disk_counted (Some (Serve net journal commands)) before now old new h none = h
disk_counted (Some (Migrate net next journal)) before now old new h none = elim h [
  | inl k ↦ k.1
  | inr k ↦ elim k.3 [ inl j ↦ j.1 | inr j ↦ none j.1.3.1.0.1 ]
]
disk_counted (Some (Drive net seed count)) before now old new h none = elim h [ inl k ↦ k | inr k ↦ k.1.2.4 ]
disk_counted (Some (Live net journal commands)) before now old new h none =
    none (asked_disk live_on None net journal commands before now old new h)
disk_counted (Some (Room net journal commands)) before now old new h none = h
disk_counted None before now old new h none = h

-- it did not end so
not_ended : (task : Option Task) (before now : Outside) (old new : DiskSeen) (status other : Status) →
    Ends task before now old new status → (Ends task before now old new other → ⊥) → status ≡ other → ⊥
not_ended task before now old new status other h never is =
    never (subst (λ (v : Status). Ends task before now old new v) is h)

pub completes : (task : Option Task) (before now : Outside) (old new : DiskSeen) (status : Status) →
    Ends task before now old new status → MayEnd task before.files old.bytes →
    now.read_faults ≢ counted before.read_faults → now.write_faults ≢ counted before.write_faults →
    NoDiskFault task old.faults new.faults → (status ≡ Done) ⊎ (status ≡ Memory)
completes task before now old new status h may no_read no_write no_disk =
    done task before now old new status before.files old.bytes refl refl h may
    (not_ended task before now old new status ReadFault h (λ k. no_read (read_counted task before now old new k)))
    (not_ended task before now old new status WriteFault h (λ k. no_write (write_counted task before now old new k)))
    (not_ended task before now old new status DiskFault h (λ k. disk_counted task before now old new k no_disk))

-- ---- objects of which no call fails

room_broken : (room : Option ℕ) (bytes : List ℕ) (now : Option (List ℕ)) (old new : ℕ) (part rest : List ℕ) →
    IsSomeAnd room (λ r. length bytes + length (part ++ rest) ≤ r) →
    Appends (Some bytes) now part → new ≡ counted old → IfSome room (λ r. 0 < new → IfSome now (λ bytes. r ≤ length bytes)) →
    (rest ≡ [] → ⊥) → ⊥
room_broken None bytes now old new part rest enough given counts sure more = enough
room_broken (Some r) bytes None old new part rest enough given counts sure more = given
room_broken (Some r) bytes (Some all) old new part [] enough given counts sure more = more refl
room_broken (Some r) bytes (Some all) old new part (b ∷ rest) enough given counts sure more =
    let full = sure (omega (arith, counts)) in
    let a : length all ≡ length bytes + length part = ap length given ∙ length-append bytes part in
    let c = length-append part (b ∷ rest) in
    omega (arith, full, enough, a, c)

-- a text for which there is room is given whole
tells_broken : (text : List ℕ) (before now : Output) (old new : Standing) → Tells text before now WriteFault →
    HasRoom before.given old (length text) → new.room ≡ old.room → new.faults ≡ now.faults → IsSure new now.given → ⊥
tells_broken text before now old new h roomy same counts sure = by_given before.given h.0.2 roomy
  where
    n : ℕ
    n = h.0.0

    by_given : (given : Option (List ℕ)) → Appends given now.given (take n text) → HasRoom given old (length text) → ⊥
    by_given None appends room = room
    by_given (Some bytes) appends room =
        room_broken new.room bytes now.given before.faults new.faults (take n text) (drop n text)
        (subst (λ (v : Option ℕ). IsSomeAnd v (λ r. length bytes + length (take n text ++ drop n text) ≤ r)) (sym same)
        (subst (λ (v : List ℕ). IsSomeAnd old.room (λ r. length bytes + length v ≤ r)) (sym (take-append-drop n text)) room))
        appends (counts ∙ h.1) sure (some_left n text h.0.1)

dry_broken : (net commands : List ℕ) (disk : Option (List ℕ)) (before now : Outside) (old new : Standing) →
    DryEnds net commands before now WriteFault → IsRoomy (Some (Dry net commands)) before.files disk before.given old →
    new.room ≡ old.room → new.faults ≡ now.write_faults → IsSure new now.given → ⊥
dry_broken net commands disk before now old new h roomy same counts sure =
    by_given before.given h.3.2.begins.given h.3.2.early roomy
  where
    by_given : (given : Option (List ℕ)) → Appends given now.given h.3.2.begins.part →
        IfSome given (λ _. GoesOnBehind h.3.0 (situation [] None) h.3.2.stream h.3.2.begins.part) →
        IsRoomy (Some (Dry net commands)) before.files disk given old → ⊥
    by_given None appends early roomy = roomy
    by_given (Some bytes) appends early roomy =
        room_broken new.room bytes now.given before.write_faults new.faults h.3.2.begins.part early.rest
        (subst (λ (v : Option ℕ). IsSomeAnd v (λ r. length bytes + length (h.3.2.begins.part ++ early.rest) ≤ r)) (sym same)
        (roomy h.3.0 h.3.2.stream early.missed (h.3.2.begins.part ++ early.rest) early.changes h.3.1 h.3.2.told early.run))
        appends (counts ∙ h.2) sure early.more

module _ {S A : Type 0} (by : Setup → State → Answering S A) (start : S) (net commands : List ℕ)
    (disk : Option (List ℕ)) (before now : Outside) (old new : Standing) (setup : Setup) (digest : List ℕ) (events : List Event)
    (state : State) where
  stream_broken : IsDigestedFile before.files net setup digest → LeadsTo setup digest disk events state →
      AsksStream (by setup state) NoneInDoubt start commands (behind net before) now WriteFault →
      HasRoomToAsk by start net commands before.files disk before.given old → new.room ≡ old.room →
      new.faults ≡ now.write_faults → IsSure new now.given → ⊥
  stream_broken file leads h roomy same counts sure = by_given before.given h.3.begins.given h.3.early roomy
    where
      by_given : (given : Option (List ℕ)) → Appends given now.given h.3.begins.part →
          IfSome given (λ _. session.GoesOnBehind (by setup state) start h.3.stream h.3.begins.part) →
          HasRoomToAsk by start net commands before.files disk given old → ⊥
      by_given None appends early roomy = roomy
      by_given (Some bytes) appends early roomy =
          room_broken new.room bytes now.given before.write_faults new.faults h.3.begins.part early.rest
          (subst (λ (v : Option ℕ). IsSomeAnd v (λ r. length bytes + length (h.3.begins.part ++ early.rest) ≤ r)) (sym same)
          (roomy setup digest events state h.3.stream early.missed (h.3.begins.part ++ early.rest) file leads h.3.told early.run))
          appends (counts ∙ h.2) sure early.more

ask_broken : {S A : Type 0} (by : Setup → State → Answering S A) (start : S) (net journal commands : List ℕ)
    (before now : Outside) (disk later : DiskSeen) (old new : Standing) →
    AskEnds by start net journal commands before now disk later WriteFault →
    HasRoomToAsk by start net commands before.files disk.bytes before.given old → new.room ≡ old.room →
    new.faults ≡ now.write_faults → IsSure new now.given → ⊥
ask_broken by start net journal commands before now disk later old new h roomy same counts sure = elim h.1 [
  | inl k ↦ k.1
  | inr k ↦ elim k.3 [
    | inl j ↦ j.2
    | inr j ↦ stream_broken by start net commands disk.bytes before now old new k.0 k.1 j.1 j.2 k.2 j.3 j.4 roomy same counts sure
  ]
]

broken : (task : Option Task) (before now : Outside) (disk later : DiskSeen) (old new : Standing) →
    Ends task before now disk later WriteFault → IsRoomy task before.files disk.bytes before.given old →
    new.room ≡ old.room → new.faults ≡ now.write_faults → IsSure new now.given → ⊥
broken (Some (Dry net commands)) before now disk later old new h roomy same counts sure =
    dry_broken net commands disk.bytes before now old new h roomy same counts sure
broken (Some (Init net journal)) before now disk later old new h roomy same counts sure = elim h [
  | inl k ↦ k.1
  | inr k ↦ tells_broken init_line (output_of before) (output_of now) old new k.1.3.2 roomy same counts sure
]
broken (Some (Replay net journal)) before now disk later old new h roomy same counts sure = elim h.1 [
  | inl k ↦ k.1
  | inr k ↦
      let t = k.1.3.1 in
      tells_broken (replay_text k.1.0 t.0 t.1) (output_of before) (output_of now) old new t.3
      (roomy k.1.0 k.1.1 t.0 t.1 k.1.2 t.2) same counts sure
]
broken (Some (Serve net journal commands)) before now disk later old new h roomy same counts sure = h
broken (Some (Migrate net next journal)) before now disk later old new h roomy same counts sure = elim h [
  | inl k ↦ k.1
  | inr k ↦ elim k.3 [
    | inl j ↦ j.1
    | inr j ↦ tells_broken migrate_line (output_of before) (output_of now) old new j.1.3.1.2 roomy same counts sure
  ]
]
broken (Some (Drive net seed count)) before now disk later old new h roomy same counts sure = elim h [
  | inl k ↦ k
  | inr k ↦
      let t = k.1.2 in
      tells_broken t.1 (output_of before) (output_of now) old new t.4 (roomy k.1.0 t.0 t.1 k.1.1 t.2) same counts sure
]
broken (Some (Live net journal commands)) before now disk later old new h roomy same counts sure =
    ask_broken live_on None net journal commands before now disk later old new h roomy same counts sure
broken (Some (Room net journal commands)) before now disk later old new h roomy same counts sure = h
broken None before now disk later old new h roomy same counts sure = h

-- a shelf and a sink of which no call fails
pub calm_ends : (task : Option Task) (before now : Outside) (disk later : DiskSeen) (old new : Standing) (status : Status) →
    Ends task before now disk later status → MayEnd task before.files disk.bytes →
    IsRoomy task before.files disk.bytes before.given old → (status ≡ ReadFault → ⊥) → new.room ≡ old.room →
    new.faults ≡ now.write_faults → IsSure new now.given → NoDiskFault task disk.faults later.faults →
    (status ≡ Done) ⊎ (status ≡ Memory)
calm_ends task before now disk later old new status h may roomy no_read same counts sure no_disk =
    done task before now disk later status before.files disk.bytes refl refl h may no_read
    (not_ended task before now disk later status WriteFault h
    (λ k. broken task before now disk later old new k roomy same counts sure))
    (not_ended task before now disk later status DiskFault h (λ k. disk_counted task before now disk later k no_disk))

-- the files of the words are there
pub there : (task : Option Task) (t : Task) (files : Option NamedFiles) (bytes : Option (List ℕ)) → task ≡ Some t →
    MayEnd task files bytes → IsThereFor t files
there task t files bytes is may = by_task t files bytes (subst (λ (v : Option Task). MayEnd v files bytes) is may)
  where
    by_task : (t : Task) (files : Option NamedFiles) (bytes : Option (List ℕ)) → MayEnd (Some t) files bytes →
        IsThereFor t files
    by_task (Dry net commands) (Some told) bytes may =
        (is_there told net may.network.0 may.network.1, is_there told commands may.stream may.file)
    by_task (Init net journal) (Some told) (Some bytes) may = is_there told net may.network.0 may.network.1
    by_task (Replay net journal) (Some told) (Some bytes) may = is_there told net may.network.bytes may.network.told
    by_task (Dry net commands) None bytes may = absurd may
    by_task (Init net journal) None bytes may = absurd may
    by_task (Init net journal) (Some told) None may = absurd may
    by_task (Replay net journal) None bytes may = absurd may
    by_task (Replay net journal) (Some told) None may = absurd may
    by_task (Serve net journal commands) files bytes may = absurd may
    by_task (Migrate net next journal) (Some told) (Some bytes) may = (
      is_there told net may.network.bytes may.network.told,
      is_there told next may.next_network.bytes may.next_network.told,
    )
    by_task (Migrate net next journal) None bytes may = absurd may
    by_task (Migrate net next journal) (Some told) None may = absurd may
    by_task (Drive net seed count) (Some told) bytes may = is_there told net may.network.0 may.network.1
    by_task (Drive net seed count) None bytes may = absurd may
    by_task (Live net journal commands) (Some told) (Some bytes) may = (
      is_there told net may.journal.network.bytes may.journal.network.told,
      is_there told commands may.stream may.file,
    )
    by_task (Live net journal commands) None bytes may = absurd may
    by_task (Live net journal commands) (Some told) None may = absurd may
    by_task (Room net journal commands) files bytes may = absurd may

-- ---- the disk

pub may_be_left : (task : Option Task) (status : Status) (files : Option NamedFiles) (bytes : Option (List ℕ))
    (images : List ℕ → Type 0) (c : List ℕ) → images c → MayBeLeft task status files bytes images c
may_be_left (Some (Init net journal)) status files bytes images c h = made_left status images c h
may_be_left (Some (Dry net commands)) status files bytes images c h = h
may_be_left (Some (Replay net journal)) status files bytes images c h = h
may_be_left (Some (Serve net journal commands)) status files bytes images c h = h
may_be_left (Some (Drive net seed count)) status files bytes images c h = h
may_be_left (Some (Migrate net next journal)) status files (Some bytes) images c h = inl h
may_be_left (Some (Migrate net next journal)) status files None images c h = h
may_be_left (Some (Live net journal commands)) status files bytes images c h = h
may_be_left (Some (Room net journal commands)) status files bytes images c h = h
may_be_left None status files bytes images c h = h

-- where no call of the disk is made
pub none_made : {D : Type 0} (clock : D → ℕ) (since : D → ℕ → List ℕ → Type 0) (images : D → List ℕ → Type 0) →
    ((d : D) (c : List ℕ) → since d (clock d) c → images d c) → (d : D) (task : Option Task) (status : Status)
    (files : Option NamedFiles) (bytes : Option (List ℕ)) →
    LeavesOnly clock since d d (MayBeLeft task status files bytes (images d))
none_made clock since images only_now d task status files bytes =
    started clock since d (MayBeLeft task status files bytes (images d))
    (λ c left. may_be_left task status files bytes (images d) c (only_now d c left))

-- the journal is bound, where the disk tells its bytes
pub bind_left : {D : Type 0} (clock : D → ℕ) (since : D → ℕ → List ℕ → Type 0) (images : D → List ℕ → Type 0) (old new : D)
    (o : Option (List ℕ)) (net next journal : List ℕ) (status : Status) (files : Option NamedFiles) → IsSome o →
    IfSome o (λ bytes. LeavesOnly clock since old new (MayBeBound files net next bytes (images old))) →
    LeavesOnly clock since old new (MayBeLeft (Some (Migrate net next journal)) status files o (images old))
bind_left clock since images old new None net next journal status files told run = absurd (false≢true told)
bind_left clock since images old new (Some bytes) net next journal status files told run = run
