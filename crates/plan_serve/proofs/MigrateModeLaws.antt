-- How the binding of a journal to a wider network ends, and what a crash may leave meanwhile.
use Rattle.std.proofs.Common.{◌≡◌, refl, sym, ◌∙◌, subst, inl, inr, ◌⊎◌, ℕ, ◌≤◌, true, false, List, [], ◌∷◌, ◌++◌, length, Option, Some, None, Ok, Err}
use Rattle.std.specs.Prelude.{IfSome, IsSome}
use Rattle.std.proofs.lemmas.Bool.{false≢true}
use Rattle.eon_model.specs.Legal.{Setup}
use Rattle.eon_model.specs.Events.{Event}
use Rattle.eon_model.specs.EventText.{is_digest, room_for}
use Rattle.eon_model.specs.Disk.{LeavesOnly}
use Rattle.eon_model.specs.Journal.{written, left_at, kept_digest}
use Rattle.eon_model.specs.Readings.{IsSoundJournal}
use Rattle.eon_model.specs.Replay.{replay}
use Rattle.eon_model.specs.Wider.{Widens}
use Rattle.eon_model.specs.TopLines.{migrate_line}
use Rattle.eon_model.proofs.AppendLaws.{closed-stands, closing-sound}
use Rattle.eon_model.proofs.BindingLaws.{sound-wider, reading-narrower, bind-forty, binding, bound-stands}
use Rattle.eon_outside.specs.Reading.{NamedFiles}
use Rattle.plan_journal.specs.Faults.{counted_if}
use Rattle.plan_journal.proofs.MomentLaws.{some_more, started, weaker}
use Rattle.plan_serve.specs.declared.status.Status.{Status}
use Rattle.plan_serve.specs.declared.status.Status.TheVariants.{Done, NextRefused, NextLong, NotWider, ReadFault, DiskFault, JournalRefused, JournalOther, JournalFull, Memory, WriteFault}
use Rattle.plan_serve.specs.Status.{own_line}
use Rattle.plan_serve.specs.Files.{IsDigestedFile}
use Rattle.plan_serve.specs.Outside.{Outside, Output, DiskSeen}
use Rattle.plan_serve.specs.Ends.{GivesLine, Says}
use Rattle.plan_serve.specs.JournalEnds.{Tells, Attaches, AsksFor}
use Rattle.plan_serve.specs.Binding.{bound_events, IsBound, Binds, IsLeftBinding, MayStop, disk_failed}
use Rattle.plan_serve.specs.MigrateEnds.{IsMigrated, BindEnds, IsNotWider, EndsAtNext, NextEnds, behind, at_end, IsSafelyBound, IsLeftSafely, MayBeBoundFrom, MayBeBound}
use Rattle.plan_serve.proofs.TopLaws.{nothing_said}

-- ---- the journal is bound

value_of : {A : Type 0} (o : Option A) → IsSome o → (x : A) × (o ≡ Some x)
value_of None h = absurd (false≢true h)
value_of (Some x) h = (x, refl)

room-for : (net : Setup) (kept digest : List ℕ) (events : List Event) (place : ℕ) → is_digest digest ≡ true →
    place ≡ length (written kept events) → 40 ≤ left_at net.journal place →
    room_for (Event.Bind digest) ≤ left_at net.journal (length (written kept events))
room-for net kept digest events place good at room =
    subst (λ (n : ℕ). n ≤ left_at net.journal (length (written kept events))) (sym (bind-forty digest good))
    (subst (λ (n : ℕ). 40 ≤ left_at net.journal n) at room)

migrated : (net next : Setup) (own digest bytes : List ℕ) (now : Option (List ℕ)) (images : List ℕ → Type 0) →
    Widens net next → IsBound net bytes own digest now images → IsMigrated net next own digest bytes now images
migrated net next own digest bytes now images w b =
    let closed = closed-stands net bytes own b.events b.place b.replays.stands b.replays.replays in
    let bound = bound-stands net next (kept_digest bytes) b.events digest w closed.0 b.digest_good
    (room-for net (kept_digest bytes) digest b.events b.place b.digest_good b.replays.stands.begins.place b.room) in
    let v = value_of (replay net b.events) b.replays.replays in
    record {
      events = b.events;
      state = v.0;
      place = b.place;
      end = length (written (kept_digest bytes) (bound_events b.events digest));
      stands = b.replays.stands;
      replays = v.1;
      bytes_now = b.bytes_now;
      durable = b.durable;
      stands_now = bound.1;
      replays_now = bound.2 ∙ v.1;
    }

module _ (net next : Setup) (own digest journal : List ℕ) (w : Widens net next) (before now : Output) (old new : DiskSeen) where
  pub bound_ends : (status : Status) → Attaches journal false old new →
      IfSome old.bytes (λ bytes. Binds {T = Unit {0}} net bytes own digest new.bytes new.images (Ok tt)) →
      Tells migrate_line before now status → BindEnds net next own digest journal before now old new status
  bound_ends Done a b h =
      (a, some_more old.bytes _ _ (λ bytes k. migrated net next own digest bytes new.bytes new.images w k) b, h)
  bound_ends WriteFault a b h =
      (a, some_more old.bytes _ _ (λ bytes k. migrated net next own digest bytes new.bytes new.images w k) b, h)
  bound_ends _ a b h = absurd h

  refused : (status : Status) → MayStop status → AsksFor journal false new →
      new.faults ≡ counted_if (disk_failed {T = Unit {0}} (Err status)) old.faults →
      IfSome old.bytes (λ bytes. Binds {T = Unit {0}} net bytes own digest new.bytes new.images (Err status)) →
      GivesLine (own_line status) before.given now.given before.faults now.faults →
      BindEnds net next own digest journal before now old new status
  refused (JournalRefused at why) may a f b said = (
    (a, f),
    some_more old.bytes _ _ (λ bytes k. k.0) b,
    some_more old.bytes _ _ (λ bytes k. k.1) b,
    said,
  )
  refused (JournalOther kept mine) may a f b said = (
    (a, f),
    some_more old.bytes _ _ (λ bytes k. k.0) b,
    some_more old.bytes _ _ (λ bytes k. k.1) b,
    said,
  )
  refused (JournalFull need left) may a f b said = ((a, f), b, said)
  refused DiskFault may a f b said =
      let none = nothing_said before.given now.given before.faults now.faults said in ((a, f), (none.1, none.0))
  refused Memory may a f b said =
      let none = nothing_said before.given now.given before.faults now.faults said in
      (inr ((a, f), some_more old.bytes _ _ (λ bytes k. k.0) b), (none.1, none.0))
  refused _ may a f b said = absurd may

  pub refused_ends : (status result : Status) → result ≡ status → MayStop status → AsksFor journal false new →
      new.faults ≡ counted_if (disk_failed {T = Unit {0}} (Err status)) old.faults →
      IfSome old.bytes (λ bytes. Binds {T = Unit {0}} net bytes own digest new.bytes new.images (Err status)) →
      GivesLine (own_line status) before.given now.given before.faults now.faults →
      BindEnds net next own digest journal before now old new result
  refused_ends status result is may a f b said =
      subst (λ (v : Status). BindEnds net next own digest journal before now old new v) (sym is) (refused status may a f b said)

-- ---- what a crash may leave

module _ (net next : Setup) (bytes own digest : List ℕ) (images : List ℕ → Type 0) (w : Widens net next)
    (good : is_digest digest ≡ true) where
  safely : (c : List ℕ) → IsLeftBinding net bytes own digest images c →
      images c ⊎ (IsSoundJournal net bytes → IsSafelyBound net next own digest bytes c)
  safely c (inl i) = inl i
  safely c (inr (inl h)) = inr (λ sound.
      let s = closing-sound net bytes own h.0 h.1 c sound h.2.stands h.3 in
      record {
        events = h.0;
        place = h.1;
        stands = h.2.stands;
        sound = s.0;
        sound_next = sound-wider net next c w s.0;
        readings = λ reading r. inl (elim r [
          | inl here ↦ s.1 reading here
          | inr there ↦ s.1 reading (reading-narrower net next c s.0 reading there)
        ]);
      })
  safely c (inr (inr h)) = inr (λ sound.
      let closed = closed-stands net bytes own h.0 h.1 h.2.stands h.2.replays in
      let b = binding net next (kept_digest bytes) h.0 digest c w closed.0 good
      (room-for net (kept_digest bytes) digest h.0 h.1 good h.2.stands.begins.place h.3) h.4 in
      record {
        events = h.0;
        place = h.1;
        stands = h.2.stands;
        sound = b.0;
        sound_next = b.1;
        readings = λ reading r. inr (elim r [ inl here ↦ b.2 reading here | inr there ↦ b.3 reading there ]);
      })

pub left_safely : {D : Type 0} (clock : D → ℕ) (since : D → ℕ → List ℕ → Type 0) (images : D → List ℕ → Type 0) (old new : D)
    (o : Option (List ℕ)) (net next : Setup) (own digest : List ℕ) → Widens net next → is_digest digest ≡ true →
    IfSome o (λ bytes. LeavesOnly clock since old new (IsLeftBinding net bytes own digest (images old))) →
    IfSome o (λ bytes. LeavesOnly clock since old new (IsLeftSafely net next own digest bytes (images old)))
left_safely clock since images old new o net next own digest w good run =
    some_more o _ _ (λ bytes. λ r. weaker clock since old new (IsLeftBinding net bytes own digest (images old))
    (IsLeftSafely net next own digest bytes (images old)) r (safely net next bytes own digest (images old) w good)) run

from_left : (net wider : Setup) (own digest : List ℕ) (files : Option NamedFiles) (next bytes : List ℕ)
    (images : List ℕ → Type 0) → IsDigestedFile files next wider digest → Widens net wider → (c : List ℕ) →
    IsLeftSafely net wider own digest bytes images c → MayBeBoundFrom net own files next bytes images c
from_left net wider own digest files next bytes images file w c (inl i) = inl i
from_left net wider own digest files next bytes images file w c (inr h) = inr (wider, digest, file, (w, h))

from_start : (net : Setup) (own : List ℕ) (files there : Option NamedFiles) (name next bytes : List ℕ)
    (images : List ℕ → Type 0) → there ≡ files → IsDigestedFile files name net own → (c : List ℕ) →
    MayBeBoundFrom net own there next bytes images c → MayBeBound files name next bytes images c
from_start net own files there name next bytes images is file c (inl i) = inl i
from_start net own files there name next bytes images is file c (inr h) =
    inr (net, own, file, (h.0, h.1, subst (λ (v : Option NamedFiles). IsDigestedFile v next h.0 h.1) is h.2, h.3))

-- no call of the disk is made
pub left_alone : {D : Type 0} (clock : D → ℕ) (since : D → ℕ → List ℕ → Type 0) (images : D → List ℕ → Type 0) →
    ((d : D) (c : List ℕ) → since d (clock d) c → images d c) → (d : D) (o : Option (List ℕ))
    (P : List ℕ → List ℕ → Type 0) → ((bytes c : List ℕ) → images d c → P bytes c) →
    IfSome o (λ bytes. LeavesOnly clock since d d (P bytes))
left_alone clock since images only_now d None P more = tt
left_alone clock since images only_now d (Some bytes) P more =
    started clock since d (P bytes) (λ c left. more bytes c (only_now d c left))

module _ {D : Type 0} (clock : D → ℕ) (since : D → ℕ → List ℕ → Type 0) (images : D → List ℕ → Type 0) (old new : D)
    (o : Option (List ℕ)) where
  pub left_from : (net wider : Setup) (own digest : List ℕ) (files : Option NamedFiles) (next : List ℕ) →
      IsDigestedFile files next wider digest → Widens net wider →
      IfSome o (λ bytes. LeavesOnly clock since old new (IsLeftSafely net wider own digest bytes (images old))) →
      IfSome o (λ bytes. LeavesOnly clock since old new (MayBeBoundFrom net own files next bytes (images old)))
  left_from net wider own digest files next file w run =
      some_more o _ _ (λ bytes. λ r. weaker clock since old new (IsLeftSafely net wider own digest bytes (images old))
      (MayBeBoundFrom net own files next bytes (images old)) r
      (from_left net wider own digest files next bytes (images old) file w)) run

  pub left_start : (net : Setup) (own : List ℕ) (files there : Option NamedFiles) (name next : List ℕ) → there ≡ files →
      IsDigestedFile files name net own →
      IfSome o (λ bytes. LeavesOnly clock since old new (MayBeBoundFrom net own there next bytes (images old))) →
      IfSome o (λ bytes. LeavesOnly clock since old new (MayBeBound files name next bytes (images old)))
  left_start net own files there name next is file run =
      some_more o _ _ (λ bytes. λ r. weaker clock since old new (MayBeBoundFrom net own there next bytes (images old))
      (MayBeBound files name next bytes (images old)) r
      (from_start net own files there name next bytes (images old) is file)) run

-- ---- the wider network is refused

next_ends : (setup : Setup) (next : List ℕ) (before now : Outside) (status : Status) → now.opened ≡ before.opened ++ next ∷ [] →
    IsNotWider before.files setup next before.read_faults now.read_faults status → Says (own_line status) before now →
    EndsAtNext setup next before now status
next_ends setup next before now (NextRefused number why) opened h said = ((opened, h.0), h.1, said)
next_ends setup next before now NextLong opened h said = ((opened, h.0), h.1, said)
next_ends setup next before now (NotWider what) opened h said = ((opened, h.0), h.1, said)
next_ends setup next before now Memory opened h said =
    let none = nothing_said before.given now.given before.write_faults now.write_faults said in
    ((opened, h), (none.1, none.0))
next_ends setup next before now ReadFault opened h said =
    let none = nothing_said before.given now.given before.write_faults now.write_faults said in (opened, h, none.1, none.0)
next_ends setup next before now _ opened h said = absurd h

pub next_said : (setup : Setup) (next : List ℕ) (before now : Outside) (status result : Status) → result ≡ status →
    now.opened ≡ before.opened ++ next ∷ [] →
    IsNotWider before.files setup next before.read_faults now.read_faults status → Says (own_line status) before now →
    EndsAtNext setup next before now result
next_said setup next before now status result is opened h said =
    subst (λ (v : Status). EndsAtNext setup next before now v) (sym is) (next_ends setup next before now status opened h said)

-- ---- behind the first network

abbrev at-left : Outside → Option NamedFiles → List (List ℕ) → ℕ → Outside
at-left before files opened faults = record {
  files = files;
  opened = opened;
  left = None;
  given = before.given;
  read_faults = faults;
  write_faults = before.write_faults;
}

pub behind_ends : (setup : Setup) (own net next journal : List ℕ) (before now : Outside) (files : Option NamedFiles)
    (opened : List (List ℕ)) (faults : ℕ) (old new : DiskSeen) (status : Status) → files ≡ before.files →
    opened ≡ before.opened ++ net ∷ [] → faults ≡ before.read_faults →
    NextEnds setup own next journal (at-left before files opened faults) (at_end now) old new status →
    NextEnds setup own next journal (behind net before) (at_end now) old new status
behind_ends setup own net next journal before now files opened faults old new status f o r h =
    subst (λ (v : Option NamedFiles). NextEnds setup own next journal
    (at-left before v (before.opened ++ net ∷ []) before.read_faults) (at_end now) old new status) f
    (subst (λ (v : List (List ℕ)). NextEnds setup own next journal (at-left before files v before.read_faults) (at_end now) old
    new status) o
    (subst (λ (v : ℕ). NextEnds setup own next journal (at-left before files opened v) (at_end now) old new status) r h))
