-- What is told of a journal that is opened, where its bytes are told.
use Rattle.std.proofs.Common.{◌≡◌, refl, sym, ◌∙◌, ap, subst, inl, inr, ℕ, ◌+◌, List, Option, Some, None}
use Rattle.std.specs.Prelude.{Ok, IfSome, is_some, option_map}
use Rattle.eon_model.specs.Services.{State}
use Rattle.eon_model.specs.Legal.{Setup}
use Rattle.eon_model.specs.Disk.{Unchanged, Elapses, LeavesOnly}
use Rattle.eon_model.specs.Journal.{journal_of, left_at, kept_digest}
use Rattle.eon_model.specs.JournalFault.{IsKept}
use Rattle.eon_model.specs.JournalMoments.{IsClosing}
use Rattle.eon_model.proofs.AppendLaws.{closed-stands}
use Rattle.journal_replay.specs.Replayed.{StandsFor, IsReplayed}
use Rattle.plan_journal.specs.Moments.{Ends, IsReady, OnlyReads}
use Rattle.plan_journal.specs.Prepared.{closed_at}
use Rattle.plan_journal.specs.declared.place.Place.{Place}
use Rattle.plan_journal.proofs.MomentLaws.{called, weaker, then}
use Rattle.change_log.specs.Crash.{IsLeftByOpening}
use Rattle.change_log.specs.Opening.{Opens, IsOpened}

-- ---- bytes that are told

-- the journal's gate is closed
pub closed-opens : (setup : Setup) (bytes own : List ℕ) (state : State) (now : Option (List ℕ))
    (images : List ℕ → Type 0) (place : Place) (count : ℕ) → StandsFor setup bytes own state place.at count →
    place.limit ≡ setup.journal → place.number ≡ count + 1 → now ≡ Some (closed_at place.at bytes) →
    IsReady now images place.at → Opens setup bytes own state now images place
closed-opens setup bytes own state now images place count s limit number is ready =
    let kept = kept_digest bytes in
    let t = closed-stands setup bytes own s.events place.at s.stands (ap is_some s.replays) in
    let all : now ≡ Some (journal_of kept s.events) = is ∙ ap (λ (v : List ℕ). Some v) t.1 in
    let ends : Ends (journal_of kept s.events) images place.at =
    subst (λ (o : Option (List ℕ)). IsReady o images place.at) all ready in
    record {
      events = s.events;
      stands = s.stands;
      replays = s.replays;
      journal = t.0;
      holds = record {
        digest = t.0.digest;
        bytes = all;
        durable = ends.durable;
        at = s.stands.begins.place;
        number = number ∙ ap (λ (n : ℕ). n + 1) s.counted;
      };
      left = λ i. left_at (limit i) (s.stands.begins.place i);
    }

-- ---- bytes that may be told

-- what holds of each digest that they are bound to
abbrev pub OverKept : Option (List ℕ) → Setup → (List ℕ → List ℕ → Type 0) → Type 0
OverKept o setup P = IfSome o (λ bytes. (own : List ℕ) → IsKept bytes setup.journal own → P bytes own)

-- it replays, and its gate is closed
pub told-opened : (o mid : Option (List ℕ)) → mid ≡ o → (setup : Setup) (state : State) (count : ℕ) (was place : Place) →
    place ≡ was → (now : Option (List ℕ)) (images : List ℕ → Type 0) →
    OverKept o setup (λ bytes own. IsReplayed setup bytes own state was.at (Ok count)) →
    was.limit ≡ setup.journal → was.number ≡ count + 1 →
    now ≡ option_map (closed_at was.at) mid → IsReady now images place.at →
    OverKept o setup (λ bytes own. IsOpened setup bytes own state now images (Ok place))
told-opened None mid told setup state count was place same now images h limit number is ready = tt
told-opened (Some bytes) mid told setup state count was place same now images h limit number is ready = λ own kept.
    subst (λ (p : Place). Opens setup bytes own state now images p) (sym same)
    (closed-opens setup bytes own state now images was count (h own kept) limit number
    (is ∙ ap (option_map (closed_at was.at)) told)
    (subst (λ (p : Place). IsReady now images p.at) same ready))

-- ---- moments

module _ {D : Type 0} (now : D → Option (List ℕ)) (images : D → List ℕ → Type 0) (clock : D → ℕ)
    (since : D → ℕ → List ℕ → Type 0) where
  -- it is only read, and then its gate is closed
  pub close-moments : (o there : Option (List ℕ)) → there ≡ o → (setup : Setup) (state : State) (count p : ℕ)
      (old mid new : D) → OnlyReads now images clock since old mid →
      OverKept o setup (λ bytes own. IsReplayed setup bytes own state p (Ok count)) →
      IfSome there (λ bytes. LeavesOnly clock since mid new (IsClosing bytes p)) →
      OverKept o setup (λ bytes own. LeavesOnly clock since old new (IsLeftByOpening setup o own (images old)))
  close-moments None there told setup state count p old mid new reads h closing = tt
  close-moments (Some bytes) there told setup state count p old mid new reads h closing = λ own kept.
      let P : List ℕ → Type 0 = IsLeftByOpening setup (Some bytes) own (images old) in
      let s = h own kept in
      then clock since old mid new P
      (weaker clock since old mid (images old) P reads.moments (λ c image. inl image))
      (weaker clock since mid new (IsClosing bytes p) P
      (subst (λ (v : Option (List ℕ)). IfSome v (λ bytes. LeavesOnly clock since mid new (IsClosing bytes p))) told closing)
      (λ c a. inr (bytes, s.events, p, refl, s.stands, a)))

-- ---- the whole call

-- behind a head that was examined
pub over-head : (o there : Option (List ℕ)) → there ≡ o → (setup : Setup) (limit : ℕ) → limit ≡ setup.journal →
    (own : List ℕ) (P : List ℕ → List ℕ → Type 0) → IfSome o (λ bytes. IsKept bytes limit own) → OverKept there setup P →
    IfSome o (λ bytes. P bytes own)
over-head None there told setup limit most own P kept h = tt
over-head (Some bytes) there told setup limit most own P kept h =
    subst (λ (v : Option (List ℕ)). OverKept v setup P) told h own
    (subst (λ (m : ℕ). IsKept bytes m own) most kept)

-- what a read leaves before it
pub left-before : (setup : Setup) (o there : Option (List ℕ)) → there ≡ o → (own : List ℕ) (was is : List ℕ → Type 0)
    (c : List ℕ) → ((d : List ℕ) → is d → was d) → IsLeftByOpening setup there own is c →
    IsLeftByOpening setup o own was c
left-before setup o there told own was is c none_new left = elim left [
  | inl image ↦ inl (none_new c image)
  | inr closing ↦ inr (closing.0, closing.1, closing.2, sym told ∙ closing.3, closing.4, closing.5)
]

-- the same, of bytes that were only read between
pub same-told : (o there : Option (List ℕ)) → there ≡ o → (P : List ℕ → Type 0) → IfSome there P → IfSome o P
same-told o there told P h = subst (λ (v : Option (List ℕ)). IfSome v P) told h

module _ {D : Type 0} (now : D → Option (List ℕ)) (images : D → List ℕ → Type 0) (clock : D → ℕ)
    (since : D → ℕ → List ℕ → Type 0) where
  -- at every moment, where the bytes are told
  abbrev pub Moments : Option (List ℕ) → Setup → List ℕ → D → D → Type 0
  Moments o setup own old new = IfSome o (λ _. LeavesOnly clock since old new (IsLeftByOpening setup o own (images old)))

  -- the same, up to the disk that the borrow ends with
  pub moments-at : (o : Option (List ℕ)) (setup : Setup) (own : List ℕ) (old there new : D) → there ≡ new →
      Moments o setup own old there → Moments o setup own old new
  moments-at o setup own old there new same h = subst (λ (d : D). Moments o setup own old d) same h

  -- one run behind a call that kept the bytes and left no new image
  behind : (o there : Option (List ℕ)) → there ≡ o → (setup : Setup) (own : List ℕ) (old mid new : D) →
      LeavesOnly clock since old mid (images old) → ((c : List ℕ) → images mid c → images old c) →
      LeavesOnly clock since mid new (IsLeftByOpening setup there own (images mid)) →
      LeavesOnly clock since old new (IsLeftByOpening setup o own (images old))
  behind o there told setup own old mid new before none_new later =
      let P : List ℕ → Type 0 = IsLeftByOpening setup o own (images old) in
      then clock since old mid new P
      (weaker clock since old mid (images old) P before (λ c image. inl image))
      (weaker clock since mid new (IsLeftByOpening setup there own (images mid)) P later
      (λ c l. left-before setup o there told own (images old) (images mid) c none_new l))

  -- the events behind the head are followed
  pub follow-moments : (o there : Option (List ℕ)) → there ≡ o → (setup : Setup) (limit : ℕ) → limit ≡ setup.journal →
      (own : List ℕ) (old mid here new : D) → here ≡ mid → OnlyReads now images clock since old mid →
      IfSome o (λ bytes. IsKept bytes limit own) →
      OverKept there setup (λ bytes own. LeavesOnly clock since here new (IsLeftByOpening setup there own (images here))) →
      Moments o setup own old new
  follow-moments None there told setup limit most own old mid here new same reads kept h = tt
  follow-moments (Some bytes) there told setup limit most own old mid here new same reads kept h =
      let reads' : OnlyReads now images clock since old here =
      subst (λ (d : D). OnlyReads now images clock since old d) (sym same) reads in
      behind (Some bytes) there told setup own old here new reads'.moments reads'.none_new
      (over-head (Some bytes) there told setup limit most own
      (λ bytes own. LeavesOnly clock since here new (IsLeftByOpening setup there own (images here))) kept h)

  module _ (only_now : (d : D) (c : List ℕ) → since d (clock d) c → images d c) where
    attached : (old new : D) → Elapses (clock old) (clock new) (since old) (since new) (images new) →
        Unchanged (images old) (images new) → LeavesOnly clock since old new (images old)
    attached old new time crash =
        called clock since images only_now old new (images old) time (λ c image. image) crash.none_new

    -- a file was attached, and its journal is opened
    pub opened-moments : (o there : Option (List ℕ)) → there ≡ o → (setup : Setup) (own : List ℕ) (old mid new : D) →
        Elapses (clock old) (clock mid) (since old) (since mid) (images mid) → Unchanged (images old) (images mid) →
        Moments there setup own mid new → Moments o setup own old new
    opened-moments None there told setup own old mid new time crash h = tt
    opened-moments (Some bytes) there told setup own old mid new time crash h =
        behind (Some bytes) there told setup own old mid new (attached old mid time crash) crash.none_new
        (same-told (Some bytes) there told
        (λ _. LeavesOnly clock since mid new (IsLeftByOpening setup there own (images mid))) h)
