-- What is told of a journal that is bound, step by step, and what a crash may leave meanwhile.
use Rattle.std.proofs.Common.{◌≡◌, refl, sym, ◌∙◌, ap, subst, inl, inr, ◌⊎◌, ℕ, suc, ◌+◌, ◌<◌, ◌≤◌, true, nat_eq, nat_lt, get_or, List, [], ◌∷◌, ◌++◌, length, take, Option, Some, None}
use Rattle.std.specs.Prelude.{Result, Ok, Err, IfSome, IsSome, OnOk, option_map}
use Rattle.std.specs.List.{list_all}
use Rattle.std.proofs.lemmas.Bool.{and_from, lt-ltb, eq-eqb}
use Rattle.eon_model.specs.Events.{Event}
use Rattle.eon_model.specs.EventText.{is_digest, room_for}
use Rattle.eon_model.specs.Journal.{record_body, written, journal_of, left_at, kept_digest}
use Rattle.eon_model.specs.Legal.{Setup}
use Rattle.eon_model.specs.Services.{State}
use Rattle.eon_model.specs.Disk.{Only, LeavesOnly}
use Rattle.eon_model.specs.JournalFault.{IsKept}
use Rattle.eon_model.specs.JournalMoments.{IsClosing, IsAppending}
use Rattle.journal_replay.specs.declared.fault.ReplayFault.{ReplayFault}
use Rattle.journal_replay.specs.declared.fault.ReplayFault.TheVariants as replays
use Rattle.journal_replay.specs.Replayed.{IsReplayed, StandsFor}
use Rattle.eon_model.proofs.BindingLaws.{bind-forty}
use Rattle.eon_model.proofs.JournalGrowth.{journal-push}
use Rattle.eon_model.proofs.AppendLaws.{closed-stands}
use Rattle.std.proofs.lemmas.List.{take_at}
use Rattle.plan_journal.specs.Appended.{with_record}
use Rattle.plan_journal.specs.Moments.{IsDurable, OnlyReads}
use Rattle.plan_journal.specs.declared.place.Place.{Place}
use Rattle.plan_journal.specs.Prepared.{closed_at}
use Rattle.plan_journal.proofs.MomentLaws.{then, weaker}
use Rattle.plan_serve.specs.declared.status.Status.{Status}
use Rattle.plan_serve.specs.declared.status.Status.TheVariants.{DiskFault, JournalFull}
use Rattle.plan_serve.specs.Binding.{replay_status, bound_events, Replays, TellsRoom, OnFull, MakesReady, IsMadeReady, OpensReady, IsBeingClosed, IsBound, IsFull, Binds, IsBeingBound, IsLeftBinding}

-- ---- the digest

all-bytes : (xs : List ℕ) → ((i : ℕ) → get_or xs i 0 < 256) → list_all (λ b. nat_lt b 256) xs ≡ true
all-bytes [] h = refl
all-bytes (x ∷ xs) h = and_from (nat_lt x 256) (list_all (λ b. nat_lt b 256) xs) (lt-ltb x 256 (h 0)) (all-bytes xs (λ i. h (suc i)))

pub digest-good : (digest : List ℕ) → length digest ≡ 32 → ((i : ℕ) → get_or digest i 0 < 256) → is_digest digest ≡ true
digest-good digest long h =
    and_from (nat_eq (length digest) 32) (list_all (λ b. nat_lt b 256) digest) (eq-eqb (length digest) 32 long) (all-bytes digest h)

-- ---- followed

some-of : {A : Type 0} (o : Option A) (x : A) → o ≡ Some x → IsSome o
some-of None x e = cc
some-of (Some y) x e = refl

pub replayed : (setup : Setup) (bytes own : List ℕ) (state : State) (p count : ℕ) → (h : StandsFor setup bytes own state p count) →
    Replays setup bytes own h.events p
replayed setup bytes own state p count h =
    record { stands = h.stands; replays = some-of _ state h.replays }

-- a journal that does not replay
not_ready : (T : Type 0) (setup : Setup) (bytes own : List ℕ) (state : State) (p q number : ℕ) (fault : ReplayFault) →
    IsReplayed setup bytes own state p (Err fault) → MakesReady {T = T} setup bytes own q number (Some bytes) (Err (replay_status fault))
not_ready T setup bytes own state p q number (replays.Refused at why) h = (refl, h)
not_ready T setup bytes own state p q number (replays.Other kept mine) h = (refl, h)
not_ready T setup bytes own state p q number replays.Disk h = tt
not_ready T setup bytes own state p q number replays.Memory h = (refl, tt)

-- what holds of told bytes, and what they are bound to
abbrev pub Told : Option (List ℕ) → Setup → (List ℕ → List ℕ → Type 0) → Type 0
Told o setup P = IfSome o (λ bytes. (own : List ℕ) → IsKept bytes setup.journal own → P bytes own)

pub told-not_ready : (T : Type 0) (o now : Option (List ℕ)) → now ≡ o → (setup : Setup) (state : State) (p q number : ℕ)
    (fault : ReplayFault) (status : Status) → status ≡ replay_status fault →
    Told o setup (λ bytes own. IsReplayed setup bytes own state p (Err fault)) →
    Told o setup (λ bytes own. MakesReady {T = T} setup bytes own q number now (Err status))
told-not_ready T None now same setup state p q number fault status is h = tt
told-not_ready T (Some bytes) now same setup state p q number fault status is h = λ own kept.
    subst (λ (v : Option (List ℕ)). MakesReady {T = T} setup bytes own q number v (Err status)) (sym same)
    (subst (λ (s : Status). MakesReady {T = T} setup bytes own q number (Some bytes) (Err s)) (sym is)
    (not_ready T setup bytes own state p q number fault (h own kept)))

-- ---- made ready

pub told-ready : (o mid now : Option (List ℕ)) → mid ≡ o → (setup : Setup) (state : State) (p count number at next : ℕ) →
    at ≡ p → next ≡ number → number ≡ count + 1 → now ≡ option_map (closed_at p) mid →
    Told o setup (λ bytes own. IsReplayed setup bytes own state p (Ok count)) →
    Told o setup (λ bytes own. IsMadeReady setup bytes own at next now)
told-ready None mid now same setup state p count number at next place numbered is closed h = tt
told-ready (Some bytes) mid now same setup state p count number at next place numbered is closed h = λ own kept.
    let s = h own kept in
    record {
      events = s.events;
      replays = subst (λ (q : ℕ). Replays setup bytes own s.events q) (sym place) (replayed setup bytes own state p count s);
      numbered = numbered ∙ is ∙ ap (λ (n : ℕ). n + 1) s.counted;
      closed = closed ∙ ap (option_map (closed_at p)) same ∙ ap (λ (q : ℕ). Some (closed_at q bytes)) (sym place);
    }

-- what a crash may leave while the gate is closed, behind calls that only read
pub told-closing : {D : Type 0} (now : D → Option (List ℕ)) (images : D → List ℕ → Type 0) (clock : D → ℕ)
    (since : D → ℕ → List ℕ → Type 0) (old mid new : D) (setup : Setup) (state : State) (p count : ℕ) →
    OnlyReads now images clock since old mid →
    Told (now old) setup (λ bytes own. IsReplayed setup bytes own state p (Ok count)) →
    IfSome (now mid) (λ bytes. LeavesOnly clock since mid new (IsClosing bytes p)) →
    Told (now old) setup (λ bytes own. LeavesOnly clock since old new (λ c. images old c ⊎ IsBeingClosed setup bytes own c))
told-closing {D} now images clock since old mid new setup state p count reads h run =
    by_told (now old) h (subst (λ (v : Option (List ℕ)). IfSome v (λ bytes. LeavesOnly clock since mid new (IsClosing bytes p))) reads.same run)
  where
    by_told : (o : Option (List ℕ)) → Told o setup (λ bytes own. IsReplayed setup bytes own state p (Ok count)) →
        IfSome o (λ bytes. LeavesOnly clock since mid new (IsClosing bytes p)) →
        Told o setup (λ bytes own. LeavesOnly clock since old new (λ c. images old c ⊎ IsBeingClosed setup bytes own c))
    by_told None h run = tt
    by_told (Some bytes) h run = λ own kept.
        let s = h own kept in
        then clock since old mid new (λ c. images old c ⊎ IsBeingClosed setup bytes own c)
        (weaker clock since old mid (images old) (λ c. images old c ⊎ IsBeingClosed setup bytes own c) reads.moments (λ c i. inl i))
        (weaker clock since mid new (IsClosing bytes p) (λ c. images old c ⊎ IsBeingClosed setup bytes own c) run
        (λ c closing. inr (s.events, p, replayed setup bytes own state p count s, closing)))

-- ---- bound

-- what holds at `Full`, and more
full_more : {T : Type 0} (r : Result T Status) (P Q : Type 0) → (P → Q) → OnFull r P → OnFull r Q
full_more (Err (JournalFull need left)) P Q f h = f h
full_more _ P Q f h = tt

by-known : (images : List ℕ → Type 0) (o : Option (List ℕ)) (bytes : List ℕ) → o ≡ Some bytes →
    IfSome o (λ b. Only b images) → Only bytes images
by-known images o bytes is h = subst (λ (v : Option (List ℕ)). IfSome v (λ b. Only b images)) is h

module _ (setup : Setup) (bytes own next : List ℕ) (p number : ℕ) (mid : Option (List ℕ))
    (h : IsMadeReady setup bytes own p number mid) where
  front-is : take p bytes ≡ written (kept_digest bytes) h.events
  front-is = h.replays.stands.begins.begins

  cut-again : take p (closed_at p bytes) ≡ take p bytes
  cut-again = take_at (take p bytes) (0 ∷ []) p (ap length front-is ∙ sym h.replays.stands.begins.place)

  -- the journal with the record behind the events
  bound-is : with_record p (record_body number (Event.Bind next) ++ 0 ∷ []) (closed_at p bytes)
      ≡ journal_of (kept_digest bytes) (bound_events h.events next)
  bound-is =
      (λ i. (cut-again ∙ front-is) i ++ 1 ∷ (record_body (h.numbered i) (Event.Bind next) ++ 0 ∷ []))
      ∙ sym (journal-push (kept_digest bytes) h.events (Event.Bind next))

  closed-is : mid ≡ Some (journal_of (kept_digest bytes) h.events)
  closed-is = h.closed ∙ ap Some (closed-stands setup bytes own h.events p h.replays.stands h.replays.replays).1

  pub is-bound : (now : Option (List ℕ)) (images : List ℕ → Type 0) → is_digest next ≡ true →
      room_for (Event.Bind next) ≤ left_at setup.journal p →
      now ≡ option_map (with_record p (record_body number (Event.Bind next) ++ 0 ∷ [])) mid →
      IsDurable now images → IsBound setup bytes own next now images
  is-bound now images good room is durable =
      let bytes-now : now ≡ Some (journal_of (kept_digest bytes) (bound_events h.events next)) =
      is ∙ ap (option_map (with_record p (record_body number (Event.Bind next) ++ 0 ∷ []))) h.closed ∙ ap Some bound-is in
      record {
        events = h.events;
        place = p;
        replays = h.replays;
        digest_good = good;
        room = subst (λ (n : ℕ). n ≤ left_at setup.journal p) (bind-forty next good) room;
        bytes_now = bytes-now;
        durable = by-known images now (journal_of (kept_digest bytes) (bound_events h.events next)) bytes-now durable;
      }

  pub is-full : (now : Option (List ℕ)) (need left : ℕ) → is_digest next ≡ true →
      left_at setup.journal p < room_for (Event.Bind next) → need ≡ room_for (Event.Bind next) →
      left ≡ left_at setup.journal p → now ≡ mid → IsFull setup bytes own need left now
  is-full now need left good few n l same =
      let forty = bind-forty next good in
      record {
        events = h.events;
        place = p;
        replays = h.replays;
        needed = n ∙ forty;
        left_is = l;
        few = subst (λ (k : ℕ). k < 40) (sym l) (subst (λ (k : ℕ). left_at setup.journal p < k) forty few);
        bytes_now = same ∙ closed-is;
      }

  pub is-appending : (front : List ℕ) → front ≡ closed_at p bytes → (c : List ℕ) → is_digest next ≡ true →
      room_for (Event.Bind next) ≤ left_at setup.journal p →
      IsAppending (take p front) (record_body number (Event.Bind next)) c → IsBeingBound setup bytes own next c
  is-appending front is c good room a = (
    h.events,
    p,
    h.replays,
    subst (λ (n : ℕ). n ≤ left_at setup.journal p) (bind-forty next good) room,
    subst (λ (n : ℕ). IsAppending (written (kept_digest bytes) h.events) (record_body n (Event.Bind next)) c) h.numbered
        (subst (λ (v : List ℕ). IsAppending v (record_body number (Event.Bind next)) c) (ap (take p) is ∙ cut-again ∙ front-is) a),
  )

-- what came of the binding, where the journal was made ready
bind-result : {T : Type 0} (setup : Setup) (bytes own next : List ℕ) (limit p number : ℕ) (mid now : Option (List ℕ))
    (images : List ℕ → Type 0) (r : Result T Status) → IsMadeReady setup bytes own p number mid → limit ≡ setup.journal →
    is_digest next ≡ true → TellsRoom (room_for (Event.Bind next)) (left_at limit p) r → OnFull r (now ≡ mid) →
    OnOk r (now ≡ option_map (with_record p (record_body number (Event.Bind next) ++ 0 ∷ [])) mid) →
    OnOk r (IsDurable now images) → Binds setup bytes own next now images r
bind-result setup bytes own next limit p number mid now images (Ok x) h most good room same is durable =
    is-bound setup bytes own next p number mid h now images good
    (subst (λ (n : ℕ). room_for (Event.Bind next) ≤ left_at n p) most room) is durable
bind-result setup bytes own next limit p number mid now images (Err (JournalFull need left)) h most good room same is durable =
    is-full setup bytes own next p number mid h now need left good
    (subst (λ (n : ℕ). left_at n p < room_for (Event.Bind next)) most room.0) room.1
    (room.2 ∙ ap (λ (n : ℕ). left_at n p) most) same
bind-result setup bytes own next limit p number mid now images (Err DiskFault) h most good room same is durable = tt
bind-result setup bytes own next limit p number mid now images (Err _) h most good room same is durable = absurd room

pub told-bound : {T : Type 0} (o mid now : Option (List ℕ)) (images : List ℕ → Type 0) (setup : Setup) (own next : List ℕ)
    (opened : Result Place Status) (place : Place) (r : Result T Status) → opened ≡ Ok place →
    IfSome o (λ bytes. OpensReady setup bytes own mid opened) → place.limit ≡ setup.journal → is_digest next ≡ true →
    TellsRoom (room_for (Event.Bind next)) (left_at place.limit place.at) r → OnFull r (now ≡ mid) →
    OnOk r (now ≡ option_map (with_record place.at (record_body place.number (Event.Bind next) ++ 0 ∷ [])) mid) →
    OnOk r (IsDurable now images) → IfSome o (λ bytes. Binds setup bytes own next now images r)
told-bound None mid now images setup own next opened place r is h most good room same bytes-now durable = tt
told-bound (Some bytes) mid now images setup own next opened place r is h most good room same bytes-now durable =
    bind-result setup bytes own next place.limit place.at place.number mid now images r
    (subst (λ (v : Result Place Status). OpensReady setup bytes own mid v) is h) most good room same bytes-now durable

-- what a crash may leave meanwhile
module _ {D : Type 0} (now : D → Option (List ℕ)) (images : D → List ℕ → Type 0) (clock : D → ℕ)
    (since : D → ℕ → List ℕ → Type 0) (old mid new : D) (setup : Setup) (own next : List ℕ) (limit p number : ℕ)
    (most : limit ≡ setup.journal) (good : is_digest next ≡ true) where
  left-closing : (bytes : List ℕ) → LeavesOnly clock since old mid (λ c. images old c ⊎ IsBeingClosed setup bytes own c) →
      LeavesOnly clock since old mid (IsLeftBinding setup bytes own next (images old))
  left-closing bytes run =
      weaker clock since old mid (λ c. images old c ⊎ IsBeingClosed setup bytes own c)
      (IsLeftBinding setup bytes own next (images old)) run (λ c e. elim e [ inl i ↦ inl i | inr k ↦ inr (inl k) ])

  left-binding : (bytes : List ℕ) → IsMadeReady setup bytes own p number (now mid) →
      room_for (Event.Bind next) ≤ left_at limit p →
      LeavesOnly clock since old mid (λ c. images old c ⊎ IsBeingClosed setup bytes own c) →
      IfSome (now mid) (λ b. LeavesOnly clock since mid new (IsAppending (take p b) (record_body number (Event.Bind next)))) →
      LeavesOnly clock since old new (IsLeftBinding setup bytes own next (images old))
  left-binding bytes h room run appended =
      let here = subst (λ (v : Option (List ℕ)). IfSome v (λ b. LeavesOnly clock since mid new
      (IsAppending (take p b) (record_body number (Event.Bind next))))) h.closed appended in
      then clock since old mid new (IsLeftBinding setup bytes own next (images old)) (left-closing bytes run)
      (weaker clock since mid new (IsAppending (take p (closed_at p bytes)) (record_body number (Event.Bind next)))
      (IsLeftBinding setup bytes own next (images old)) here
      (λ c a. inr (inr (is-appending setup bytes own next p number (now mid) h (closed_at p bytes) refl c good
      (subst (λ (n : ℕ). room_for (Event.Bind next) ≤ left_at n p) most room) a))))

  left-by : {T : Type 0} (r : Result T Status) (bytes : List ℕ) → IsMadeReady setup bytes own p number (now mid) →
      TellsRoom (room_for (Event.Bind next)) (left_at limit p) r → OnFull r (new ≡ mid) →
      LeavesOnly clock since old mid (λ c. images old c ⊎ IsBeingClosed setup bytes own c) →
      IfSome (now mid) (λ b. LeavesOnly clock since mid new (IsAppending (take p b) (record_body number (Event.Bind next)))) →
      LeavesOnly clock since old new (IsLeftBinding setup bytes own next (images old))
  left-by (Ok x) bytes h room same run appended = left-binding bytes h room run appended
  left-by (Err DiskFault) bytes h room same run appended = left-binding bytes h room run appended
  left-by (Err (JournalFull need left)) bytes h room same run appended =
      subst (λ (d : D). LeavesOnly clock since old d (IsLeftBinding setup bytes own next (images old))) (sym same)
      (left-closing bytes run)
  left-by (Err _) bytes h room same run appended = absurd room

pub told-moments : {D T : Type 0} (now : D → Option (List ℕ)) (images : D → List ℕ → Type 0) (clock : D → ℕ)
    (since : D → ℕ → List ℕ → Type 0) (old mid new : D) (setup : Setup) (own next : List ℕ) (opened : Result Place Status)
    (place : Place) (r : Result T Status) → opened ≡ Ok place →
    IfSome (now old) (λ bytes. OpensReady setup bytes own (now mid) opened) → place.limit ≡ setup.journal →
    is_digest next ≡ true → TellsRoom (room_for (Event.Bind next)) (left_at place.limit place.at) r → OnFull r (new ≡ mid) →
    IfSome (now old) (λ bytes. LeavesOnly clock since old mid (λ c. images old c ⊎ IsBeingClosed setup bytes own c)) →
    IfSome (now mid) (λ b. LeavesOnly clock since mid new
    (IsAppending (take place.at b) (record_body place.number (Event.Bind next)))) →
    IfSome (now old) (λ bytes. LeavesOnly clock since old new (IsLeftBinding setup bytes own next (images old)))
told-moments now images clock since old mid new setup own next opened place r is h most good room same run appended =
    by_told (now old) h run
  where
    by_told : (o : Option (List ℕ)) → IfSome o (λ bytes. OpensReady setup bytes own (now mid) opened) →
        IfSome o (λ bytes. LeavesOnly clock since old mid (λ c. images old c ⊎ IsBeingClosed setup bytes own c)) →
        IfSome o (λ bytes. LeavesOnly clock since old new (IsLeftBinding setup bytes own next (images old)))
    by_told None h run = tt
    by_told (Some bytes) h run =
        left-by now images clock since old mid new setup own next place.limit place.at place.number most good r
        bytes (subst (λ (v : Result Place Status). OpensReady setup bytes own (now mid) v) is h) room same run appended

pub same-now : {D T : Type 0} (now : D → Option (List ℕ)) (mid new : D) (r : Result T Status) → OnFull r (new ≡ mid) →
    OnFull r (now new ≡ now mid)
same-now now mid new r h = full_more r (new ≡ mid) (now new ≡ now mid) (ap now) h
