-- Every journal is refused, is another network's, or stands for events that replay.
use Rattle.std.proofs.Common.{◌≡◌, refl, sym, ◌∙◌, ap, subst, ◌⊎◌, inl, inr, ℕ, zero, suc, ◌+◌, ◌<◌, ◌≤◌, ◌^◌, Bool, true, false, List, [], ◌∷◌, ◌++◌, length, take, drop, slice_index, Option, Some, None, arith}
use Rattle.std.specs.Prelude.{IsSome, IsNone, is_some, codes}
use Rattle.std.specs.Option.{option_and_then}
use Rattle.std.proofs.lemmas.Bool.{cases_eq, cases_lt, cases_Bool, both_ways}
use Rattle.std.proofs.lemmas.List.{append-nil, append_assoc, length-append, length-take, take_at, take-append-drop}
use Rattle.eon_model.specs.Services.{State}
use Rattle.eon_model.specs.Legal.{Setup}
use Rattle.eon_model.specs.NetworkText.{is_setup}
use Rattle.eon_model.specs.Events.{Event}
use Rattle.eon_model.specs.EventText.{room_for}
use Rattle.eon_model.specs.Replay.{follow, replay}
use Rattle.eon_model.specs.TopLines.{JournalWhy}
use Rattle.eon_model.specs.Journal.{head, record_text, records_text, written, kept_digest, bound_digest, Stands}
use Rattle.eon_model.specs.JournalFault.{head_fault, HasRecord, HasRecords, AreRecords, is_record_at, IsKept, IsOfAnother, IsRefusedAt}
use Rattle.eon_model.specs.JournalLaws.{JournalsAreDecided}
use Rattle.eon_model.proofs.SetupFacts.{setup-facts}
use Rattle.eon_model.proofs.EventFields.{AreBytes}
use Rattle.eon_model.proofs.RecordLaws.{record-at, record-is}
use Rattle.eon_model.proofs.AppendLaws.{replay-split, records-append, in_range-first}
use Rattle.eon_model.proofs.KeptLaws.{next_record}
use Rattle.eon_model.proofs.WalkLaws.{walk_start, walk_more, walk_stop}

-- ---- two digests

same_or_other : (xs ys : List ℕ) → (xs ≡ ys) ⊎ (xs ≡ ys → ⊥)
same_or_other [] [] = inl refl
same_or_other [] (y ∷ ys) = inr (λ e. cc)
same_or_other (x ∷ xs) [] = inr (λ e. cc)
same_or_other (x ∷ xs) (y ∷ ys) = elim (cases_eq x y) [
  | inr other ↦ inr (λ e. other cc)
  | inl same ↦ elim (same_or_other xs ys) [
    | inl is ↦ inl (λ i. same i ∷ is i)
    | inr differs ↦ inr (λ e. differs cc)
  ]
]

-- ---- all records

-- each record takes a byte or more
many-long : (number : ℕ) (events : List Event) → length events ≤ length (records_text number events)
many-long number [] = omega arith
many-long number (e ∷ events) =
    let more = many-long (number + 1) events in
    let both = length-append (record_text number e) (records_text (number + 1) events) in
    omega arith

few-events : (bytes : List ℕ) (limit : ℕ) (events : List Event) (p : ℕ) → limit ≤ 67108864 →
    HasRecords bytes limit events p → length events + 1 < 2 ^ 32
few-events bytes limit events p most h = elim h.whole [
  | inl none ↦ let empty : length events ≡ 0 = ap length none in omega arith
  | inr ends ↦
      let place = h.place in
      let within = ends.1 in
      let many = many-long 1 events in
      let long = length-append (head (kept_digest bytes)) (records_text 1 events) in
      omega arith
]

-- the records from the front, as far as they go
module _ (bytes : List ℕ) (limit : ℕ) (small : AreBytes bytes) (most : limit ≤ 67108864) where
  pub record All : Type 0 where
    pub events : List Event
    pub place : ℕ
    pub are : AreRecords bytes limit events place

  abbrev is_next : List Event → ℕ → Bool
  is_next events p = is_record_at bytes limit p (length events + 1)

  ends : (events : List Event) (p : ℕ) → HasRecords bytes limit events p → is_next events p ≡ false → All
  ends events p h none = record {
    events = events;
    place = p;
    are = record {
      has = h;
      end = λ e r. both_ways (is_next events p) none
          (record-is bytes limit p (length events + 1) (few-events bytes limit events p most h) e r).0;
    };
  }

  next : (events : List Event) (p : ℕ) → HasRecords bytes limit events p → is_next events p ≡ true →
      (e : Event) × HasRecord bytes limit p (length events + 1) e
  next events p h one = record-at bytes limit p (length events + 1) small (few-events bytes limit events p most h) one

  all_from : (left : ℕ) (events : List Event) (p : ℕ) → HasRecords bytes limit events p → length bytes ≤ p + left → All
  all_from zero events p h l = elim (cases_Bool (is_next events p)) [
    | inl one ↦ let r = (next events p h one).1 in let w = r.whole in absurd (omega arith)
    | inr none ↦ ends events p h none
  ]
  all_from (suc left) events p h l = elim (cases_Bool (is_next events p)) [
    | inl one ↦
        let r = next events p h one in
        all_from left (events ++ r.0 ∷ []) (p + room_for r.0) (walk_more bytes limit events p r.0 h r.1) (omega arith)
    | inr none ↦ ends events p h none
  ]

  pub records_of : head_fault bytes ≡ None → All
  records_of whole = all_from (length bytes) [] 40 (walk_start bytes limit whole) (omega arith)

-- ---- the first event that can not follow

record Lost (setup : Setup) (events : List Event) : Type 0 where
  before : List Event
  event : Event
  after : List Event
  is : events ≡ before ++ event ∷ after
  replays : IsSome (replay setup before)
  none : IsNone (option_and_then (follow setup event) (replay setup before))

some_is : (o : Option State) (state : State) → o ≡ Some state → IsSome o
some_is o state h = ap is_some h

lost_here : (setup : Setup) (done rest : List Event) (e : Event) (state : State) → replay setup done ≡ Some state →
    follow setup e state ≡ None → Lost setup (done ++ e ∷ rest)
lost_here setup done rest e state h none = record {
  before = done;
  event = e;
  after = rest;
  is = refl;
  replays = some_is (replay setup done) state h;
  none = ap (λ (o : Option State). is_some (option_and_then (follow setup e) o)) h ∙ ap is_some none;
}

by_next : (setup : Setup) (done rest : List Event) (e : Event) (state : State) (o : Option State) →
    replay setup done ≡ Some state → follow setup e state ≡ o →
    ((done : List Event) (next : State) → replay setup done ≡ Some next →
    IsSome (replay setup (done ++ rest)) ⊎ Lost setup (done ++ rest)) →
    IsSome (replay setup (done ++ e ∷ rest)) ⊎ Lost setup (done ++ e ∷ rest)
by_next setup done rest e state None h none more = inr (lost_here setup done rest e state h none)
by_next setup done rest e state (Some next) h some more =
    subst (λ (es : List Event). IsSome (replay setup es) ⊎ Lost setup es) (append_assoc done (e ∷ []) rest)
    (more (done ++ e ∷ []) next (replay-split setup (Some []) done (e ∷ [])
    ∙ ap (λ (o : Option State). option_and_then (follow setup e) o) h ∙ some))

lost_or_none : (setup : Setup) (rest done : List Event) (state : State) → replay setup done ≡ Some state →
    IsSome (replay setup (done ++ rest)) ⊎ Lost setup (done ++ rest)
lost_or_none setup [] done state h =
    inl (some_is (replay setup (done ++ [])) state (ap (replay setup) (append-nil done) ∙ h))
lost_or_none setup (e ∷ rest) done state h =
    by_next setup done rest e state (follow setup e state) h refl (lost_or_none setup rest)

-- ---- the journal

module _ (setup : Setup) (bytes digest : List ℕ) (ok : is_setup setup ≡ true) where
  -- the records before one of them
  before_one : (es : List Event) (d : Event) (rest : List Event) (q : ℕ) →
      HasRecords bytes setup.journal (es ++ d ∷ rest) q →
      HasRecords bytes setup.journal es (length (written (kept_digest bytes) es))
  before_one es d rest q h =
      let front = written (kept_digest bytes) es in
      let r = next_record bytes setup.journal es d rest q h in
      let whole = r.whole in
      let within = r.within in
      let later = records_text (1 + length es) (d ∷ rest) in
      let more : written (kept_digest bytes) (es ++ d ∷ rest) ≡ front ++ later =
      ap (λ (v : List ℕ). head (kept_digest bytes) ++ v) (records-append 1 es (d ∷ rest))
      ∙ sym (append_assoc (head (kept_digest bytes)) (records_text 1 es) later) in
      record {
        in_range = in_range-first es (d ∷ rest) h.in_range;
        place = refl;
        begins = ap (take (length front)) (sym (take-append-drop q bytes)
            ∙ ap (λ (v : List ℕ). v ++ drop q bytes) (h.begins ∙ more) ∙ append_assoc front later (drop q bytes))
            ∙ take_at front (later ++ drop q bytes) (length front) refl;
        whole = inr (omega arith, omega arith);
      }

  abbrev Decided : Type 0
  Decided = ((at : ℕ) × (why : JournalWhy) × IsRefusedAt setup bytes digest at why)
      ⊎ (IsOfAnother bytes digest setup.journal
      ⊎ ((events : List Event) × (p : ℕ) × Stands bytes digest setup.journal events p × IsSome (replay setup events)))

  lost_refused : (events : List Event) (p : ℕ) → IsKept bytes setup.journal digest →
      HasRecords bytes setup.journal events p → Lost setup events → Decided
  lost_refused events p is_kept h lost =
      let has = subst (λ (es : List Event). HasRecords bytes setup.journal es p) lost.is h in
      inl (
        length (written (kept_digest bytes) lost.before),
        JournalWhy.Event,
        (
          is_kept,
          lost.before,
          lost.event,
          record { records = before_one lost.before lost.event lost.after p has; replays = lost.replays },
          next_record bytes setup.journal lost.before lost.event lost.after p has,
          lost.none,
        ),
      )

  bad_refused : (events : List Event) (p : ℕ) → IsKept bytes setup.journal digest →
      AreRecords bytes setup.journal events p → IsSome (replay setup events) →
      (length bytes ≤ p) ⊎ (slice_index bytes p ≡ 1) → Decided
  bad_refused events p is_kept are replays gate = inl (
    p,
    JournalWhy.Record,
    (is_kept, events, record { records = are.has; replays = replays }, record { gate = gate; none = are.end }),
  )

  in_limit : (events : List Event) (p : ℕ) → HasRecords bytes setup.journal events p → p + 1 ≤ setup.journal
  in_limit events p h = elim h.whole [
    | inl none ↦
        let place = h.place in
        let same = ap (λ (es : List Event). length (written (kept_digest bytes) es)) none in
        let least = (setup-facts setup ok).least_journal in
        let front = length-append (codes "EONJRNL1") (kept_digest bytes) in
        let all = length-append (head (kept_digest bytes)) (records_text 1 []) in
        let few = length-take 32 (drop 8 bytes) in
        omega arith
    | inr ends ↦ ends.1
  ]

  by_gate : (events : List Event) (p : ℕ) → IsKept bytes setup.journal digest →
      bound_digest (kept_digest bytes) events ≡ digest → AreRecords bytes setup.journal events p →
      IsSome (replay setup events) → Decided
  by_gate events p is_kept bound are replays = elim (cases_lt p (length bytes)) [
    | inr past ↦ bad_refused events p is_kept are replays (inl past)
    | inl inside ↦ elim (cases_eq (slice_index bytes p) 1) [
      | inl one ↦ bad_refused events p is_kept are replays (inr one)
      | inr closed ↦ inr (inr (
        events,
        p,
        subst (λ (d : List ℕ). Stands bytes d setup.journal events p) bound
            (walk_stop bytes setup.journal events p are.has inside (in_limit events p are.has) closed),
        replays,
      ))
    ]
  ]

  by_records : head_fault bytes ≡ None → (events : List Event) (p : ℕ) → AreRecords bytes setup.journal events p → Decided
  by_records whole events p are =
      elim (same_or_other (bound_digest (kept_digest bytes) events) digest) [
        | inr other ↦ inr (inl (record {
          kept = bound_digest (kept_digest bytes) events;
          keeps = record { whole = whole; events = events; place = p; records = are; is = refl };
          differs = other;
        }))
        | inl same ↦
            let is_kept : IsKept bytes setup.journal digest =
            record { whole = whole; events = events; place = p; records = are; is = same } in
            elim (lost_or_none setup events [] [] refl) [
              | inl replays ↦ by_gate events p is_kept same are replays
              | inr lost ↦ lost_refused events p is_kept are.has lost
            ]
      ]

  by_head : AreBytes bytes → (o : Option ℕ) → head_fault bytes ≡ o → Decided
  by_head small (Some at) fault = inl (at, JournalWhy.Head, fault)
  by_head small None whole =
      let all = records_of bytes setup.journal small (setup-facts setup ok).most_journal whole in
      by_records whole all.events all.place all.are

pub journals-decided : JournalsAreDecided
journals-decided setup bytes digest ok small = by_head setup bytes digest ok small (head_fault bytes) refl
