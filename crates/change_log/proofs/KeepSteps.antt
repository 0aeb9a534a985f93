-- What one append makes of a log over a journal.
use Rattle.std.proofs.Common.{◌≡◌, refl, sym, ◌∙◌, ap, subst, ℕ, ◌+◌, ◌≤◌, false, true, List, [], ◌∷◌, ◌++◌, length, take, Option, Some, None}
use Rattle.std.specs.Prelude.{IfSome, Err, option_map}
use Rattle.std.proofs.lemmas.List.{append-nil, length-append, take_at}
use Rattle.std.proofs.lemmas.Option.{none-some}
use Rattle.eon_model.specs.Events.{Event}
use Rattle.eon_model.specs.EventText.{room_for}
use Rattle.eon_model.specs.Disk.{LeavesOnly}
use Rattle.eon_model.specs.Journal.{record_body, record_text, written, journal_of}
use Rattle.eon_model.specs.JournalMoments.{IsAppending, IsLeft}
use Rattle.eon_model.proofs.JournalGrowth.{journal-push, length-push}
use Rattle.eon_disk.specs.Asked.{Asked}
use Rattle.plan_journal.specs.Appended.{OnFull, with_record}
use Rattle.plan_journal.specs.Faults.{counted_if, append_failed}
use Rattle.plan_journal.specs.Moments.{Ends, IsReady}
use Rattle.plan_journal.specs.declared.fault.AppendFault.{AppendFault}
use Rattle.plan_journal.specs.declared.fault.AppendFault.TheVariants.{Full, Disk}
use Rattle.plan_journal.specs.declared.place.Place.{Place}
use Rattle.plan_journal.proofs.MomentLaws.{weaker}
use Rattle.change_log.specs.Holding.{Holds, IsLeftWithin, Appends, KeepsOn}
use Rattle.change_log.specs.HoldingLaws.{keeps_none}

-- ---- bytes

-- the journal of the events with the record of one more
pub with-record : (head : List ℕ) (events : List Event) (e : Event) (p number : ℕ) → p ≡ length (written head events) →
    number ≡ length events + 1 →
    with_record p (record_body number e ++ 0 ∷ []) (journal_of head events) ≡ journal_of head (events ++ e ∷ [])
with-record head events e p number at is =
    let front = written head events in
    ap (λ (xs : List ℕ). xs ++ 1 ∷ (record_body number e ++ 0 ∷ [])) (take_at front (0 ∷ []) p (sym at))
    ∙ ap (λ (n : ℕ). front ++ (record_text n e ++ 0 ∷ [])) is
    ∙ sym (journal-push head events e)

-- what is left while it is appended
pub appending-left : (head : List ℕ) (events : List Event) (e : Event) (p number : ℕ) (c : List ℕ) →
    p ≡ length (written head events) → number ≡ length events + 1 →
    IsAppending (take p (journal_of head events)) (record_body number e) c → IsLeft head (events ++ []) (Some e) c
appending-left head events e p number c at is a =
    subst (λ (es : List Event). IsLeft head es (Some e) c) (sym (append-nil events))
    (subst (λ (n : ℕ). IsAppending (written head events) (record_body n e) c) is
    (subst (λ (front : List ℕ). IsAppending front (record_body number e) c)
    (take_at (written head events) (0 ∷ []) p (sym at)) a))

pub appending-within : (head : List ℕ) (events : List Event) (e : Event) (c : List ℕ) →
    IsLeft head (events ++ []) (Some e) c → IsLeftWithin head events (e ∷ []) c
appending-within head events e c l = record { appended = []; next = Some e; later = []; are = refl; left = l }

-- ---- one append

module _ {D : Type 0} (now : D → Option (List ℕ)) (images : D → List ℕ → Type 0) (clock : D → ℕ)
    (since : D → ℕ → List ℕ → Type 0) (old new : D) (before after : Place) (e : Event) where
  -- at every moment of it, where the bytes are told
  abbrev pub Moments : Type 0
  Moments = IfSome (now old) (λ bytes. LeavesOnly clock since old new
      (IsAppending (take before.at bytes) (record_body before.number e)))

  module _ (head : List ℕ) (start : List Event) (h : Holds (now old) (images old) before head start) where
    leaves : Moments → LeavesOnly clock since old new (λ c. IsLeft head (start ++ []) (Some e) c)
    leaves m =
        weaker clock since old new (IsAppending (take before.at (journal_of head start)) (record_body before.number e))
        (λ c. IsLeft head (start ++ []) (Some e) c)
        (subst (λ (o : Option (List ℕ)). IfSome o (λ bytes. LeavesOnly clock since old new
        (IsAppending (take before.at bytes) (record_body before.number e)))) h.bytes m)
        (λ c a. appending-left head start e before.at before.number c h.at h.number a)

    within : Moments → LeavesOnly clock since old new (IsLeftWithin head start (e ∷ []))
    within m = weaker clock since old new (λ c. IsLeft head (start ++ []) (Some e) c) (IsLeftWithin head start (e ∷ []))
        (leaves m) (λ c l. appending-within head start e c l)

    -- it is done
    pub appended : after.at ≡ before.at + room_for e → after.number ≡ before.number + 1 →
        now new ≡ option_map (with_record before.at (record_body before.number e ++ 0 ∷ [])) (now old) →
        IsReady (now new) (images new) after.at → Moments →
        Appends now images clock since old new after head start (e ∷ []) None
    appended at number bytes ready m =
        let is : now new ≡ Some (journal_of head (start ++ e ∷ [])) =
        bytes ∙ ap (option_map (with_record before.at (record_body before.number e ++ 0 ∷ []))) h.bytes
        ∙ ap (λ (v : List ℕ). Some v) (with-record head start e before.at before.number h.at h.number) in
        let ends : Ends (journal_of head (start ++ e ∷ [])) (images new) after.at =
        subst (λ (o : Option (List ℕ)). IsReady o (images new) after.at) is ready in
        record {
          holds = λ none. record {
            digest = h.digest;
            bytes = is;
            durable = ends.durable;
            at = at ∙ ap (λ (n : ℕ). n + room_for e) h.at ∙ sym (length-push head start e);
            number = number ∙ ap (λ (n : ℕ). n + 1) h.number
                ∙ ap (λ (n : ℕ). n + 1) (sym (length-append start (e ∷ [])));
          };
          left = λ c image. ends.durable c image;
          moments = within m;
        }

    -- it failed
    pub in-doubt : ((d : D) (t : ℕ) (c : List ℕ) → t ≤ clock d → images d c → since d t c) → Moments →
        Appends now images clock since old new after head start [] (Some e)
    in-doubt counts_now m =
        let l = leaves m in
        record {
          holds = λ none. absurd (none-some e (sym none));
          left = λ c image. l.each c (counts_now new (clock old) c l.later image);
          moments = within m;
        }

-- ---- what the log keeps

-- it was full
pub on-full : (T : Type 0) (fault : AppendFault) (need left : ℕ) (P : Type 0) → fault ≡ Full need left →
    OnFull {T = T} (Err fault) P → P
on-full T fault need left P is h = subst (λ (f : AppendFault). OnFull {T = T} (Err f) P) is h

-- the disk failed
pub on-fault : (T : Type 0) (fault : AppendFault) (n m : ℕ) → fault ≡ Disk →
    m ≡ counted_if (append_failed {T = T} (Err fault)) n → m ≡ counted_if true n
on-fault T fault n m is h = subst (λ (f : AppendFault). m ≡ counted_if (append_failed {T = T} (Err f)) n) is h

module _ {D : Type 0} (now : D → Option (List ℕ)) (images : D → List ℕ → Type 0) (clock : D → ℕ)
    (since : D → ℕ → List ℕ → Type 0) (faults : D → ℕ) (asked : D → Option Asked) (was is : ℕ) (old new : D)
    (before after : Place) where
  pub keeps-it : (e : Event) → is ≡ was → after.limit ≡ before.limit → after.at ≡ before.at + room_for e →
      after.number ≡ before.number + 1 →
      now new ≡ option_map (with_record before.at (record_body before.number e ++ 0 ∷ [])) (now old) →
      IsReady (now new) (images new) after.at → Moments now images clock since old new before after e →
      faults new ≡ counted_if false (faults old) → asked new ≡ asked old →
      KeepsOn now images clock since faults asked was is old new before after (e ∷ []) None
  keeps-it e same limit at number bytes ready m counts asked_too = record {
    same_reference = same;
    limit = limit;
    appends = λ head start h.
        appended now images clock since old new before after e head start h at number bytes ready m;
    counts = counts;
    asked_same = asked_too;
  }

  pub doubts-it : (e : Event) → ((d : D) (t : ℕ) (c : List ℕ) → t ≤ clock d → images d c → since d t c) → is ≡ was →
      after ≡ before → Moments now images clock since old new before after e →
      faults new ≡ counted_if true (faults old) → asked new ≡ asked old →
      KeepsOn now images clock since faults asked was is old new before after [] (Some e)
  doubts-it e counts_now same place m counts asked_too = record {
    same_reference = same;
    limit = ap (λ (p : Place). p.limit) place;
    appends = λ head start h. in-doubt now images clock since old new before after e head start h counts_now m;
    counts = counts;
    asked_same = asked_too;
  }

  pub keeps-not : ((d : D) (c : List ℕ) → since d (clock d) c → images d c) → is ≡ was → new ≡ old → after ≡ before →
      KeepsOn now images clock since faults asked was is old new before after [] None
  keeps-not only_now same disk place =
      subst (λ (r : ℕ). KeepsOn now images clock since faults asked was r old new before after [] None) (sym same)
      (subst (λ (d : D). KeepsOn now images clock since faults asked was was old d before after [] None) (sym disk)
      (subst (λ (p : Place). KeepsOn now images clock since faults asked was was old old before p [] None) (sym place)
      (keeps_none now images clock since faults asked only_now was old before)))
