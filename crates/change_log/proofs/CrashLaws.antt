-- What is left of a journal that is opened, and to which changes are kept, is safe.
use Rattle.std.proofs.Common.{◌≡◌, refl, sym, ◌∙◌, ap, subst, inl, inr, ℕ, ◌+◌, ◌≤◌, List, [], ◌∷◌, ◌++◌, length, Option, Some, None, arith}
use Rattle.std.specs.Prelude.{IfSome}
use Rattle.std.specs.Option.{option_to_list}
use Rattle.std.proofs.lemmas.List.{append_assoc, length-append}
use Rattle.eon_model.specs.Legal.{Setup}
use Rattle.eon_model.specs.Events.{Event}
use Rattle.eon_model.specs.Journal.{written, bound_digest, Stands, kept_digest}
use Rattle.eon_model.specs.Readings.{IsReading, IsSoundJournal}
use Rattle.eon_model.specs.JournalMoments.{HasJournal, IsClosing, IsLeftByRun, IsStartAnd}
use Rattle.eon_model.proofs.AppendLaws.{HasJournal-first, closing-sound, own-stands, shut}
use Rattle.eon_model.proofs.JournalMomentLaws.{goes_on, run_held}
use Rattle.eon_disk.specs.Asked.{Asked}
use Rattle.plan_journal.proofs.MomentLaws.{weaker, then}
use Rattle.change_log.specs.Holding.{IsLeftWithin}
use Rattle.change_log.specs.Crash.{IsSafeBefore, IsSafeSince, IsLeftByOpening, OpeningIsSafe, OpeningIsSafeNow, KeptIsSafeNow, KeptIsSafeSince, HeldIsRead}
use Rattle.change_log.specs.Opening.{CallsAreSafe}

-- ---- images

-- what is left within a run is safe
pub within-safe : (setup : Setup) (was : List ℕ → Type 0) (head : List ℕ) (start changes : List Event) (c : List ℕ) →
    HasJournal setup head (start ++ changes) → IsLeftWithin head start changes c → IsSafeSince setup was start changes c
within-safe setup was head start changes c h l =
    let some = l.appended ++ option_to_list l.next in
    let whole : HasJournal setup head ((start ++ some) ++ l.later) =
    subst (λ (es : List Event). HasJournal setup head es)
    (ap (λ (es : List Event). start ++ es) l.are ∙ sym (append_assoc start some l.later)) h in
    let left : IsLeftByRun head start some (length l.appended) c = record {
      appended = l.appended;
      next = l.next;
      are = refl;
      held = omega arith;
      one_more = one-more l.appended l.next;
      left = l.left;
    } in
    let t = run_held setup head start some (length l.appended) c (HasJournal-first setup head (start ++ some) l.later whole)
    left in
    record {
      sound = t.0;
      readings = λ reading r.
          let held = t.1 reading r in
          inr (
            held.count,
            subst (λ (es : List Event). IsStartAnd start es held.count reading) (sym l.are)
                (goes_on start some l.later held.count reading held.prefix),
          );
    }
  where
    one-more : (es : List Event) (next : Option Event) → length (es ++ option_to_list next) ≤ length es + 1
    one-more es None = let l = length-append es [] in omega arith
    one-more es (Some e) = let l = length-append es (e ∷ []) in omega arith

pub before-safe : (setup : Setup) (was : List ℕ → Type 0) (start changes : List Event) (c : List ℕ) →
    IsSafeBefore setup was c → IsSafeSince setup was start changes c
before-safe setup was start changes c s =
    record { sound = s.sound; readings = λ reading r. inl (s.readings reading r) }

-- what is left while a journal is opened
pub opening-left : (setup : Setup) (now : Option (List ℕ)) (digest : List ℕ) (was : List ℕ → Type 0) (c : List ℕ) →
    ((d : List ℕ) → was d → IsSoundJournal setup d) → IfSome now was → IsLeftByOpening setup now digest was c →
    IsSafeBefore setup was c
opening-left setup now digest was c sound told left =
    elim left [
      | inl before ↦ record { sound = sound c before; readings = λ reading r. (c, before, r) }
      | inr closing ↦ closed closing.0 closing.1 closing.2 closing.3 closing.4 closing.5
    ]
  where
    closed : (bytes : List ℕ) (events : List Event) (p : ℕ) → now ≡ Some bytes →
        Stands bytes digest setup.journal events p → IsClosing bytes p c → IsSafeBefore setup was c
    closed bytes events p is stands a =
        let there : was bytes = subst (λ (o : Option (List ℕ)). IfSome o was) is told in
        let t = closing-sound setup bytes digest events p c (sound bytes there) stands a in
        record { sound = t.0; readings = λ reading r. (bytes, there, t.1 reading r) }

-- ---- runs

module _ {D : Type 0} (now : D → Option (List ℕ)) (images : D → List ℕ → Type 0) (clock : D → ℕ)
    (since : D → ℕ → List ℕ → Type 0) where
  pub opening-safe : ((d : D) → IfSome (now d) (images d)) → OpeningIsSafe now images clock since
  opening-safe reads setup digest old new sound left =
      weaker clock since old new (IsLeftByOpening setup (now old) digest (images old)) (IsSafeBefore setup (images old)) left
      (λ c l. opening-left setup (now old) digest (images old) c sound (reads old) l)

  pub opening-safe-now : ((d : D) → IfSome (now d) (images d)) →
      ((d : D) (t : ℕ) (c : List ℕ) → t ≤ clock d → images d c → since d t c) → OpeningIsSafeNow now images clock since
  opening-safe-now reads counts_now setup digest old new sound left c image =
      let safe = opening-safe reads setup digest old new sound left in
      safe.each c (counts_now new (clock old) c safe.later image)

  pub kept-safe-now : KeptIsSafeNow now images clock since
  kept-safe-now old new after setup head start events doubt acknowledged a h few one_more c image =
      let left : IsLeftByRun head start (events ++ option_to_list doubt) acknowledged c = record {
        appended = events;
        next = doubt;
        are = refl;
        held = few;
        one_more = one_more;
        left = a.left c image;
      } in
      let t = run_held setup head start (events ++ option_to_list doubt) acknowledged c h left in
      record { sound = t.0; readings = t.1 }

  pub kept-safe-since : KeptIsSafeSince now images clock since
  kept-safe-since first old new after setup head start events doubt before a h =
      let changes = events ++ option_to_list doubt in
      let P : List ℕ → Type 0 = IsSafeSince setup (images first) start changes in
      then clock since first old new P
      (weaker clock since first old (IsSafeBefore setup (images first)) P before
      (before-safe setup (images first) start changes))
      (weaker clock since old new (IsLeftWithin head start changes) P a.moments
      (λ c l. within-safe setup (images first) head start changes c h l))

  pub held-read : HeldIsRead now images clock since
  held-read disk setup place head events holds h = (
    subst (λ (o : Option (List ℕ)). IfSome o (λ bytes. Stands bytes (bound_digest head events) setup.journal events
        (length (written head events)))) (sym holds.bytes) (own-stands setup head events h),
    λ c image. subst (λ (v : List ℕ). IsSoundJournal setup v
        × ((reading : List Event) → IsReading setup v reading → reading ≡ events))
        (sym (holds.durable c image)) (shut setup head events [] h),
  )

  -- ---- a whole call

  pub calls-safe : ((d : D) → IfSome (now d) (images d)) → (faults : D → ℕ) (asked : D → Option Asked) →
      CallsAreSafe now images clock since faults asked
  calls-safe reads faults asked setup bytes own state old mid new place after was is events doubt opens sound left keeps h =
      let head = kept_digest bytes in
      let a = keeps.appends head opens.events opens.holds in
      let whole : HasJournal setup head ((opens.events ++ events) ++ option_to_list doubt) =
      subst (λ (es : List Event). HasJournal setup head es)
      (sym (append_assoc opens.events events (option_to_list doubt))) h in
      record {
        stands = λ none. (held-read new setup after head (opens.events ++ events) (a.holds none)
            (HasJournal-first setup head (opens.events ++ events) (option_to_list doubt) whole)).0;
        at_any_time = kept-safe-since old mid new after setup head opens.events events doubt
            (opening-safe reads setup own old mid sound left) a h;
        now_left = λ acknowledged few one_more c image.
            kept-safe-now mid new after setup head opens.events events doubt acknowledged a h few one_more c image;
      }
