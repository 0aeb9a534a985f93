-- The head and the records of a journal, as they are read.
use Rattle.std.proofs.Common.{◌≡◌, refl, sym, ◌∙◌, ap, subst, ℕ, ◌+◌, ◌≤◌, ◌<◌, List, [], ◌∷◌, ◌++◌, length, drop, arith}
use Rattle.std.specs.Prelude.{Option, Some, None, IfSome}
use Rattle.std.proofs.lemmas.List.{length-append, drop_more, drop_all}
use Rattle.eon_model.specs.Events.{Event}
use Rattle.eon_model.specs.EventText.{room_for}
use Rattle.eon_model.specs.Journal.{kept_digest, bound_by, bound_digest}
use Rattle.eon_model.specs.JournalFault.{first_difference, head_fault, HasRecord, HasRecords, IsKept}
use Rattle.eon_model.proofs.KeptLaws.{record-open}
use Rattle.eon_model.proofs.WalkLaws.{walk_start, walk_more}
use Rattle.journal_record.specs.declared.event.Event as code
use Rattle.journal_record.specs.Told.{event_told}
use Rattle.plan_journal.specs.declared.walk.Walked.{Walked}
use Rattle.plan_journal.specs.declared.walk.Walked.TheVariants.{Record, Gate, Bad}
use Rattle.plan_journal.specs.Walked.{IsShut, Stands}

-- ---- the head

-- bytes that are too short
pub differs-short : (wanted bytes : List ℕ) (i : ℕ) → i < length wanted → length bytes ≤ i →
    first_difference i (drop i wanted) (drop i bytes) ≡ Some i
differs-short wanted bytes i more l = λ j. first_difference i (drop_more wanted i 0 more j) (drop_all i bytes l j)

-- ---- the records

pub bound-push : (digest : List ℕ) (events : List Event) (e : Event) →
    bound_digest digest (events ++ e ∷ []) ≡ bound_by (bound_digest digest events) e
bound-push digest [] e = refl
bound-push digest (first ∷ events) e = bound-push (bound_by digest first) events e

-- Some records come before p, of which this is the next number; and the last bind among them has this digest.
pub record WalkedTo (bytes : List ℕ) (limit p number : ℕ) (bound : List ℕ) : Type 0 where
  pub events : List Event
  pub has : HasRecords bytes limit events p
  pub numbered : number ≡ length events + 1
  pub is : bound ≡ bound_digest (kept_digest bytes) events

pub walk-begins : (o : Option (List ℕ)) (limit p number : ℕ) (kept : List ℕ) → p ≡ 40 → number ≡ 1 →
    IfSome o (λ bytes. head_fault bytes ≡ None → kept ≡ kept_digest bytes → WalkedTo bytes limit p number kept)
walk-begins None limit p number kept e n = tt
walk-begins (Some bytes) limit p number kept e n = λ h is. record {
  events = [];
  has = subst (λ (k : ℕ). HasRecords bytes limit [] k) (sym e) (walk_start bytes limit h);
  numbered = n;
  is = is;
}

pub walk-goes : (bytes : List ℕ) (limit p number : ℕ) (bound : List ℕ) (e : Event) → WalkedTo bytes limit p number bound →
    HasRecord bytes limit p number e → WalkedTo bytes limit (p + room_for e) (number + 1) (bound_by bound e)
walk-goes bytes limit p number bound e w r =
    let n = w.numbered in
    let long = length-append w.events (e ∷ []) in
    record {
      events = w.events ++ e ∷ [];
      has = walk_more bytes limit w.events p e w.has (subst (λ (v : ℕ). HasRecord bytes limit p v e) n r);
      numbered = omega arith;
      is = ap (λ (v : List ℕ). bound_by v e) w.is ∙ sym (bound-push (kept_digest bytes) w.events e);
    }

pub walk-ends : (bytes : List ℕ) (limit p number : ℕ) (bound : List ℕ) → head_fault bytes ≡ None →
    WalkedTo bytes limit p number bound → ((e : Event) → ¬ HasRecord bytes limit p number e) → IsKept bytes limit bound
walk-ends bytes limit p number bound h w none = record {
  whole = h;
  events = w.events;
  place = p;
  records = record {
    has = w.has;
    end = λ e r. none e (subst (λ (v : ℕ). HasRecord bytes limit p v e) (sym w.numbered) r);
  };
  is = sym w.is;
}

-- a gate that is not open has no record behind it
shut-none : (bytes : List ℕ) (limit p number gate : ℕ) → IsShut bytes p gate → (e : Event) → ¬ HasRecord bytes limit p number e
shut-none bytes limit p number gate s e r = s.shut (sym s.is ∙ record-open bytes limit p number e r)

-- ---- told or not, and with a whole head

module _ (o : Option (List ℕ)) (limit : ℕ) (kept : List ℕ) where
  abbrev pub Goes : ℕ → ℕ → List ℕ → Type 0
  Goes p number bound = IfSome o (λ bytes. head_fault bytes ≡ None → kept ≡ kept_digest bytes → WalkedTo bytes limit p number bound)

  abbrev pub Ends : List ℕ → Type 0
  Ends bound = IfSome o (λ bytes. head_fault bytes ≡ None → kept ≡ kept_digest bytes → IsKept bytes limit bound)

module _ (limit : ℕ) (kept : List ℕ) (p number : ℕ) (bound : List ℕ) where
  pub goes-on : (o : Option (List ℕ)) (event : code.Event) (taken next count : ℕ) (after : List ℕ) → Goes o limit kept p number bound →
      IfSome o (λ bytes. Stands bytes limit p number (Record event taken)) → next ≡ p + taken → count ≡ number + 1 →
      after ≡ bound_by bound (event_told event) → Goes o limit kept next count after
  goes-on None event taken next count after w s n k b = tt
  goes-on (Some bytes) event taken next count after w s n k b = λ h is.
      let goes = walk-goes bytes limit p number bound (event_told event) (w h is) s.0 in
      let place : p + room_for (event_told event) ≡ next = let t = s.1 in omega arith in
      subst (λ (i : ℕ). WalkedTo bytes limit i count after) place
      (subst (λ (i : ℕ). WalkedTo bytes limit (p + room_for (event_told event)) i after) (sym k)
      (subst (λ (v : List ℕ). WalkedTo bytes limit (p + room_for (event_told event)) (number + 1) v) (sym b) goes))

  pub ends-shut : (o : Option (List ℕ)) (gate : ℕ) → Goes o limit kept p number bound →
      IfSome o (λ bytes. Stands bytes limit p number (Gate gate)) → Ends o limit kept bound
  ends-shut None gate w s = tt
  ends-shut (Some bytes) gate w s = λ h is.
      walk-ends bytes limit p number bound h (w h is) (shut-none bytes limit p number gate s)

  pub ends-bad : (o : Option (List ℕ)) → Goes o limit kept p number bound →
      IfSome o (λ bytes. Stands bytes limit p number Bad) → Ends o limit kept bound
  ends-bad None w s = tt
  ends-bad (Some bytes) w s = λ h is. walk-ends bytes limit p number bound h (w h is) s.none

-- what stands there, as it is read later
pub stands-at : (o now : Option (List ℕ)) → now ≡ o → (limit most : ℕ) → limit ≡ most → (p number : ℕ) (w is : Walked) → w ≡ is →
    IfSome now (λ bytes. Stands bytes limit p number w) → IfSome o (λ bytes. Stands bytes most p number is)
stands-at o now e limit most l p number w is same h =
    subst (λ (v : Option (List ℕ)). IfSome v (λ bytes. Stands bytes most p number is)) e
    (subst (λ (m : ℕ). IfSome now (λ bytes. Stands bytes m p number is)) l
    (subst (λ (v : Walked). IfSome now (λ bytes. Stands bytes limit p number v)) same h))
