-- What a log over a journal keeps, from one moment to the next and on.
use Rattle.std.proofs.Common.{◌≡◌, refl, sym, ◌∙◌, ap, subst, ℕ, List, [], ◌++◌, Option, None}
use Rattle.std.specs.Prelude.{is_some}
use Rattle.std.specs.Option.{option_to_list}
use Rattle.std.proofs.lemmas.List.{append_assoc, append-nil}
use Rattle.eon_model.specs.Events.{Event}
use Rattle.eon_model.specs.Disk.{LeavesOnly}
use Rattle.eon_model.specs.Journal.{journal_of}
use Rattle.eon_model.specs.JournalMoments.{IsLeft}
use Rattle.eon_disk.specs.Asked.{Asked}
use Rattle.plan_journal.specs.Faults.{counted_if}
use Rattle.plan_journal.specs.declared.place.Place.{Place}
use Rattle.plan_journal.proofs.MomentLaws.{started, weaker, then}
use Rattle.change_log.specs.Holding.{Holds, IsLeftWithin, Appends, KeepsOn}

-- ---- what is left within a run

-- what is left at its start
pub left-at-start : (head : List ℕ) (start changes : List Event) (c : List ℕ) → c ≡ journal_of head start →
    IsLeftWithin head start changes c
left-at-start head start changes c is = record {
  appended = [];
  next = None;
  later = changes;
  are = refl;
  left = is ∙ ap (journal_of head) (sym (append-nil start));
}

-- what is left while first changes are appended
pub left-first : (head : List ℕ) (start first more : List Event) (c : List ℕ) → IsLeftWithin head start first c →
    IsLeftWithin head start (first ++ more) c
left-first head start first more c l = record {
  appended = l.appended;
  next = l.next;
  later = l.later ++ more;
  are = ap (λ (es : List Event). es ++ more) l.are
      ∙ append_assoc (l.appended ++ option_to_list l.next) l.later more;
  left = l.left;
}

-- and while the later ones are
pub left-later : (head : List ℕ) (start first more : List Event) (c : List ℕ) → IsLeftWithin head (start ++ first) more c →
    IsLeftWithin head start (first ++ more) c
left-later head start first more c l =
    let nexts = option_to_list l.next in
    record {
      appended = first ++ l.appended;
      next = l.next;
      later = l.later;
      are = ap (λ (es : List Event). first ++ es) l.are
          ∙ sym (append_assoc first (l.appended ++ nexts) l.later)
          ∙ ap (λ (es : List Event). es ++ l.later) (sym (append_assoc first l.appended nexts));
      left = subst (λ (es : List Event). IsLeft head es l.next c) (append_assoc start first l.appended) l.left;
    }

-- ---- one run after another

module _ {D : Type 0} (now : D → Option (List ℕ)) (images : D → List ℕ → Type 0) (clock : D → ℕ)
    (since : D → ℕ → List ℕ → Type 0) where
  -- nothing was appended
  pub appends-none : ((d : D) (c : List ℕ) → since d (clock d) c → images d c) → (d : D) (place : Place) (head : List ℕ)
      (start : List Event) → Holds (now d) (images d) place head start →
      Appends now images clock since d d place head start [] None
  appends-none only_now d place head start h = record {
    holds = λ none. subst (λ (es : List Event). Holds (now d) (images d) place head es) (sym (append-nil start)) h;
    left = λ c image. h.durable c image ∙ ap (journal_of head) (sym (append-nil start));
    moments = started clock since d (IsLeftWithin head start [])
        (λ c left. left-at-start head start [] c (h.durable c (only_now d c left)));
  }

  -- some, and then more
  pub appends-more : (old mid new : D) (here after : Place) (head : List ℕ) (start first more : List Event)
      (doubt : Option Event) → Appends now images clock since old mid here head start first None →
      Appends now images clock since mid new after head (start ++ first) more doubt →
      Appends now images clock since old new after head start (first ++ more) doubt
  appends-more old mid new here after head start first more doubt one two =
      let P : List ℕ → Type 0 = IsLeftWithin head start ((first ++ more) ++ option_to_list doubt) in
      let same : (start ++ first) ++ more ≡ start ++ (first ++ more) = append_assoc start first more in
      let all : first ++ (more ++ option_to_list doubt) ≡ (first ++ more) ++ option_to_list doubt =
      sym (append_assoc first more (option_to_list doubt)) in
      let before : LeavesOnly clock since old mid P =
      weaker clock since old mid (IsLeftWithin head start (first ++ [])) P one.moments
      (λ c l. subst (λ (es : List Event). IsLeftWithin head start es c) all
      (left-first head start first (more ++ option_to_list doubt) c
      (subst (λ (es : List Event). IsLeftWithin head start es c) (append-nil first) l))) in
      let behind : LeavesOnly clock since mid new P =
      weaker clock since mid new (IsLeftWithin head (start ++ first) (more ++ option_to_list doubt)) P two.moments
      (λ c l. subst (λ (es : List Event). IsLeftWithin head start es c) all
      (left-later head start first (more ++ option_to_list doubt) c l)) in
      record {
        holds = λ none. subst (λ (es : List Event). Holds (now new) (images new) after head es) same (two.holds none);
        left = λ c image. subst (λ (es : List Event). IsLeft head es doubt c) same (two.left c image);
        moments = then clock since old mid new P before behind;
      }

  module _ (faults : D → ℕ) (asked : D → Option Asked) where
    pub keeps_none : ((d : D) (c : List ℕ) → since d (clock d) c → images d c) → (reference : ℕ) (d : D)
        (place : Place) → KeepsOn now images clock since faults asked reference reference d d place place [] None
    keeps_none only_now reference d place = record {
      same_reference = refl;
      limit = refl;
      appends = λ head start h. appends-none only_now d place head start h;
      counts = refl;
      asked_same = refl;
    }

    pub keeps_more : (was there is : ℕ) (old mid new : D) (before here after : Place) (first more : List Event)
        (doubt : Option Event) → KeepsOn now images clock since faults asked was there old mid before here first None →
        KeepsOn now images clock since faults asked there is mid new here after more doubt →
        KeepsOn now images clock since faults asked was is old new before after (first ++ more) doubt
    keeps_more was there is old mid new before here after first more doubt one two = record {
      same_reference = two.same_reference ∙ one.same_reference;
      limit = two.limit ∙ one.limit;
      appends = λ head start h.
          let so_far = one.appends head start h in
          appends-more old mid new here after head start first more doubt so_far
          (two.appends head (start ++ first) (so_far.holds refl));
      counts = two.counts ∙ ap (counted_if (is_some doubt)) one.counts;
      asked_same = two.asked_same ∙ one.asked_same;
    }
