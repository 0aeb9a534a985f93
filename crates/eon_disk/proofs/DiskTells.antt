-- What the calls of a disk in memory tell of it as a disk.
use Rattle.std.proofs.Common.{◌≡◌, refl, sym, ◌∙◌, ap, subst, inl, inr, ℕ, ◌≤◌, Bool, true, false, ◌&&◌, ◌||◌, not, List, [], ◌∷◌, ◌++◌, length, Option, Some, None, Result, Ok, Err, is_err, arith}
use Rattle.std.specs.Prelude.{nat_le, nat_lt, OnOk, OnErr, if◌then◌else◌}
use Rattle.std.specs.Option.{option_map_or}
use Rattle.std.proofs.lemmas.Bool.{le-leb, ltb-false, leb-false, cases_Bool, both_ways, ltb-true}
use Rattle.eon_model.specs.Disk.{put, Torn, Follows, Elapses}
use Rattle.eon_outside.specs.Faults.{counted, Counts}
use Rattle.eon_outside.specs.Memory.{is_due}
use Rattle.eon_disk.specs.Asked.{last_name, asked_of}
use Rattle.eon_disk.specs.HeldBytes.{HeldBytes, MayLeave, MayHaveLeft, with_piece}
use Rattle.eon_disk.specs.HeldDisk.{HeldDisk, is_stopped, is_past_stop, fails, takes_place, room_for_write, after_no_change, after_change, after_write_call, after_step_call, after_attach}
use Rattle.eon_disk.proofs.HeldLaws.{IsSound, no_time, not_torn, time_goes, piece-kept, piece-torn}

-- ---- names

last-pushed : (names : List (List ℕ)) (name : List ℕ) → last_name (names ++ name ∷ []) ≡ name
last-pushed [] name = refl
last-pushed (first ∷ []) name = refl
last-pushed (first ∷ next ∷ names) name = last-pushed (next ∷ names) name

pub asked-noted : (names after : List (List ℕ)) (bytes name : List ℕ) (create : Bool) → after ≡ names ++ bytes ∷ [] →
    bytes ≡ name → asked_of (Some create) after ≡ Some (record { name = name; create = create })
asked-noted names after bytes name create noted same =
    λ i. Some (record { name = (ap last_name noted ∙ last-pushed names bytes ∙ same) i; create = create })

pub attached : (is_fault : Bool) (d : HeldDisk) (names after : List (List ℕ)) (bytes name : List ℕ) (create : Bool) →
    after ≡ names ++ bytes ∷ [] → bytes ≡ name →
    after_no_change is_fault (record d { asked = asked_of (Some create) after })
    ≡ after_attach is_fault (record { name = name; create = create }) d
attached is_fault d names after bytes name create noted same = λ i. record (after_no_change is_fault d) {
  asked = Some (record { name = (ap last_name noted ∙ last-pushed names bytes ∙ same) i; create = create });
}

-- ---- a call that does not fail takes place

stopped-by : (stop : Option ℕ) (call : ℕ) → option_map_or (λ stop. nat_le stop call) stop false ≡ false →
    option_map_or (λ stop. nat_lt stop call) stop false ≡ false
stopped-by None call h = refl
stopped-by (Some stop) call h =
    let above = leb-false stop call h in
    elim (cases_Bool (nat_lt stop call)) [
      | inl before ↦ let b = ltb-true stop call before in absurd (omega arith)
      | inr none ↦ none
    ]

sure : (due stopped past full fits : Bool) → (due || stopped || full) ≡ false → (stopped ≡ false → past ≡ false) →
    (full ≡ false → fits ≡ true) → (not due && not past && fits) ≡ true
sure true stopped past full fits h p f = let no' = h in absurd (both_ways true no' refl)
sure false true past full fits h p f = let no' = h in absurd (both_ways true no' refl)
sure false false past true fits h p f = let no' = h in absurd (both_ways true no' refl)
sure false false past false fits h p f = (λ i. not (p refl i) && fits) ∙ f refl

pub does-take_place : (d : HeldDisk) (needs : ℕ) → fails d needs ≡ false → takes_place d needs ≡ true
does-take_place d needs h =
    sure (is_due d.plan) (is_stopped d) (is_past_stop d) (nat_lt d.room needs) (nat_le needs d.room) h
    (stopped-by d.stop (counted d.plan.calls)) (λ full. le-leb needs d.room (ltb-false d.room needs full))

-- ---- a write

module _ (d : HeldDisk) (at : ℕ) (piece : List ℕ) where
  -- what it leaves, by whether it takes place
  left : Bool → Bool → HeldDisk
  left takes is_fault =
      if takes then after_change is_fault (room_for_write piece) (with_piece at piece d.held) d
      else after_no_change is_fault d

  left-torn : (takes is_fault : Bool) → IsSound d.held → at ≤ length d.held.bytes →
      Follows (Torn at (length piece)) (MayLeave d.held) (MayLeave (left takes is_fault).held)
  unfolding left
  left-torn true is_fault sound here = piece-torn d.held at piece sound here
  left-torn false is_fault sound here = not_torn d.held at (length piece)

  left-kept : (takes is_fault : Bool) → IsSound d.held → at ≤ length d.held.bytes →
      (c : List ℕ) → MayLeave d.held c → MayLeave (left takes is_fault).held c
  unfolding left
  left-kept true is_fault sound here = piece-kept d.held at piece sound here
  left-kept false is_fault sound here = λ c h. h

  left-time : (takes is_fault : Bool) → IsSound d.held →
      Elapses (length d.held.past) (length (left takes is_fault).held.past) (MayHaveLeft d.held)
      (MayHaveLeft (left takes is_fault).held) (MayLeave (left takes is_fault).held)
  unfolding left
  left-time true is_fault sound =
      time_goes d.held (with_piece at piece d.held).bytes (with_piece at piece d.held).pending sound
  left-time false is_fault sound = no_time d.held

  left-asked : (takes is_fault : Bool) → (left takes is_fault).asked ≡ d.asked
  unfolding left
  left-asked true is_fault = refl
  left-asked false is_fault = refl

  left-counts : {T E : Type 0} (takes : Bool) (r : Result T E) → Counts d.plan.faults (left takes (is_err r)).plan.faults r
  unfolding left
  left-counts true (Ok x) = refl
  left-counts false (Ok x) = refl
  left-counts true (Err x) = refl
  left-counts false (Err x) = refl

  left-now : {T E : Type 0} (takes : Bool) (r : Result T E) → (is_err r ≡ false → takes ≡ true) →
      OnOk r (Some (left takes (is_err r)).held.bytes ≡ Some (put at piece d.held.bytes))
  unfolding left
  left-now takes (Err x) sure = tt
  left-now true (Ok x) sure = refl
  left-now false (Ok x) sure = absurd (both_ways true (sym (sure refl)) refl)

  module _ {T E : Type 0} (r : Result T E) (new : HeldDisk) (is : new ≡ after_write_call (is_err r) at piece d) where
    abbrev takes : Bool
    takes = takes_place d (room_for_write piece)

    is_left : new ≡ left takes (is_err r)
    unfolding left
    is_left = is

    pub write-torn : IsSound d.held → at ≤ length d.held.bytes →
        Follows (Torn at (length piece)) (MayLeave d.held) (MayLeave new.held)
    write-torn sound here = subst (λ (v : HeldDisk). Follows (Torn at (length piece)) (MayLeave d.held) (MayLeave v.held))
        (sym is_left) (left-torn takes (is_err r) sound here)

    pub write-kept : IsSound d.held → at ≤ length d.held.bytes → (c : List ℕ) → MayLeave d.held c → MayLeave new.held c
    write-kept sound here = subst (λ (v : HeldDisk). (c : List ℕ) → MayLeave d.held c → MayLeave v.held c)
        (sym is_left) (left-kept takes (is_err r) sound here)

    pub write-time : IsSound d.held → Elapses (length d.held.past) (length new.held.past) (MayHaveLeft d.held)
        (MayHaveLeft new.held) (MayLeave new.held)
    write-time sound = subst (λ (v : HeldDisk). Elapses (length d.held.past) (length v.held.past) (MayHaveLeft d.held)
        (MayHaveLeft v.held) (MayLeave v.held)) (sym is_left) (left-time takes (is_err r) sound)

    pub write-asked : new.asked ≡ d.asked
    write-asked = ap (λ (v : HeldDisk). v.asked) is_left ∙ left-asked takes (is_err r)

    pub write-counts : Counts d.plan.faults new.plan.faults r
    write-counts = subst (λ (v : HeldDisk). Counts d.plan.faults v.plan.faults r) (sym is_left) (left-counts takes r)

    pub write-now : is_err r ≡ fails d (room_for_write piece) →
        OnOk r (Some new.held.bytes ≡ Some (put at piece d.held.bytes))
    write-now when = subst (λ (v : HeldDisk). OnOk r (Some v.held.bytes ≡ Some (put at piece d.held.bytes)))
        (sym is_left) (left-now takes r (λ ok. does-take_place d (room_for_write piece) (sym when ∙ ok)))

-- ---- a cut, and a sync

module _ {T E : Type 0} (r : Result T E) (d new : HeldDisk) (held : HeldBytes)
    (is : new ≡ after_step_call (is_err r) held d) where
  pub step-asked : new.asked ≡ d.asked
  step-asked = ap (λ (v : HeldDisk). v.asked) is ∙ by (is_err r)
    where
      by : (b : Bool) → (after_step_call b held d).asked ≡ d.asked
      by true = refl
      by false = refl

  pub step-counts : Counts d.plan.faults new.plan.faults r
  step-counts = subst (λ (v : HeldDisk). Counts d.plan.faults v.plan.faults r) (sym is) (by r)
    where
      by : (r : Result T E) → Counts d.plan.faults (after_step_call (is_err r) held d).plan.faults r
      by (Ok x) = refl
      by (Err x) = refl

  -- what holds of the bytes as they were, and of these, holds of those that are left
  pub step-held : (P : HeldBytes → Type 0) → P d.held → P held → P new.held
  step-held P before after = subst (λ (v : HeldDisk). P v.held) (sym is) (by (is_err r))
    where
      by : (b : Bool) → P (after_step_call b held d).held
      by true = before
      by false = after

  -- and so by the answer
  pub step-ok : (P : HeldBytes → Type 0) → P held → OnOk r (P new.held)
  step-ok P after = subst (λ (v : HeldDisk). OnOk r (P v.held)) (sym is) (by r)
    where
      by : (r : Result T E) → OnOk r (P (after_step_call (is_err r) held d).held)
      by (Ok x) = after
      by (Err x) = tt

  pub step-err : (P : HeldBytes → Type 0) → P d.held → OnErr r (P new.held)
  step-err P before = subst (λ (v : HeldDisk). OnErr r (P v.held)) (sym is) (by r)
    where
      by : (r : Result T E) → OnErr r (P (after_step_call (is_err r) held d).held)
      by (Ok x) = tt
      by (Err x) = before

-- from one held state to the next
abbrev pub Goes : HeldBytes → HeldBytes → Type 0
Goes old new = Elapses (length old.past) (length new.past) (MayHaveLeft old) (MayHaveLeft new) (MayLeave new)
