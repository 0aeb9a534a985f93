-- What an answer tells of the first placement over rows.
use Rattle.std.proofs.Common.{◌≡◌, refl, ◌∙◌, ap, subst, ℕ, zero, suc, ◌+◌, ◌<◌, ℤ, arith, true, List, [], ◌∷◌, length, find, slice_get, Option, Some, None}
use Rattle.std.specs.Prelude.{nat_le}
use Rattle.std.specs.Option.{option_map, option_or}
use Rattle.std.proofs.lemmas.Bool.{and_parts, and_from, leb-true}
use Rattle.eon_model.specs.declared.Class.{Class}
use Rattle.eon_model.specs.Grid.{Band, Slot, units_of, lies_in_band, is_band, is_slot}
use Rattle.eon_model.specs.Candidates.{SizedRoute, Candidate}
use Rattle.eon_model.specs.FirstFit.{Placement, centres_in, path_at}
use Rattle.eon_model.specs.FirstInRows.{stands_in, slot_on, channel_stands, backup_stands, least_channel, least_backup, placed_at, placement_in_rows, first_in_rows}
use Rattle.eon_model.specs.Rows.{Rows, Counts, is_free, may_reserve}
use Rattle.eon_model.specs.Sets.{NumberSet}
use Rattle.eon_model.proofs.FindLaws.{find-passes}
use Rattle.admission.specs.declared.placing.Found.{Found}
use Rattle.admission.specs.declared.placing.Admit.{Admit}
use Rattle.admission.specs.declared.placing.Admit.TheVariants.{NoRoute, Blocked, Placed}
use Rattle.admission.specs.Told.{found_at, answer_for, placement_at, back_can_be_made, can_be_made, IfPlaced, IsPlaceOn}
use Rattle.admission.proofs.FoundLaws.{placed-told}
use Rattle.admission.proofs.SpanLaws.{slot_in}

module _ (band : Band) (ok : is_band band ≡ true) (rows : Rows) (counts : Counts) (class : Class) where
  slot_made : (slot : Slot) → stands_in band slot ≡ true → is_slot slot ≡ true
  slot_made slot h =
      let p = and_parts (nat_le 1 slot.m) (lies_in_band band (units_of slot)) h in
      slot_in band slot ok (leb-true 1 slot.m p.0) p.1

  work_made : (w : SizedRoute) (n : ℤ) → least_channel band rows w ≡ Some n → is_slot (path_at w n).slot ≡ true
  work_made w n e =
      let slot : Slot = record { n = n; m = w.m } in
      slot_made slot (and_parts (stands_in band slot) (is_free rows (slot_on w.route.fibres slot))
      (find-passes (channel_stands band rows w.route.fibres w.m) (centres_in band) n e)).0

  back_made : (risk : NumberSet) (back : Option SizedRoute) (z : Option ℤ) →
      least_backup band rows counts class risk back ≡ Some z → back_can_be_made back z ≡ true
  back_made risk None z e =
      let same : None ≡ z = cc in subst (λ (o : Option ℤ). back_can_be_made None o ≡ true) same refl
  back_made risk (Some b) z e =
      by (find (backup_stands band rows counts class risk b.route.fibres b.m) (centres_in band)) refl e
    where
      by : (o : Option ℤ) → find (backup_stands band rows counts class risk b.route.fibres b.m) (centres_in band) ≡ o →
          option_map (λ n. Some n) o ≡ Some z → back_can_be_made (Some b) z ≡ true
      by None f k = cc
      by (Some n) f k =
          let slot : Slot = record { n = n; m = b.m } in
          let same : Some n ≡ z = cc in
          subst (λ (o : Option ℤ). back_can_be_made (Some b) o ≡ true) same
          (slot_made slot (and_parts (stands_in band slot) (may_reserve rows counts class risk (slot_on b.route.fibres slot))
          (find-passes (backup_stands band rows counts class risk b.route.fibres b.m) (centres_in band) n f)).0)

  -- a placement on the candidate of its number, the first one's number being this
  pub record IsAt (rank : ℕ) (cs : List Candidate) (p : Placement) : Type 0 where
    pub later : ℕ
    pub rank_is : p.rank ≡ rank + later
    pub candidate_is : slice_get cs later ≡ Some p.candidate
    pub slots : can_be_made p.candidate (found_at p) ≡ true

  on_first : (rank : ℕ) (c : Candidate) (cs : List Candidate) (p : Placement) (n : Option ℤ) (b : Option (Option ℤ)) →
      least_channel band rows c.work ≡ n → least_backup band rows counts class c.work.route.risk c.back ≡ b →
      placed_at rank c n b ≡ Some p → IsAt rank (c ∷ cs) p
  on_first rank c cs p None b e f h = cc
  on_first rank c cs p (Some n) None e f h = cc
  on_first rank c cs p (Some n) (Some z) e f h =
      let here : Placement = record { candidate = c; rank = rank; work_n = n; back_n = z } in
      let same : here ≡ p = cc in
      subst (IsAt rank (c ∷ cs)) same (record {
        later = 0;
        rank_is = omega arith;
        candidate_is = refl;
        slots = and_from _ _ (work_made c.work n e) (back_made c.work.route.risk c.back z f);
      })

  first_at : (rank : ℕ) (cs : List Candidate) (p : Placement) → first_in_rows band rows counts class rank cs ≡ Some p →
      IsAt rank cs p
  first_at rank [] p e = cc
  first_at rank (c ∷ cs) p e =
      by (placement_in_rows band rows counts class rank c) refl e (first_at (rank + 1) cs p)
    where
      by : (o : Option Placement) → placement_in_rows band rows counts class rank c ≡ o →
          option_or o (first_in_rows band rows counts class (rank + 1) cs) ≡ Some p →
          (first_in_rows band rows counts class (rank + 1) cs ≡ Some p → IsAt (rank + 1) cs p) → IsAt rank (c ∷ cs) p
      by None f k more =
          let at = more k in
          record {
            later = suc at.later;
            rank_is = let r = at.rank_is in omega arith;
            candidate_is = at.candidate_is;
            slots = at.slots;
          }
      by (Some q) f k more =
          on_first rank c cs p (least_channel band rows c.work)
          (least_backup band rows counts class c.work.route.risk c.back) refl refl (f ∙ k)

  in_list : (cs : List Candidate) (k : ℕ) (c : Candidate) → slice_get cs k ≡ Some c → k < length cs
  in_list [] k c e = cc
  in_list (x ∷ xs) zero c e = omega arith
  in_list (x ∷ xs) (suc k) c e = let more = in_list xs k c e in omega arith

  module _ (cs : List Candidate) where
    place_of : (p : Placement) → first_in_rows band rows counts class 0 cs ≡ Some p →
        IsPlaceOn (first_in_rows band rows counts class 0 cs) cs (found_at p)
    place_of p e =
        let at = first_at 0 cs p e in
        let r = at.rank_is in
        let k = at.later in
        let rank : p.rank ≡ k = omega arith in
        let here : slice_get cs p.rank ≡ Some p.candidate = ap (slice_get cs) rank ∙ at.candidate_is in
        record {
          in_range = in_list cs p.rank p.candidate here;
          is_first = λ c k. let same : p.candidate ≡ c = cc in
              e ∙ ap (λ (x : Candidate). Some (placement_at x (found_at p))) same;
          slots = λ c k. let same : p.candidate ≡ c = cc in
              subst (λ (x : Candidate). can_be_made x (found_at p) ≡ true) same at.slots;
        }

    pub place-told : (f : Found) → Placed f ≡ answer_for (length cs) (first_in_rows band rows counts class 0 cs) →
        IsPlaceOn (first_in_rows band rows counts class 0 cs) cs f
    place-told f e =
        let told = placed-told (length cs) f (first_in_rows band rows counts class 0 cs) e in
        subst (IsPlaceOn (first_in_rows band rows counts class 0 cs) cs) told.is (place_of told.place told.is_first)

    pub if-placed : (answer : Admit) → answer ≡ answer_for (length cs) (first_in_rows band rows counts class 0 cs) →
        IfPlaced answer (IsPlaceOn (first_in_rows band rows counts class 0 cs) cs)
    if-placed NoRoute e = tt
    if-placed (Blocked n) e = tt
    if-placed (Placed f) e = place-told f e
