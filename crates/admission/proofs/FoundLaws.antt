-- What an answer tells of the first placement.
use Rattle.std.proofs.Common.{◌≡◌, refl, ◌∙◌, ap, subst, ℕ, zero, suc, ◌+◌, ◌<◌, ℤ, arith, Bool, true, false, cond, ◌&&◌, List, [], ◌∷◌, length, find, slice_get, Option, Some, None}
use Rattle.std.specs.List.{list_all}
use Rattle.std.specs.Option.{option_and_then, option_map, option_to_list}
use Rattle.std.proofs.lemmas.Bool.{and_parts, and_from}
use Rattle.eon_model.specs.declared.Class.{Class}
use Rattle.eon_model.specs.Grid.{Band, units_of, lies_in_band, is_slot}
use Rattle.eon_model.specs.Services.{Path, Leg, State}
use Rattle.eon_model.specs.Candidates.{SizedRoute, Candidate}
use Rattle.eon_model.specs.FirstFit.{Placement, path_at, leg_placed, placements_of, placements_from}
use Rattle.eon_model.proofs.OrderLaws.{AllOf}
use Rattle.eon_model.proofs.ListLaws.{AllOf-append, AllOf-more}
use Rattle.eon_model.proofs.FindLaws.{find-passes}
use Rattle.admission.specs.declared.placing.Found.{Found}
use Rattle.admission.specs.declared.placing.Admit.TheVariants.{Placed}
use Rattle.admission.specs.FirstClear.{stands_in, is_clear_with, placement_stands, first_clear}
use Rattle.admission.specs.Told.{found_at, answer_for, placement_at, back_can_be_made, can_be_made, IsPlaceOn}
use Rattle.eon_model.proofs.SuitLaws.{HasBack, on_candidate}

-- ---- the answers

pub record IsTold (pairs : ℕ) (f : Found) (first : Option Placement) : Type 0 where
  pub place : Placement
  pub some : 0 < pairs
  pub is_first : first ≡ Some place
  pub is : found_at place ≡ f

pub placed-told : (pairs : ℕ) (f : Found) (first : Option Placement) → Placed f ≡ answer_for pairs first →
    IsTold pairs f first
placed-told zero f first e = cc
placed-told (suc n) f None e = cc
placed-told (suc n) f (Some p) e = record { place = p; some = omega arith; is_first = refl; is = cc }

-- ---- the place

find-all : {X : Type 0} (P : X → Type 0) (test : X → Bool) (xs : List X) (x : X) → AllOf P xs →
    find test xs ≡ Some x → P x
find-all P test [] x a e = cc
find-all P test (y ∷ ys) x a e = by (test y) e (find-all P test ys x a.1)
  where
    by : (b : Bool) → cond b (Some y) (find test ys) ≡ Some x → (find test ys ≡ Some x → P x) → P x
    by true k more = let same : y ≡ x = cc in subst P same a.0
    by false k more = more k

-- a placement of the candidate of its number, the first one's number being this
pub record IsAt (rank : ℕ) (cs : List Candidate) (p : Placement) : Type 0 where
  pub later : ℕ
  pub rank_is : p.rank ≡ rank + later
  pub candidate_is : slice_get cs later ≡ Some p.candidate
  pub back : HasBack p.candidate.back p.back_n

placements-at : (band : Band) (rank : ℕ) (cs : List Candidate) →
    AllOf (IsAt rank cs) (placements_from band rank cs)
placements-at band rank [] = tt
placements-at band rank (c ∷ cs) =
    AllOf-append (IsAt rank (c ∷ cs)) (placements_of band rank c) (placements_from band (rank + 1) cs)
    (on_candidate (IsAt rank (c ∷ cs)) band rank c (λ n b k. record {
      later = 0;
      rank_is = omega arith;
      candidate_is = refl;
      back = k;
    }))
    (AllOf-more (IsAt (rank + 1) cs) (IsAt rank (c ∷ cs)) (λ p a. record {
      later = suc a.later;
      rank_is = let e = a.rank_is in omega arith;
      candidate_is = a.candidate_is;
      back = a.back;
    }) (placements_from band (rank + 1) cs) (placements-at band (rank + 1) cs))

in_list : (cs : List Candidate) (k : ℕ) (c : Candidate) → slice_get cs k ≡ Some c → k < length cs
in_list [] k c e = cc
in_list (x ∷ xs) zero c e = omega arith
in_list (x ∷ xs) (suc k) c e = let more = in_list xs k c e in omega arith

made : (band : Band) (w : SizedRoute) (n : ℤ) (back : Option SizedRoute) (back_n : Option ℤ) → HasBack back back_n →
    list_all (λ (p : Path). stands_in band p.slot)
    (path_at w n ∷ option_to_list (option_and_then (λ b. option_map (path_at b) back_n) back)) ≡ true →
    (is_slot (path_at w n).slot && back_can_be_made back back_n) ≡ true
made band w n None None has h =
    and_from _ true (and_parts (is_slot (path_at w n).slot) (lies_in_band band (units_of (path_at w n).slot))
    (and_parts (stands_in band (path_at w n).slot) true h).0).0 refl
made band w n None (Some z) has h = absurd has
made band w n (Some b) None has h = absurd has
made band w n (Some b) (Some z) has h =
    let parts = and_parts (stands_in band (path_at w n).slot) (stands_in band (path_at b z).slot && true) h in
    let back = and_parts (stands_in band (path_at b z).slot) true parts.1 in
    and_from _ _ (and_parts (is_slot (path_at w n).slot) (lies_in_band band (units_of (path_at w n).slot)) parts.0).0
    (and_parts (is_slot (path_at b z).slot) (lies_in_band band (units_of (path_at b z).slot)) back.0).0

module _ (list : State) (band : Band) (class : Class) (own : Option Leg) (cs : List Candidate) where
  place_of : (p : Placement) → first_clear list band class cs own ≡ Some p →
      IsPlaceOn (first_clear list band class cs own) cs (found_at p)
  place_of p e =
      let at = find-all (IsAt 0 cs) (placement_stands list band class own) (placements_from band 0 cs) p
      (placements-at band 0 cs) e in
      let stands = find-passes (placement_stands list band class own) (placements_from band 0 cs) p e in
      let slots = and_parts (list_all (λ (q : Path). stands_in band q.slot)
      ((leg_placed p).work ∷ option_to_list (leg_placed p).back))
      (list_all (is_clear_with class own (leg_placed p)) list) stands in
      let r = at.rank_is in
      let k = at.later in
      let rank : p.rank ≡ k = omega arith in
      let here : slice_get cs p.rank ≡ Some p.candidate = ap (slice_get cs) rank ∙ at.candidate_is in
      record {
        in_range = in_list cs p.rank p.candidate here;
        is_first = λ c k. let same : p.candidate ≡ c = cc in
            e ∙ ap (λ (x : Candidate). Some (placement_at x (found_at p))) same;
        slots = λ c k. let same : p.candidate ≡ c = cc in
            subst (λ (x : Candidate). can_be_made x (found_at p) ≡ true) same
            (made band p.candidate.work p.work_n p.candidate.back p.back_n at.back slots.0);
      }

  pub place-told : (f : Found) → Placed f ≡ answer_for (length cs) (first_clear list band class cs own) →
      IsPlaceOn (first_clear list band class cs own) cs f
  place-told f e =
      let told = placed-told (length cs) f (first_clear list band class cs own) e in
      subst (IsPlaceOn (first_clear list band class cs own) cs) told.is (place_of told.place told.is_first)
