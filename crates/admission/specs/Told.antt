-- The answer of the call for the first placement.
use Rattle.std.specs.Prelude.{◌≡◌, ℕ, zero, suc, ◌<◌, ℤ, Bool, true, false, ◌&&◌, ⊤, IsTrue, List, length, slice_get, Option, Some, None}
use Rattle.eon_model.specs.Grid.{is_slot}
use Rattle.eon_model.specs.Candidates.{SizedRoute, Candidate}
use Rattle.eon_model.specs.FirstFit.{Placement, path_at}
use Rattle.admission.specs.declared.placing.Found.{Found}
use Rattle.admission.specs.declared.placing.Admit.{Admit}
use Rattle.admission.specs.declared.placing.Admit.TheVariants.{NoRoute, Blocked, Placed}

-- the number and the centres of the placement
abbrev pub found_at : Placement → Found
found_at p = record { pair = p.rank; work_n = p.work_n; back_n = p.back_n }

-- `NoRoute` for no pair, and else the placement that is first, or `Blocked` with the number of pairs
abbrev pub answer_for : ℕ → Option Placement → Admit
answer_for zero found = NoRoute
answer_for (suc others) None = Blocked (suc others)
answer_for (suc others) (Some p) = Placed (found_at p)

-- ---- what is placed

-- the placement of this candidate that is told
abbrev pub placement_at : Candidate → Found → Placement
placement_at c f = record { candidate = c; rank = f.pair; work_n = f.work_n; back_n = f.back_n }

-- a backup is told where the candidate has one, and its slot is one of the grid
abbrev pub back_can_be_made : Option SizedRoute → Option ℤ → Bool
back_can_be_made None None = true
back_can_be_made None (Some n) = false
back_can_be_made (Some b) None = false
back_can_be_made (Some b) (Some n) = is_slot (path_at b n).slot

-- and so is that of the working path
abbrev pub can_be_made : Candidate → Found → Bool
can_be_made c f = is_slot (path_at c.work f.work_n).slot && back_can_be_made c.back f.back_n

-- It is on one of the pairs, it is the first placement, and its slots are of the grid.
pub record IsPlaceOn (first : Option Placement) (pairs : List Candidate) (f : Found) : Type 0 where
  pub in_range : f.pair < length pairs
  pub is_first : (c : Candidate) → slice_get pairs f.pair ≡ Some c → first ≡ Some (placement_at c f)
  pub slots : (c : Candidate) → slice_get pairs f.pair ≡ Some c → IsTrue (can_be_made c f)

-- what holds of the place that is told, if one is
abbrev pub IfPlaced : Admit → (Found → Type 0) → Type 0
IfPlaced NoRoute P = ⊤
IfPlaced (Blocked pairs) P = ⊤
IfPlaced (Placed f) P = P f
